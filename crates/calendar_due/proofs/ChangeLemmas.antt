-- What a change of the clock skips and repeats.
use Rattle.std.proofs.Common.{◌≡◌, ◌≢◌, ◌<◌, ◌≤◌, ◌⊎◌, inl, inr, ℕ, ◌+◌, ◌-◌, ◌%◌, ℤ, pos, ◌+ℤ◌, ◌≤ℤ◌, ◌<ℤ◌, ap, ◌∙◌, subst, arith}
use Rattle.std.proofs.lemmas.Bool.Decides.{leb_tells}
use Rattle.jiff.proofs.SpanFacts.{signed_arith}
use Rattle.jiff_core.specs.Calendar.{IsWithin}
use Rattle.history_model.specs.declared.CivilMinute.{CivilMinute}
use Rattle.calendar_due.specs.Minute.{shown_minute}
use Rattle.calendar_due.specs.Offsets.{Offsets, clock_seconds, shown_by}
use Rattle.calendar_due.proofs.DateLemmas.{start_of-shown_minute}
use Rattle.calendar_due.specs.Changes.{IsChange, IsSkipped, IsRepeated, AreShowings, start_of}

-- the offsets on both sides of a change
sides_near : (ahead : Offsets) (change : ℕ) (before after : ℤ) → IsChange ahead change before after → IsWithin 93_599 before × IsWithin 93_599 after
sides_near ahead change before after is =
    let begun = is.begun in
    let until = is.until (change - 1) (omega arith) (omega arith) in
    let since = is.since change (omega arith) (omega arith) in
    (subst (IsWithin 93_599) until (is.near (change - 1)), subst (IsWithin 93_599) since (is.near change))

-- a second at which the clock shows a civil minute
showing : (ahead : Offsets) (m : ℕ) (at : CivilMinute) → IsWithin 93_599 (ahead m) → shown_by ahead m ≡ at
    → (start_of at ≤ℤ (pos m +ℤ ahead m)) × ((pos m +ℤ ahead m) <ℤ (start_of at +ℤ pos 60))
unfolding shown_by
showing ahead m at near is =
    let low = near.0 in
    subst (λ (x : CivilMinute). (start_of x ≤ℤ (pos m +ℤ ahead m)) × ((pos m +ℤ ahead m) <ℤ (start_of x +ℤ pos 60))) is
    (start_of-shown_minute (clock_seconds ahead m) (omega (arith, signed_arith)))

-- before the change the clock has not come to the gap, and from it on it is past it
pub skipped : (ahead : Offsets) (change : ℕ) (before after : ℤ) (at : CivilMinute) → IsChange ahead change before after → IsSkipped change before after at
    → (m : ℕ) → shown_by ahead m ≢ at
skipped ahead change before after at is gap m shows =
    let low = gap.low in
    let high = gap.high in
    let near = is.near m in
    let sides = sides_near ahead change before after is in
    let here = showing ahead m at near shows in
    elim (leb_tells change m) [
      | inl later ↦
          let reached = later.1 in
          let since = is.since m reached (omega (arith, signed_arith)) in
          absurd (omega (arith, signed_arith))
      | inr earlier ↦
          let not_yet = earlier.1 in
          let until = is.until m not_yet (omega (arith, signed_arith)) in
          absurd (omega (arith, signed_arith))
    ]

-- the two showings lie on both sides of the change, near to it
showings_near : (ahead : Offsets) (change first second : ℕ) (before after : ℤ) (at : CivilMinute) → IsChange ahead change before after → IsRepeated change before after at
    → AreShowings first second before after at → (first < change) × (change ≤ first + 200_000) × (change ≤ second) × (second ≤ change + 200_000)
showings_near ahead change first second before after at is fold are =
    let low = fold.low in
    let high = fold.high in
    let earlier = are.earlier in
    let later = are.later in
    let sides = sides_near ahead change before after is in
    (omega (arith, signed_arith), omega (arith, signed_arith), omega (arith, signed_arith), omega (arith, signed_arith))

pub two_showings : (ahead : Offsets) (change first second : ℕ) (before after : ℤ) (at : CivilMinute) → IsChange ahead change before after → IsRepeated change before after at
    → AreShowings first second before after at → (first < second) × (shown_by ahead first ≡ at) × (shown_by ahead second ≡ at)
unfolding shown_by
two_showings ahead change first second before after at is fold are =
    let near = showings_near ahead change first second before after at is fold are in (
      omega (arith, near),
      ap (λ z. shown_minute (pos first +ℤ z)) (is.until first near.0 near.1) ∙ ap shown_minute are.earlier ∙ fold.real,
      ap (λ z. shown_minute (pos second +ℤ z)) (is.since second near.2 near.3) ∙ ap shown_minute are.later ∙ fold.real,
    )

-- a whole minute of Unix time at which the clock shows the repeated minute is one of the two
pub only_showings : (ahead : Offsets) (change first second : ℕ) (before after : ℤ) (at : CivilMinute) → IsChange ahead change before after → IsRepeated change before after at
    → AreShowings first second before after at → first % 60 ≡ 0 → second % 60 ≡ 0 → (m : ℕ) → m % 60 ≡ 0 → shown_by ahead m ≡ at → (m ≡ first) ⊎ (m ≡ second)
only_showings ahead change first second before after at is fold are first_whole second_whole m whole shows =
    let low = fold.low in
    let high = fold.high in
    let earlier = are.earlier in
    let later = are.later in
    let near = is.near m in
    let sides = sides_near ahead change before after is in
    let here = showing ahead m at near shows in
    elim (leb_tells change m) [
      | inl past ↦
          let reached = past.1 in
          let since = is.since m reached (omega (arith, signed_arith)) in
          inr (omega (arith, signed_arith))
      | inr coming ↦
          let not_yet = coming.1 in
          let until = is.until m not_yet (omega (arith, signed_arith)) in
          inl (omega (arith, signed_arith))
    ]
