-- A clock reading that is a number of seconds later makes the spawn due by the clock alone, or by a calendar entry; and the
-- least such number.
use Rattle.std.proofs.Common.{◌≡◌, ℕ, ◌+◌, ◌*◌, ◌<◌, ◌≤◌, Bool, true, false, not, ◌&&◌, ◌||◌, cond, List, [], ◌∷◌, length, ◌==◌, ap, Option, Some, None, unwrap_or, refl, sym, ◌∙◌, nat_lt, nat_le, arith}
use Rattle.std.specs.Prelude.{◌-◌, max, IfSome}
use Rattle.std.specs.List.{list_any}
use Rattle.std.proofs.lemmas.Bool.Decides.{nat_tests}
use Rattle.history_model.specs.declared.Entry.{Entry}
use Rattle.history_model.specs.declared.Reading.{Reading}
use Rattle.history_model.specs.declared.TheConstants.{SECOND}
use Rattle.history_model.specs.Items.{History}
use Rattle.history_model.specs.Clock.{now, definition_of}
use Rattle.history_model.specs.Demands.{interval_fires}
use Rattle.history_model.specs.Due.{is_wanted, is_throttled}
use Rattle.history_model.specs.Calendar.{Zone, crossed, matches, calendar_fires}
use Rattle.history_model.specs.Moments.{HasPeriod}
use Rattle.history_model.specs.NextMomentByFacts.{has_come}
use Rattle.history_model.specs.Reasons.{reasons_of, needs_event, free_from, throttled_until, spawns_from}
use Rattle.history_model.specs.NextRun.{later, spawns_after, IsNextRun}
use Rattle.history_model.proofs.ReasonsLemmas.{free-at, reading-due, moment-due}

-- what the calendar adds to the clock
apart : (needs fires crossed wanted free : Bool) →
    (not needs && (fires || crossed || wanted) && free) ≡ ((not needs && (false || crossed || wanted) && free) || (not needs && fires && free))
apart true fires crossed wanted free = refl
apart false true true wanted true = refl
apart false true true wanted false = refl
apart false true false true true = refl
apart false true false true false = refl
apart false true false false free = refl
apart false false true wanted true = refl
apart false false true wanted false = refl
apart false false false true true = refl
apart false false false true false = refl
apart false false false false free = refl

-- the throttle's end in the reasons decides at every later time
free-told : (t : History) (up : ℕ) → (now t).up ≤ up → nat_le (free_from t) up ≡ nat_le (unwrap_or (throttled_until t) 0) up
free-told t up rising = go (is_throttled t) (free-at (now t).up t) where
  go : (b : Bool) → nat_lt (now t).up (free_from t) ≡ b → nat_le (free_from t) up ≡ nat_le (unwrap_or (cond b (Some (free_from t)) None) 0) up
  go true e = refl
  go false e = grind (arith, nat_tests, e, rising)

-- no minute is matched by no entry
none_fires : (zone : Zone) (entries : List Entry) (previous wall : ℕ) → (length entries == 0) ≡ true → calendar_fires zone entries previous wall ≡ false
none_fires zone [] previous wall none = none-of (crossed previous wall) where
  none-of : (minutes : List ℕ) → list_any (λ m. list_any (λ entry. matches entry (zone m)) []) minutes ≡ false
  none-of [] = refl
  none-of (m ∷ minutes) = none-of minutes
none_fires zone (entry ∷ entries) previous wall none = grind (arith, nat_tests, none)

pub none_starts : (zone : Zone) (entries : List Entry) (previous wall : ℕ) (needs free : Bool) → (length entries == 0) ≡ true
    → false ≡ (not needs && calendar_fires zone entries previous wall && free)
none_starts zone entries previous wall true free none = refl
none_starts zone entries previous wall false free none = ap (λ fires. not false && fires && free) (sym (none_fires zone entries previous wall none))

-- an event is needed first
pub kept_out : (needs fires free : Bool) → needs ≡ true → false ≡ (not needs && fires && free)
kept_out needs fires free some = ap (λ b. not b && fires && free) (sym some)

-- no entry fires
pub not_fired : (needs fires free : Bool) → fires ≡ false → false ≡ (not needs && fires && free)
not_fired true fires free none = refl
not_fired false fires free none = ap (λ b. not false && b && free) (sym none)

later_of : (minute wall soon d : ℕ) → nat_le (max (minute - wall) soon) d ≡ (nat_le minute (wall + d) && nat_le soon d)
later_of minute wall soon d = grind (arith, nat_tests)

-- the later of the minute that fires and the throttle's end
pub minute_starts : (needs fires free : Bool) (minute wall soon d : ℕ) → needs ≡ false → fires ≡ nat_le minute (wall + d) → free ≡ nat_le soon d
    → nat_le (max (minute - wall) soon) d ≡ (not needs && fires && free)
minute_starts needs fires free minute wall soon d none fired over =
    later_of minute wall soon d ∙ (λ i. not (sym none i) && sym fired i && sym over i)

pub spawns-after : (zone : Zone) (t : History) → HasPeriod t → (d : ℕ) → spawns_after zone t d
    ≡ (has_come (spawns_from t) ((now t).up + SECOND * d)
    || (not (needs_event (reasons_of t)) && calendar_fires zone (definition_of t).calendar (now t).wall ((now t).wall + d)
    && nat_le (unwrap_or (throttled_until t) 0) ((now t).up + SECOND * d)))
spawns-after zone t period d =
    let at : Reading = later (now t) d in
    let fires = calendar_fires zone (definition_of t).calendar (now t).wall ((now t).wall + d) in
    reading-due t at fires
    ∙ apart (needs_event (reasons_of t)) fires (interval_fires t at) (is_wanted t) (nat_le (free_from t) at.up)
    ∙ (λ i. (sym (reading-due t at false) ∙ moment-due t at period) i
    || (not (needs_event (reasons_of t)) && fires && free-told t at.up (let rising : (now t).up ≤ (now t).up + SECOND * d = omega arith in rising) i))

-- a number from which on it holds is the least
pub least-run : (zone : Zone) (t : History) (ahead : ℕ) (o : Option ℕ) → IfSome o (λ d. d ≤ ahead) → ((d : ℕ) → d ≤ ahead → spawns_after zone t d ≡ has_come o d) → IsNextRun zone t ahead o
least-run zone t ahead None bound from = from
least-run zone t ahead (Some d) bound from = (bound, there, none) where
  there : spawns_after zone t d ≡ true
  there = from d bound ∙ grind (arith, nat_tests)

  none : (sooner : ℕ) → sooner < d → spawns_after zone t sooner ≡ false
  none sooner less = from sooner (omega (arith, less, bound)) ∙ grind (arith, nat_tests, less)
