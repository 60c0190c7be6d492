-- The children that a pass asks about, by rising numbers.
use Rattle.std.proofs.Common.{◌≡◌, ◌⊎◌, inl, inr, ℕ, ◌+◌, ◌-◌, ◌^◌, ◌≤◌, ◌<◌, min, Option, Some, None, refl, sym, subst, arith}
use Rattle.history_model.specs.declared.TheConstants.{MAX_JOBS}
use Rattle.live_loop.specs.Children.{Polls, PollsAll, no_poll, one_more}

module _ {H : Type 0} {Polled : ℕ → Option ℕ → H → H → Type 0} (rises : (first job : ℕ) (old new : H) → Polled first (Some job) old new → first ≤ job) where
  on : (first : ℕ) {old : H} {n next : ℕ} {new : H} → Polls Polled first old n next new → ((n ≡ 0) × (next ≡ first)) ⊎ (min (first + 1) (2 ^ 32 - 1) ≤ next)
  on first no_poll = inl (refl, refl)
  on first (one_more {n} {next} {job} {mid} {new} more polled) =
      let above : next ≤ job = rises next job mid new polled in
      inr (elim (on first more) [
        | inl none ↦ omega (arith, above, none.1)
        | inr behind ↦ omega (arith, above, behind)
      ])

  pub all-on : (first : ℕ) (old : H) (next : ℕ) (new : H) → PollsAll Polled first old next new → (next ≡ 0) ⊎ (min (first + 1) (2 ^ 32 - 1) ≤ next)
  all-on first old next new polls = elim polls.rest [
    | inl all ↦ inl all.1
    | inr rest ↦ elim rest [
      | inl some ↦ elim (on first polls.over) [
        | inl none ↦ absurd (omega (arith, none.0, some.0))
        | inr behind ↦ inr (subst (λ n. min (first + 1) (2 ^ 32 - 1) ≤ n) (sym some.2) behind)
      ]
      | inr all ↦ inl all.2
    ]
  ]
