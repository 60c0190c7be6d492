-- The children that a pass asks about.
use Rattle.std.specs.Prelude.{◌≡◌, ◌⊎◌, ℕ, ◌+◌, ◌-◌, ◌^◌, ◌<◌, min, Option, Some, None}
use Rattle.history_model.specs.declared.TheConstants.{MAX_JOBS}

module _ {H : Type 0} (Polled : ℕ → Option ℕ → H → H → Type 0) where
  -- `n` runs were over. Each was asked for after the job of the one before, the first of them from this number on.
  pub data Polls (first : ℕ) (old : H) : ℕ → ℕ → H → Type 0 where
    no_poll : Polls first old 0 first old
    one_more : {n next job : ℕ} {mid new : H} → Polls first old n next mid →
        Polled next (Some job) mid new → Polls first old (n + 1) (min (job + 1) (2 ^ 32 - 1)) new

  -- All were asked for, and the next pass begins with the first job; or time ran out after one of them, and it begins after that one.
  pub record PollsAll (first : ℕ) (old : H) (next : ℕ) (new : H) : Type 0 where
    pub polls : ℕ
    pub behind : ℕ
    pub mid : H
    pub over : Polls first old polls behind mid
    pub rest : (Polled behind None mid new × (next ≡ 0))
        ⊎ ((0 < polls) × (new ≡ mid) × (next ≡ behind))
        ⊎ ((polls ≡ MAX_JOBS) × (new ≡ mid) × (next ≡ 0))
