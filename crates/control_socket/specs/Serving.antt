-- Lines that are answered, one after another.
use Rattle.std.specs.Prelude.{ℕ, List}
use Rattle.history_model.specs.declared.Reply.{Reply}

module _ {A : Type 0} (Answered : List ℕ → Reply → A → A → Type 0) where
  -- who answers went on from the one to the other by lines alone, each answered once
  pub data Serves (from : A) : A → Type 0 where
    nobody : Serves from from
    one_more : {line : List ℕ} {reply : Reply} {mid new : A} →
        Serves from mid → Answered line reply mid new → Serves from new
