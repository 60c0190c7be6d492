-- What a writer holds after a text was written to it, all of it or a front.
use Rattle.std.specs.Prelude.{◌≡◌, ℕ, List, ◌++◌, Bool, true, false, Option}
use Rattle.std.specs.Io.KnownBytes.{Appends}

-- a front of the text was written
pub record AppendsFront (held holds : Option (List ℕ)) (all : List ℕ) : Type 0 where
  pub front : List ℕ
  pub rest : List ℕ
  pub split : all ≡ front ++ rest
  pub wrote : Appends held holds front

-- the writer took all of the text, or if it refused, a front of it
abbrev pub Takes : Bool → Option (List ℕ) → Option (List ℕ) → List ℕ → Type 0
Takes true held holds all = Appends held holds all
Takes false held holds all = AppendsFront held holds all
