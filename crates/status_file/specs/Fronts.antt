-- How the line of a job begins.
use Rattle.std.specs.Prelude.{◌≡◌, ℕ, List, ◌∷◌, codes, IsSome}
use Rattle.std.specs.Str.Parse.{digits_value, without_leading_plus}
use Rattle.json.specs.Json.{document}
use Rattle.json.specs.Lex.{tokens}
use Rattle.json.specs.Token.{Token, begin_object, key, number, string}

-- Tokens that begin as those of the job with this label: `{"job":{"label":LABEL`. So begin all that `job_tokens` gives.
abbrev pub BeginsWithLabel : List Token → List ℕ → Type 0
BeginsWithLabel tokens label =
    (rest : List Token)
    × (tokens ≡ begin_object ∷ key (codes "job") ∷ begin_object ∷ key (codes "label") ∷ string label ∷ rest)

-- a line of JSON (RFC 8259) that begins so
abbrev pub IsLineOf : List ℕ → List ℕ → Type 0
IsLineOf line label = IsSome (document line) × BeginsWithLabel (tokens line) label

-- tokens that begin with a state and this process: `"state":STATE,"pid":PID`
abbrev pub BeginsWithProcess : List Token → ℕ → Type 0
BeginsWithProcess tokens pid =
    (state : List ℕ) × (digits : List ℕ) × (rest : List Token)
    × (tokens ≡ key (codes "state") ∷ string state ∷ key (codes "pid") ∷ number digits ∷ rest)
    × (pid ≡ digits_value 10 (without_leading_plus digits))

-- after the label of the job come its state and this process
abbrev pub HasProcess : List Token → List ℕ → ℕ → Type 0
HasProcess tokens label pid =
    (rest : List Token)
    × (tokens ≡ begin_object ∷ key (codes "job") ∷ begin_object ∷ key (codes "label") ∷ string label ∷ rest)
    × BeginsWithProcess rest pid

-- a line of JSON that has this label and this process so
abbrev pub IsProcessOf : List ℕ → List ℕ → ℕ → Type 0
IsProcessOf line label pid = IsSome (document line) × HasProcess (tokens line) label pid
