-- The faults that a check lists of a definition.
use Rattle.std.specs.Prelude.{◌≡◌, ℕ, ◌-◌, ◌<◌, List, [], ◌∷◌, Result, Ok, Err}
use Rattle.serde_json.specs.Data.{Data}
use Rattle.serde_json.specs.Find.{get}
use Rattle.history_model.specs.declared.KeyName.{KeyName}
use Rattle.history_model.specs.declared.KeyName.TheVariants.{NoKey}
use Rattle.history_model.specs.Described.{Described}
use Rattle.history_model.specs.RefusalTexts.{key_text}
use Rattle.json_kinds.specs.DefFaults.{bad}
use Rattle.job_defs.specs.Keys.{def_at}
use Rattle.definition_files.specs.declared.check.faults.FaultAt.{FaultAt}

-- Under each name but that of the key there is what was there. Without a key the whole may be another one.
abbrev pub ChangesKey : KeyName → Data → Data → Type 0
ChangesKey key old new =
    (key ≡ NoKey → ⊥) → (name : List ℕ) → (name ≡ key_text key → ⊥) → get name new ≡ get name old

-- The first fault is what the reader says of the definition. The others are those of the next definition, in
-- which the value of its key was mended. After the last the reader takes the definition, unless no more faults
-- may be listed.
abbrev pub AreSaid : ℕ → Data → List FaultAt → Type 0
AreSaid most old [] = 0 < most → (described : Described) × (def_at old ≡ Ok described)
AreSaid most old (first ∷ others) =
    (0 < most)
    × (def_at old ≡ Err (bad first.reason first.key))
    × (next : Data)
    × ChangesKey first.key old next
    × AreSaid (most - 1) next others
