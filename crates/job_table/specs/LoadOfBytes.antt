-- The load of a definition's bytes.
use Rattle.std.specs.Prelude.{◌≡◌, Bool, List, ℕ, Result, Ok, Err}
use Rattle.history_model.specs.declared.Refusal.{Refusal}
use Rattle.history_model.specs.declared.Refusal.TheVariants.{BadDefinition}
use Rattle.history_model.specs.Machine.{State, Event, Load, Given, Fault}
use Rattle.history_model.specs.Acceptance.{refusal_in}
use Rattle.history_model.specs.Described.{Described}
use Rattle.history_model.specs.Definitions.{given}
use Rattle.job_defs.specs.Keys.{def_of}
use Rattle.loaded_jobs.specs.Tables.{Table}
use Rattle.loaded_jobs.specs.StandsFor.{KeepsState}
use Rattle.loaded_jobs.specs.Loads.{refusal_outside}

abbrev pub given_in : Result Described Fault → Result Given Fault
given_in (Ok described) = Ok (given described)
given_in (Err fault) = Err fault

-- the load of a definition's bytes, with what the outside answers
abbrev pub load_of_bytes : List ℕ → (writes_setting force bind store : Bool) → Event
load_of_bytes bytes writes_setting force bind store =
    Load (given_in (def_of bytes)) writes_setting force bind store

-- the bytes are a definition, and nothing but the outside refuses its load
pub record IsReadAndAdmitted (table : Table) (bytes : List ℕ) (writes_setting force : Bool)
    (described : Described) : Type 0 where
  pub read : def_of bytes ≡ Ok described
  pub remains : (s : State) (bind store : Bool) → KeepsState table s →
      refusal_in s (load_of_bytes bytes writes_setting force bind store)
      ≡ refusal_outside described writes_setting bind store

-- the refusal is the definition's first fault
abbrev pub IsBad : Result Described Fault → Refusal → Type 0
IsBad read refusal =
    (fault : Fault) × (read ≡ Err fault) × (refusal ≡ BadDefinition fault.reason fault.key)
