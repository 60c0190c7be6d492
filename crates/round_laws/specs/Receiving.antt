-- What a launcher decides that is spared of something, compared with a machine that hears all of it.
use Rattle.std.specs.Prelude.{◌≡◌, false, ⊤, List, [], ◌∷◌, ◌++◌, map, Option, Some}
use Rattle.std.specs.List.{AllByRecursion}
use Rattle.history_model.specs.declared.Refusal.{Refusal}
use Rattle.history_model.specs.declared.event.Event.TheVariants as journaled
use Rattle.history_model.specs.Machine.{State}
use Rattle.history_model.specs.Step.{Outcome}
use Rattle.history_model.specs.LeftOut.{Line, Delivered, LeftOut, outcomes_handed, outcomes_left}
use Rattle.job_table.specs.Taking.{machine_event}
use Rattle.launcher.specs.Inputs.{Incoming, happened}
use Rattle.launcher.specs.LoadTurns.{is_memory}
use Rattle.launcher_laws.specs.TurnRuns.{Part, AreParts, outcomes_in}
use Rattle.round_laws.specs.Marks.{Mark, Turned, Spared, turns_in}

-- All that happened to the machine, in order: of each turn its events, which were delivered; and what it was spared.
abbrev pub lines_of : {T : Type 0} → List (Mark T) → List Part → List Line
lines_of [] parts = []
lines_of (Turned turn ∷ marks) [] = []
lines_of (Turned turn ∷ marks) (part ∷ parts) = map Delivered (map machine_event part.0) ++ lines_of marks parts
lines_of (Spared event ∷ marks) parts = LeftOut (machine_event event) ∷ lines_of marks parts

-- The outcomes of these turns are those of a machine that heard all of this, from s on. At what the launcher was spared the machine gave no order.
pub record DecideAsOne {T : Type 0} (s : State) (marks : List (Mark T)) (parts : List Part) : Type 0 where
  pub same : outcomes_in parts ≡ outcomes_handed (lines_of marks parts) s
  pub silent : AllByRecursion (λ (out : Outcome). out.orders ≡ []) (outcomes_left (lines_of marks parts) s)

-- memory was not wanting, if this was a clock reading
abbrev pub HadMemory : Option Incoming → Option Refusal → Type 0
HadMemory (Some (happened (journaled.Clock at))) refusal = is_memory refusal ≡ false
HadMemory _ refusal = ⊤

-- so at each clock reading that was delivered
abbrev pub ReceivedReadings : {T : Type 0} → List (Mark T) → Type 0
ReceivedReadings [] = ⊤
ReceivedReadings (Turned turn ∷ marks) = HadMemory turn.incoming turn.refusal × ReceivedReadings marks
ReceivedReadings (Spared event ∷ marks) = ReceivedReadings marks

-- The turns are these parts of a run of the machine, and decide as if it had heard all.
pub record Decides {T : Type 0} (s : State) (marks : List (Mark T)) : Type 0 where
  pub parts : List Part
  pub are_parts : AreParts (turns_in marks) parts
  pub decide : DecideAsOne s marks parts
