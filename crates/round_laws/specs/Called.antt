-- What an edge is called for in passes: within each turn for what the turn says, and between turns for questions alone.
use Rattle.std.specs.Prelude.{◌≡◌, ℕ, Bool, true, false, List, [], ◌∷◌, Option}
use Rattle.std.specs.List.{AllByRecursion}
use Rattle.child_edge.specs.Calls.{Tells, ToldCall}
use Rattle.child_edge.specs.declared.plain.EdgeCall.{EdgeCall}
use Rattle.child_edge.specs.declared.plain.EdgeCall.TheVariants.{Start, Term, Kill, Poll, Bind, Close, Release, Look, Clock}
use Rattle.round_laws.specs.Marks.{Mark, Turned, Spared}

-- It is asked after a child, a path or the clocks, or a client's connection is closed. Nothing is started, signalled, bound or given up.
abbrev pub is_question : EdgeCall → Bool
is_question (Start job run conn) = false
is_question (Term job run) = false
is_question (Kill job run) = false
is_question (Poll job run) = true
is_question (Bind job) = false
is_question (Close job conn) = true
is_question (Release job) = false
is_question Look = true
is_question Clock = true

-- from the one to the other it was called for questions alone
pub record AsksOnly (old new : Option (List ToldCall)) : Type 0 where
  pub asked : List ToldCall
  pub told : Tells old asked new
  pub questions : AllByRecursion (λ (told : ToldCall). is_question told.0 ≡ true) asked

-- between these turns, before the first and after the last
abbrev pub AsksBetween : {T : Type 0} → Option (List ToldCall) → List (Mark T) → Option (List ToldCall) → Type 0
AsksBetween old [] new = AsksOnly old new
AsksBetween old (Turned turn ∷ marks) new =
    AsksOnly old turn.before.stands.calls × AsksBetween turn.after.stands.calls marks new
AsksBetween old (Spared event ∷ marks) new = AsksBetween old marks new
