-- The events of a turn: one event, and then the answers to the orders that it gave, and to theirs
-- (launchd(8); the order is this project's own).
use Rattle.std.specs.Prelude.{◌≡◌, Bool, true, false, ◌&&◌, List, [], ◌∷◌, ◌++◌}
use Rattle.std.specs.List.{filter}
use Rattle.history_model.specs.declared.Act.{Act}
use Rattle.history_model.specs.declared.Act.TheVariants.{Spawn, Term, Kill, Close, Gone}
use Rattle.history_model.specs.Items.{Answered}
use Rattle.history_model.specs.Runs.{is_answer_to}
use Rattle.history_model.specs.Labels.{Label, is_same}
use Rattle.history_model.specs.Machine.{State, Event, OfJob}
use Rattle.history_model.specs.Step.{outcome, step}

-- an order, by the label of its job
abbrev pub JobOrder : Type 0
JobOrder = Label × Act

-- the order has an answer: a spawn, a TERM or a KILL has, a closed connection and a job that is
-- gone have none
abbrev pub wants_answer : JobOrder → Bool
wants_answer (label, Spawn run conn) = true
wants_answer (label, Term run) = true
wants_answer (label, Kill run) = true
wants_answer (label, Close conn) = false
wants_answer (label, Gone) = false

-- the event is an answer to the order
abbrev pub is_answer : JobOrder → Event → Bool
is_answer (label, act) (OfJob other (Answered answer)) =
    is_same label other && is_answer_to answer act
is_answer order _ = false

-- the orders that have an answer
abbrev pub wanting : List JobOrder → List JobOrder
wanting orders = filter wants_answer orders

-- the events answer the orders that wait, first in first out; the orders that they give go to the
-- back
abbrev pub AreAnswers : State → List JobOrder → List Event → Type 0
AreAnswers s waits [] = Unit {0}
AreAnswers s [] (e ∷ es) = ⊥
AreAnswers s (job_order ∷ waits) (e ∷ es) =
    (is_answer job_order e ≡ true)
    × AreAnswers (step s e) (waits ++ wanting (outcome s e).orders) es

-- the orders that then wait
abbrev pub still_waiting : State → List JobOrder → List Event → List JobOrder
still_waiting s waits [] = waits
still_waiting s [] (e ∷ es) = []
still_waiting s (job_order ∷ waits) (e ∷ es) =
    still_waiting (step s e) (waits ++ wanting (outcome s e).orders) es

-- a whole turn: each order is answered once, first in first out, and none remains
abbrev pub IsWholeTurn : State → Event → List Event → Type 0
IsWholeTurn s e answers =
    AreAnswers (step s e) (wanting (outcome s e).orders) answers
    × (still_waiting (step s e) (wanting (outcome s e).orders) answers ≡ [])
