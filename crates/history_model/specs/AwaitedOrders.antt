-- The orders that wait for their answers, in the midst of a turn.
use Rattle.std.specs.Prelude.{◌≡◌, ℕ, ◌+◌, false, List, [], ◌∷◌, Some}
use Rattle.std.specs.List.{filter, AllByRecursion}
use Rattle.history_model.specs.declared.Act.{Act}
use Rattle.history_model.specs.declared.Act.TheVariants.{Spawn, Term, Kill, Close, Gone}
use Rattle.history_model.specs.Items.{History, Ordered}
use Rattle.history_model.specs.Search.{first}
use Rattle.history_model.specs.Labels.{Label, is_same}
use Rattle.history_model.specs.Machine.{Job, is_of, past_in}
use Rattle.history_model.specs.Turns.{JobOrder}

-- how many answers may still come of an order, its own counted: of a spawn also a KILL and a TERM,
-- of a KILL that is refused a TERM
abbrev pub weight : Act → ℕ
weight (Spawn run conn) = 3
weight (Kill run) = 2
weight (Term run) = 1
weight (Close conn) = 0
weight Gone = 0

-- the weights of the orders that wait, added up
abbrev pub weigh_orders : List JobOrder → ℕ
weigh_orders [] = 0
weigh_orders ((label, act) ∷ rest) = weight act + weigh_orders rest

-- the order is the last thing that happened to the label's job
abbrev pub IsFresh : List Job → JobOrder → Type 0
IsFresh jobs (label, act) =
    (t : History) × (past_in (first (filter (is_of label) jobs)) ≡ Some (Ordered act ∷ t))

-- the order is of a job with another label
abbrev pub IsOfOther : Label → JobOrder → Type 0
IsOfOther label (other, act) = is_same label other ≡ false

-- and so each, of labels that differ
abbrev pub AreFresh : List Job → List JobOrder → Type 0
AreFresh jobs [] = Unit {0}
AreFresh jobs ((label, act) ∷ rest) =
    IsFresh jobs (label, act) × AllByRecursion (IsOfOther label) rest × AreFresh jobs rest
