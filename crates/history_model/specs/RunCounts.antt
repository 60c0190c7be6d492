-- Counts over whole runs of the machine, of which a law speaks. It follows no manual page.
use Rattle.std.specs.Prelude.{ℕ, ◌+◌, Bool, false, not, ◌&&◌, List, [], ◌∷◌, is_some, if◌then◌else◌}
use Rattle.history_model.specs.declared.Answer.TheVariants.{Spawned}
use Rattle.history_model.specs.Items.{Answered, RunEnded}
use Rattle.history_model.specs.Labels.{Label, is_same}
use Rattle.history_model.specs.Machine.{State, Event, OfJob}
use Rattle.history_model.specs.Acceptance.{refusal_in}
use Rattle.history_model.specs.Step.{step}

-- the event says that a spawn of the label's job succeeded
abbrev pub is_start_of : Label → Event → Bool
is_start_of label (OfJob other (Answered (Spawned run pid))) = is_same label other
is_start_of label _ = false

-- the event says that a run of the label's job ended
abbrev pub is_finish_of : Label → Event → Bool
is_finish_of label (OfJob other (RunEnded run how)) = is_same label other
is_finish_of label _ = false

-- the event is not refused, and passes
abbrev pub is_taken_as : (Event → Bool) → State → Event → Bool
is_taken_as passes s e = not (is_some (refusal_in s e)) && passes e

-- how many of the events pass, refused ones left out
abbrev pub count_taken : (Event → Bool) → List Event → State → ℕ
count_taken passes [] s = 0
count_taken passes (e ∷ es) s =
    (if is_taken_as passes s e then 1 else 0) + count_taken passes es (step s e)
