-- What happened to the runs of one load of a job, and when (launchd(8): a start, its refusal, the signals that end a run, its
-- exit). NEWEST FIRST: the tail after an item is what came before it in time.
use Rattle.history_model.specs.declared.Reading.{Reading}
use Rattle.run_log.specs.declared.facts.RunItem.{RunItem}

-- an item, and the clock reading at which it came
abbrev pub Told : Type 0
Told = RunItem × Reading
