-- The state's word is in the text.
use Rattle.loaded_jobs.proofs.texts.head.Goals as goal

pub returns : goal.returns
returns c = rw c.doing-state.ensures at c.format.ensures.ok
