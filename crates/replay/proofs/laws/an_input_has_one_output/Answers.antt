-- What the check of `laws::an_input_has_one_output` does not find by itself.
use Rattle.replay.proofs.OneOutputLemmas.{one_output, output_or_none}
use Rattle.replay.proofs.laws.an_input_has_one_output.Goals as goal

pub returns-clause-same : goal.returns-clause-same
returns-clause-same c = one_output

pub returns-clause-only : goal.returns-clause-only
returns-clause-only c = output_or_none
