-- One question, or none.
use Rattle.live_loop.specs.Looks.{no_question, ahead}
use Rattle.live_loop.proofs.paths.Observations.ask_next.Goals as goal

pub returns-in_default-clause-asks : goal.returns-in_default-clause-asks
returns-in_default-clause-asks g c = no_question

pub returns-then-is_err-clause-asks : goal.returns-then-is_err-clause-asks
returns-then-is_err-clause-asks g c = no_question

pub returns-then-not-ask-clause-asks : goal.returns-then-not-ask-clause-asks
returns-then-not-ask-clause-asks g c = ahead no_question c.ask.ensures

pub returns-clause-asks : goal.returns-clause-asks
returns-clause-asks g c = ahead no_question c.ask.ensures
