-- What the check of `jobctl::control_command` does not find by itself.
use Rattle.std.proofs.Common.{refl, sym}
use Rattle.command_words.proofs.MeaningLemmas.{meant_found, meant_faulty}
use Rattle.command_words.proofs.jobctl.control_command.Goals as goal

pub returns-in-Ok-parse : goal.returns-in-Ok-parse
returns-in-Ok-parse c = rw (meant_found _ _ _ c.in-Ok-parse.matches c.in-Ok.ensures.app c.in-Ok-parse.ensures.found) c.read_matches-meant.ensures

pub returns-in-Err-Usage : goal.returns-in-Err-Usage
returns-in-Err-Usage c = sym (meant_faulty _ _ _ c.in-Ok.ensures.app (λ simple. c.in-Err-Usage.ensures.usage simple c.in-Err-Usage.field-0-is))
