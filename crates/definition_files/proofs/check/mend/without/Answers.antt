use Rattle.std.proofs.Common.{◌≡◌, ◌∙◌}
use Rattle.definition_files.proofs.FaultsLemmas.{take_other}
use Rattle.definition_files.proofs.check.mend.without.Goals as goal

-- src/check/mend.rt: the other names keep their values
pub returns : goal.returns
returns c = λ name other. take_other c.remove.new.self c.args.members.entries c.key_name.result.now name c.remove.ensures.entries (λ h. other (h ∙ c.key_name.ensures))
