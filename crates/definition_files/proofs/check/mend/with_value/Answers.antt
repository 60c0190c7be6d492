use Rattle.std.proofs.Common.{◌≡◌, ◌∙◌}
use Rattle.definition_files.proofs.FaultsLemmas.{put_other}
use Rattle.definition_files.proofs.check.mend.with_value.Goals as goal

-- src/check/mend.rt: the other names keep their values
pub returns : goal.returns
returns c = λ name other. put_other c.insert.new.self c.args.members.entries c.in_ok-name.name c.args.value name c.in_ok-insert.ensures.entries (λ h. other (h ∙ c.in_ok-name.ensures.ok ∙ c.key_name.ensures))
