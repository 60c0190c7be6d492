use Rattle.std.proofs.Common.{[], refl}
use Rattle.run_times.proofs.GrowingLemmas.{adds_none}
use Rattle.json_lines.proofs.MembersLemmas.{told_more, told_all}
use Rattle.json_lines.proofs.put_members.Goals as goal

pub loop-field-init : goal.loop-field-init
loop-field-init c = ([], refl, adds_none c.args.page.now.writer)

pub loop-field-preserved : goal.loop-field-preserved
loop-field-preserved c = told_more c.loop-field.field-index c.args.fields.now _ c.args.page.now.writer c.loop-field.page.writer c.put_member.new.page.writer c.loop-field-test.true c.loop-field.invariant c.put_member.ensures

pub returns : goal.returns
returns c = told_all c.args.fields.now c.loop-field.field-index c.args.page.now.writer c.loop-field.page.writer c.loop-field-test.false c.loop-field.invariant
