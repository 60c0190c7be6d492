use Rattle.std.proofs.Common.{subst}
use Rattle.std.proofs.lemmas.List.{take_all}
use Rattle.std.specs.List.{flat_map}
use Rattle.run_times.specs.Written.{Adds}
use Rattle.run_times.proofs.GrowingLemmas.{adds_none}
use Rattle.json_lines.specs.Objects.{more_text}
use Rattle.json_lines.proofs.MembersLemmas.{adds_next}
use Rattle.json_lines.proofs.put_more.Goals as goal

pub loop-text-init : goal.loop-text-init
loop-text-init c = adds_none c.args.writer.now

pub loop-text-preserved : goal.loop-text-preserved
loop-text-preserved c =
    adds_next more_text c.args.texts.now c.loop-text.text-index _ c.args.writer.now c.loop-text.writer c.put_behind.new.writer c.loop-text-test.true c.loop-text.invariant c.put_behind.ensures

pub returns : goal.returns
returns c =
    subst (λ texts. Adds (flat_map more_text texts) c.args.writer.now c.loop-text.writer)
    (take_all c.loop-text.text-index c.args.texts.now c.loop-text-test.false) c.loop-text.invariant
