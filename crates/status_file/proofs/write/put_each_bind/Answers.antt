use Rattle.std.proofs.Common.{subst}
use Rattle.std.proofs.lemmas.List.{take_all}
use Rattle.std.specs.List.{flat_map}
use Rattle.status_file.specs.Tokens.{bind_tokens}
use Rattle.status_file.specs.Lines.{Puts}
use Rattle.status_file.proofs.LinesLemmas.{nothing, one_item_more}
use Rattle.status_file.proofs.write.put_each_bind.Goals as goal

pub loop-bind-init : goal.loop-bind-init
loop-bind-init c = nothing c.args.line.now

pub loop-bind-preserved : goal.loop-bind-preserved
loop-bind-preserved c =
    one_item_more bind_tokens c.args.binds.now c.loop-bind.bind-index _ c.args.line.now c.loop-bind.line c.put_bind.new.line c.loop-bind-test.true c.loop-bind.invariant c.put_bind.ensures

pub returns : goal.returns
returns c =
    subst (λ es. Puts (flat_map bind_tokens es) c.args.line.now c.loop-bind.line)
    (take_all c.loop-bind.bind-index c.args.binds.now c.loop-bind-test.false) c.loop-bind.invariant
