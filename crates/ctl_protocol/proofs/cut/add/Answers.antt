-- What the check of `cut::add` does not find by itself.
use Rattle.std.proofs.Common.{ap, ◌∙◌}
use Rattle.std.proofs.lemmas.Result.{on_ok_weaker}
use Rattle.ctl_protocol.specs.Lines.{lines_of, rest_of}
use Rattle.ctl_protocol.proofs.CutLemmas.{lines_joined, rest_joined}
use Rattle.ctl_protocol.proofs.cut.add.Goals as goal

pub returns-clause-lines : goal.returns-clause-lines
returns-clause-lines c = on_ok_weaker c.extend_from_slice.result (λ e. ap lines_of e ∙ lines_joined c.args.buffer.now.items c.args.piece.now) c.extend_from_slice.ensures.ok

pub returns-clause-rest : goal.returns-clause-rest
returns-clause-rest c = on_ok_weaker c.extend_from_slice.result (λ e. ap rest_of e ∙ rest_joined c.args.buffer.now.items c.args.piece.now) c.extend_from_slice.ensures.ok
