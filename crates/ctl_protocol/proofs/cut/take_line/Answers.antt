-- What the check of `cut::take_line` does not find by itself.
use Rattle.std.proofs.Common.{refl}
use Rattle.ctl_protocol.proofs.CutLemmas.{first_found, first_missing}
use Rattle.ctl_protocol.proofs.cut.take_line.Goals as goal

pub returns-in_default-clause-line : goal.returns-in_default-clause-line
returns-in_default-clause-line c = (first_missing _ (rw c.as_slice.ensures at c.in_default.ensures), refl)

pub returns-clause-line : goal.returns-clause-line
returns-clause-line c =
    let f = first_found c.args.buffer.now.items c.in-Some.at (rw c.as_slice.ensures at c.in-Some.ensures) in
    rw (c.in_ok-line.ensures.front, c.advance.ensures.items, c.in_ok-line.ensures.rest.0) (f.1, f.2)
