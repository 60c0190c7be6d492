-- What the check of `written::saw` does not find by itself.
use Rattle.ctl_protocol.proofs.WrittenLinesLemmas.{saw_told}
use Rattle.ctl_protocol.proofs.written.saw.Goals as goal

pub returns : goal.returns
returns c =
    rw c.new-path.ensures
    (saw_told c.args.bytes.now c.in_ok-present.rest.now c.in_ok-nonempty_dir.rest.now c.in_ok-after.field-0.now c.in_ok-path.rest.now c.in_ok-path.path.now c.in_ok-present.present c.in_ok-nonempty_dir.nonempty_dir c.in_ok-stamp.stamp
    c.in_ok-present.ensures c.in_ok-nonempty_dir.ensures c.in_ok-after.ensures c.in_ok-path.ensures c.in_ok-stamp.ensures)
