-- What stays true in the loop of `header_reader::bytes_in`.
use Rattle.std.proofs.Common.{◌≡◌, length}
use Rattle.ctl_protocol.specs.Headers.{bytes_of_hex, with_front}
use Rattle.ctl_protocol.proofs.header_reader.bytes_in.Given as goal

abbrev pub invariant-loop-rest : goal.invariant-loop-rest
invariant-loop-rest l = with_front l.bytes.items (bytes_of_hex l.rest) ≡ bytes_of_hex l.text

abbrev pub decreases-loop-rest : goal.decreases-loop-rest
decreases-loop-rest l = length l.rest
