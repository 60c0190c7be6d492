-- What the check of `header_reader::bytes_in` does not find by itself.
use Rattle.ctl_protocol.proofs.HexadecimalLemmas.{byte_on}
use Rattle.ctl_protocol.proofs.header_reader.bytes_in.Goals as goal

pub loop-rest-preserved : goal.loop-rest-preserved
loop-rest-preserved c = byte_on c.loop-rest.bytes.items c.push.new.self.items c.loop-rest.rest.now c.in-Some.byte _ c.in_ok-push.ensures.items c.loop-rest-test.true c.in-Some.ensures c.loop-rest.invariant
