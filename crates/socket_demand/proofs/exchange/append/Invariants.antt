-- What holds at each turn of the loops of `exchange::append`, and why each ends.
use Rattle.std.proofs.Common.{◌≡◌, ◌+◌, ◌++◌, take}
use Rattle.std.specs.Prelude.{vec_len, vec_capacity}
use Rattle.socket_demand.proofs.exchange.append.Given as goal

abbrev pub invariant-loop-byte : goal.invariant-loop-byte
invariant-loop-byte l = record {
  items : l.bytes.items ≡ l.fn.bytes.items ++ take l.byte-index l.piece;
  len : vec_len l.bytes ≡ vec_len l.fn.bytes + l.byte-index;
  room : vec_capacity l.bytes ≡ vec_capacity l.fn.bytes;
}
