-- What stays true in the loop of `header_writer::hex_text`.
use Rattle.std.proofs.Common.{◌≡◌, take}
use Rattle.std.specs.String.{string_bytes}
use Rattle.ctl_protocol.specs.HeaderLines.{hex_of}
use Rattle.ctl_protocol.proofs.header_writer.hex_text.Given as goal

abbrev pub invariant-loop-byte : goal.invariant-loop-byte
invariant-loop-byte l = string_bytes l.text ≡ hex_of (take l.byte-index l.bytes)
