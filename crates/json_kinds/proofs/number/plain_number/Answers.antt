-- What the check of `number::plain_number` does not find by itself.
use Rattle.std.proofs.Common.{sym}
use Rattle.json_kinds.proofs.NumbersLemmas.{number_of-parsed}
use Rattle.json_kinds.proofs.number.plain_number.Goals as goal

pub returns-in-Ok : goal.returns-in-Ok
returns-in-Ok c = number_of-parsed c.args.bytes.now c.parse_u64.result c.in-Ok.n (sym c.if-begins_with.ensures.value) c.parse_u64.ensures c.in-Ok.is
