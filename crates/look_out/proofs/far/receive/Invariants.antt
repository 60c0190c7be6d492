-- The invariant of the loop of `far::receive`.
use Rattle.std.proofs.Common.{◌≡◌, ◌+◌, ◌*◌, take}
use Rattle.std.specs.Prelude.{length}
use Rattle.look_out.specs.Answers.{asked_in}
use Rattle.look_out.proofs.far.receive.Given as goal

-- each question so far has its answer
abbrev pub invariant-loop-byte : goal.invariant-loop-byte
invariant-loop-byte g l = length l.answers.items ≡ length l.initial.answers.items + 9 * asked_in (take l.byte-index l.bytes)
