-- What is after the digits that were read decides the rest.
use Rattle.std.proofs.Common.{◌≡◌, drop}
use Rattle.std.specs.Char.{is_ascii_digit}
use Rattle.std.specs.List.{list_all}
use Rattle.moment_words.specs.Written.{value_behind}
use Rattle.moment_words.proofs.reading.number_of_digits.Given as goal

abbrev pub invariant-loop-byte : goal.invariant-loop-byte
invariant-loop-byte l =
    (list_all is_ascii_digit l.digits ≡ list_all is_ascii_digit (drop l.byte-index l.digits))
    × (value_behind 0 l.digits ≡ value_behind l.value (drop l.byte-index l.digits))
