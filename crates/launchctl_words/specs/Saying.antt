-- What an answer says of arguments.
use Rattle.std.specs.Prelude.{◌≡◌, Option, Some, None, Result, Ok, Err}
use Rattle.command_words.specs.declared.command.WordFault.{WordFault}
use Rattle.command_words.specs.declared.command.WordFault.TheVariants.{Usage, NoMemory}

-- an answer is what the arguments mean, but for want of memory
abbrev pub Says : {A : Type 0} → Result A WordFault → Option A → Type 0
Says (Ok w) wanted = wanted ≡ Some w
Says (Err Usage) wanted = wanted ≡ None
Says (Err NoMemory) wanted = Unit {0}
