-- The invariants of the loop of `command::add_words`.
use Rattle.std.proofs.Common.{◌≡◌, ◌++◌, take}
use Rattle.std.specs.Process.{command_program, command_args, SameEnv, SameDir}
use Rattle.child_edge.proofs.command.add_words.Given as goal

-- the arguments so far were added, and nothing else changed
abbrev pub invariant-loop-word : goal.invariant-loop-word
invariant-loop-word l = (command_args l.command ≡ command_args l.fn.command ++ take l.word-index l.words)
    × (command_program l.command ≡ command_program l.fn.command) × SameEnv l.fn.command l.command × SameDir l.fn.command l.command
