-- The invariants of the loop of `command::add_variables`.
use Rattle.std.proofs.Common.{◌≡◌, ℕ, List, take}
use Rattle.std.specs.Process.{command_var, SameProgramAndArgs, SameDir}
use Rattle.child_edge.specs.Command.{said_after}
use Rattle.child_edge.proofs.command.add_variables.Given as goal

-- the variables so far were set, and nothing else changed
abbrev pub invariant-loop-variable : goal.invariant-loop-variable
invariant-loop-variable l = SameProgramAndArgs l.fn.command l.command × SameDir l.fn.command l.command
    × ((name : List ℕ) → command_var l.command name ≡ said_after name (command_var l.fn.command name) (take l.variable-index l.variables))
