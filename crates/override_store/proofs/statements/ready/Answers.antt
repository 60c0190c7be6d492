-- The answers to the goals of `statements::ready`.
use Rattle.std.proofs.Common.{[]}
use Rattle.sqlite.specs.Held.{state}
use Rattle.override_store.proofs.ReadyLemmas.{not_run}
use Rattle.override_store.proofs.statements.ready.Goals.{in-Ok, in-Err}
use Rattle.override_store.proofs.statements.ready.Goals as goal

pub returns-clause-left : goal.returns-clause-left
returns-clause-left g c clean = elim c.match-prepare.branch [
  | in-Ok w ↦ rw w.result-is tt
  | in-Err w ↦ rw w.result-is (not_run (state g.S.Store c.args.conn.now) (state g.S.Store c.prepare.new.self) _ [] w.in-Err.error (w.in-Err.ensures.err clean []))
]
