-- The job's leaf has its moment.
use Rattle.std.proofs.Common.{◌≡◌, ◌<◌, ◌+◌, ℕ, None, Option, slice_index_or, sym, ap, ◌∙◌, arith}
use Rattle.std.proofs.lemmas.List.{get_or_default}
use Rattle.timer_heap.specs.Timers.{moment_in}
use Rattle.timer_heap.specs.Nodes.{moment_of, timers_of, IsTree}
use Rattle.timer_heap.specs.declared.tree.Timer.{Timer}
use Rattle.timer_heap.specs.declared.tree.Tree.{Tree}
use Rattle.timer_heap.proofs.LeavesLemmas.{moment_in-timers_of, beyond}
use Rattle.timer_heap.proofs.tree.Tree.moment.Goals as goal

pub returns-then-job-self : goal.returns-then-job-self
returns-then-job-self c =
    let past = c.if-job-self.true in
    sym (moment_in-timers_of c.args.self.now c.args.job ∙ ap moment_of (beyond c.args.self.now c.requires c.args.job (grind (arith, past))))

at-leaf : (t : Tree) (job : ℕ) (x : Option Timer) → IsTree t → job < t.leaves → x ≡ slice_index_or t.nodes.items (t.leaves + job) x → moment_of x ≡ moment_in (timers_of t) job
at-leaf t job x tree within is =
    let size = tree.size in
    ap moment_of (is ∙ get_or_default t.nodes.items (t.leaves + job) x None (omega (arith, within, size))) ∙ sym (moment_in-timers_of t job)

pub returns-in-Some : goal.returns-in-Some
returns-in-Some c =
    let inside = c.if-job-self.false in
    sym (ap moment_of c.in-Some.is) ∙ at-leaf c.args.self.now c.args.job c.index.result.now c.requires (grind (arith, inside)) c.index.ensures

pub returns-in-None : goal.returns-in-None
returns-in-None c =
    let inside = c.if-job-self.false in
    sym (ap moment_of c.in-None.is) ∙ at-leaf c.args.self.now c.args.job c.index.result.now c.requires (grind (arith, inside)) c.index.ensures
