-- Each leaf has the same timer in the larger tree.
use Rattle.std.proofs.Common.{◌≡◌, ◌<◌, ◌≤◌, ◌+◌, ℕ, Bool, true, false, nat_lt, None, length, refl, sym, ap, ◌∙◌, subst, arith}
use Rattle.std.specs.Option.{ForSome}
use Rattle.std.proofs.lemmas.List.{get_or_default}
use Rattle.std.proofs.lemmas.Bool.Decides.{nat_tests}
use Rattle.timer_heap.specs.Nodes.{leaf, moment_of, IsTree}
use Rattle.timer_heap.specs.declared.tree.Tree.{Tree}
use Rattle.timer_heap.proofs.LeavesLemmas.{moment_in-timers_of, room-timers_of, beyond}
use Rattle.timer_heap.proofs.tree.Tree.reserve.Goals as goal

pub put-requires-clause-own : goal.put-requires-clause-own
put-requires-clause-own c =
    let sound = c.requires.sound in
    let test = c.loop-job-test.true in
    let size = sound.size in
    let within : c.args.self.now.leaves + c.loop-job.job < length c.args.self.now.nodes.items = omega (arith, test, size) in
    let is = c.index.ensures ∙ get_or_default c.args.self.now.nodes.items (c.args.self.now.leaves + c.loop-job.job) c.index.result.now None within in
    subst (λ x. ForSome x (λ t. t.job ≡ c.loop-job.job)) (sym is) (sound.own c.loop-job.job test)

-- a leaf that was passed, and one without room
each-leaf : (old grown : Tree) (passed : ℕ) → IsTree old → old.leaves ≤ passed → ((job : ℕ) → job < passed → leaf grown job ≡ leaf old job) →
    ((job : ℕ) → passed ≤ job → leaf grown job ≡ None) → (job : ℕ) (b : Bool) → nat_lt job passed ≡ b → leaf grown job ≡ leaf old job
each-leaf old grown passed sound all same empty job true inner = same job (grind (arith, nat_tests, inner))
each-leaf old grown passed sound all same empty job false outer =
    let above : passed ≤ job = grind (arith, nat_tests, outer) in
    empty job above ∙ sym (beyond old sound job (omega (arith, above, all)))

pub returns-clause-kept : goal.returns-clause-kept
returns-clause-kept c =
    let old = c.args.self.now in
    let new = c.loop-job.grown in
    let inv = c.loop-job.invariant in
    record {
      moments = λ job. moment_in-timers_of new job ∙ ap moment_of (each-leaf old new c.loop-job.job c.requires.sound c.loop-job-test.false inv.passed inv.empty job (nat_lt job c.loop-job.job) refl) ∙ sym (moment_in-timers_of old job);
      room =
          let before = room-timers_of old c.requires.sound in
          let after = room-timers_of new inv.sound in
          let leaves = inv.leaves in
          let more = c.if-numbers-self.false in
          omega (arith, before, after, leaves, more);
    }
