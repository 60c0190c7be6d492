-- Each child that is asked is after those before, and none of them waits.
use Rattle.std.proofs.Common.{rules, ◌≡◌, ◌+◌, false, inl, inr, subst, ◌∙◌, arith}
use Rattle.history_model.specs.Machine.{State, past_of}
use Rattle.history_model.specs.declared.TheConstants.{MAX_JOBS}
use Rattle.loaded_jobs.specs.Nearest.{IsNextChild}
use Rattle.jobd.specs.KillWaits.{Chain, nobody, behind, is_waiting}
use Rattle.jobd.proofs.KillWaitsLemmas.{passed-none, passed-more, passed-all}
use Rattle.jobd.proofs.kill_waits.is_kill_awaited.Goals as goal

pub loop-init : goal.loop-init
loop-init c = (search rules, λ s keeps. (passed-none c.args.up s, nobody))

pub returns-in_default : goal.returns-in_default
returns-in_default c = λ s keeps.
    passed-all c.args.up s c.loop.behind.now (c.loop.invariant.1 s keeps).0
    (subst (IsNextChild c.args.table.now c.loop.behind.now s) c.in_default.is (c.child_after.ensures s keeps))

pub returns-then-waits : goal.returns-then-waits
returns-then-waits c = λ s keeps.
    let next = subst (IsNextChild c.args.table.now c.loop.behind.now s) c.in-Some.is (c.child_after.ensures s keeps) in
    let label = c.in-Some.found.0.now in
    inl (label, c.waits.ensures (past_of s label) c.in-Some.found.2 (c.moments.ensures s keeps) next.2 ∙ c.if-waits.true)

pub loop-preserved : goal.loop-preserved
loop-preserved c = (
  search rules,
  λ s keeps.
      let next = subst (IsNextChild c.args.table.now c.loop.behind.now s) c.in-Some.is (c.child_after.ensures s keeps) in
      let label = c.in-Some.found.0.now in
      let own : is_waiting c.args.up (past_of s label) ≡ false = c.waits.ensures (past_of s label) c.in-Some.found.2 (c.moments.ensures s keeps) next.2 ∙ c.if-waits.false in
      let before = c.loop.invariant.1 s keeps in
      (passed-more c.args.up s c.loop.behind.now label before.0 next.0 own, behind before.1 next.0),
)

pub returns : goal.returns
returns c = λ s keeps.
    let over = c.loop-test.false in
    let most = c.loop.auto.counter-end in
    let all : c.loop.counter ≡ MAX_JOBS + 1 = omega (arith, over, most) in
    inr (c.loop.behind.now, subst (λ n. Chain s.jobs n c.loop.behind.now) all (c.loop.invariant.1 s keeps).1)
