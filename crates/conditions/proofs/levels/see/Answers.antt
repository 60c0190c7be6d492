-- The goals of `levels::see` that the prover leaves open.
use Rattle.std.proofs.Common.{◌≡◌, ◌<◌, length, true, false, cond, Some, get_or, ap, ◌∙◌, arith}
use Rattle.history_model.specs.Demands.{is_same_path}
use Rattle.conditions.specs.States.{after_observation}
use Rattle.history_model.proofs.WrittenLemmas.{write_step}
use Rattle.conditions.proofs.levels.see.Goals as goal
use Rattle.conditions.proofs.levels.see.Goals.{then-eq, else-eq}

pub loop-state-preserved : goal.loop-state-preserved
loop-state-preserved c =
    let x = c.state-item.result in
    let here = get_or c.loop-state.state-items c.loop-state.state-index x in
    let lt : c.loop-state.state-index < length c.args.states.now.items = omega (arith, c.loop-state-test.true) in
    elim c.if-eq.branch [
      | then-eq w ↦
          let e : true ≡ is_same_path here.path c.args.path.now = cc in
          w.state-items-is ∙ write_step (after_observation c.args.path.now c.args.obs) c.args.states.now.items c.loop-state.state-items c.loop-state.state-index here (record here { last = Some c.args.obs }) lt c.loop-state.invariant (ap (λ d. get_or c.loop-state.state-items c.loop-state.state-index d) c.state-item.is)
          (λ i. record here { last = cond (e i) (Some c.args.obs) here.last })
      | else-eq w ↦
          let e : false ≡ is_same_path here.path c.args.path.now = cc in
          w.state-items-is ∙ write_step (after_observation c.args.path.now c.args.obs) c.args.states.now.items c.loop-state.state-items c.loop-state.state-index here here lt c.loop-state.invariant (ap (λ d. get_or c.loop-state.state-items c.loop-state.state-index d) c.state-item.is)
          (λ i. record here { last = cond (e i) (Some c.args.obs) here.last })
    ]
