-- The goals of `paths::see` that the prover leaves open.
use Rattle.std.proofs.Common.{◌≡◌, ◌<◌, length, true, false, cond, Some, get_or, ap, ◌∙◌, arith}
use Rattle.history_model.specs.Demands.{is_same_path}
use Rattle.job_core.specs.ListedPaths.{queue_after}
use Rattle.history_model.proofs.WrittenLemmas.{write_step}
use Rattle.job_core.proofs.paths.see.Goals as goal
use Rattle.job_core.proofs.paths.see.Goals.{then-eq, else-eq}

pub loop-directory-preserved : goal.loop-directory-preserved
loop-directory-preserved c =
    let x = c.directory-item.result in
    let items = c.loop-directory.directory-items in
    let index = c.loop-directory.directory-index in
    let here = get_or items index x in
    let is = ap (λ d. get_or items index d) c.directory-item.is in
    let lt : index < length c.args.listed.now.items = omega (arith, c.loop-directory-test.true) in
    elim c.if-eq.branch [
      | then-eq w ↦
          let e : true ≡ is_same_path here.path c.args.path.now = cc in
          w.directory-items-is ∙ write_step (queue_after c.args.path.now c.args.obs) c.args.listed.now.items items index here (record here { queue = w.saw.new.self }) lt c.loop-directory.invariant is
          (ap (λ q. record here { queue = q }) w.saw.ensures.step ∙ (λ i. record here { queue = cond (e i) (Some c.args.obs) here.queue }))
      | else-eq w ↦
          let e : false ≡ is_same_path here.path c.args.path.now = cc in
          w.directory-items-is ∙ write_step (queue_after c.args.path.now c.args.obs) c.args.listed.now.items items index here here lt c.loop-directory.invariant is
          (λ i. record here { queue = cond (e i) (Some c.args.obs) here.queue })
    ]
