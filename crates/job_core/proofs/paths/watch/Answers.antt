-- The goals of `paths::watch` that the prover leaves open.
use Rattle.std.proofs.Common.{◌≡◌, ◌+◌, ◌<◌, length, true, false, ◌||◌, ◌&&◌, cond, Some, get_or, take, ap, sym, ◌∙◌, arith}
use Rattle.std.specs.List.{list_any}
use Rattle.history_model.specs.Demands.{is_same_path, differs}
use Rattle.job_core.specs.ListedPaths.{watched_after_observation}
use Rattle.history_model.proofs.BooleanLemmas.{or-false-right}
use Rattle.job_core.proofs.PathsLemmas.{fires_at, any_more}
use Rattle.history_model.proofs.WrittenLemmas.{at_written, write_step}
use Rattle.job_core.proofs.paths.watch.Goals as goal
use Rattle.job_core.proofs.paths.watch.Goals.{then-eq+then-fires, then-eq+else-fires, else-eq}

pub loop-watched-preserved : goal.loop-watched-preserved
loop-watched-preserved c =
    let x = c.watched-item.result in
    let items = c.loop-watched.watched-items in
    let index = c.loop-watched.watched-index in
    let start = c.args.listed.now.items in
    let path = c.args.path.now in
    let obs = c.args.obs in
    let here = get_or items index x in
    let is = ap (λ d. get_or items index d) c.watched-item.is in
    let lt : index < length start = omega (arith, c.loop-watched-test.true) in
    let old : here ≡ get_or start index x = ap (λ l. get_or l index x) c.loop-watched.invariant.seen ∙ at_written (watched_after_observation path obs) start index x lt in
    let total : list_any (fires_at path obs) (take (index + 1) start) ≡ (c.loop-watched.fires || fires_at path obs here) =
    any_more (fires_at path obs) start index x lt ∙ (λ i. sym c.loop-watched.invariant.fires i || fires_at path obs (sym old i)) in
    elim c.if-eq.branch [
      | then-eq+then-fires w ↦
          let e : true ≡ is_same_path here.path path = cc in
          let one : (c.loop-watched.fires || fires_at path obs here) ≡ true = ap (λ b. b || fires_at path obs here) w.if-fires.true in
          record {
            seen = w.watched-items-is ∙ write_step (watched_after_observation path obs) start items index here (record here { watch = w.saw-differs.new.self }) lt c.loop-watched.invariant.seen is
                (ap (λ q. record here { watch = q }) w.saw-differs.ensures.seen ∙ (λ i. record here { watch = cond (e i) (Some obs) here.watch }));
            fires = cc (total, one);
          }
      | then-eq+else-fires w ↦
          let e : true ≡ is_same_path here.path path = cc in
          let one : (c.loop-watched.fires || fires_at path obs here) ≡ fires_at path obs here = ap (λ b. b || fires_at path obs here) w.if-fires.false in
          let two : fires_at path obs here ≡ differs obs here.watch = ap (λ b. b && differs obs here.watch) (sym e) in
          record {
            seen = w.watched-items-is ∙ write_step (watched_after_observation path obs) start items index here (record here { watch = w.saw-differs.new.self }) lt c.loop-watched.invariant.seen is
                (ap (λ q. record here { watch = q }) w.saw-differs.ensures.seen ∙ (λ i. record here { watch = cond (e i) (Some obs) here.watch }));
            fires = cc (total, one, two, w.saw-differs.ensures.fires);
          }
      | else-eq w ↦
          let e : false ≡ is_same_path here.path path = cc in
          let one : (c.loop-watched.fires || fires_at path obs here) ≡ c.loop-watched.fires =
          ap (λ b. c.loop-watched.fires || (b && differs obs here.watch)) (sym e) ∙ or-false-right c.loop-watched.fires in
          record {
            seen = w.watched-items-is ∙ write_step (watched_after_observation path obs) start items index here here lt c.loop-watched.invariant.seen is
                (λ i. record here { watch = cond (e i) (Some obs) here.watch });
            fires = cc (total, one);
          }
    ]
