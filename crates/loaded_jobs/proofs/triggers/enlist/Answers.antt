-- One more trigger is at its place.
use Rattle.std.proofs.Common.{◌≡◌, ◌<◌, cond, count_by, true, false, sym, ap, subst, ◌∙◌, arith}
use Rattle.std.specs.Prelude.{slice_get}
use Rattle.std.specs.Vec.{vec_capacity, vec_len}
use Rattle.std.proofs.lemmas.List.Sums.{sum_by-insert, sum_by_push}
use Rattle.loaded_jobs.specs.Triggers.{is_behind, under, AreOrdered}
use Rattle.loaded_jobs.proofs.RankLemmas.{put-order}
use Rattle.loaded_jobs.proofs.triggers.enlist.Goals as goal

pub loop-trigger-preserved : goal.loop-trigger-preserved
loop-trigger-preserved c =
    let inv = c.loop-trigger.invariant in
    let xs = c.loop-trigger.listed.items in
    let trigger = c.in-Some.trigger in
    let one = under c.args.number trigger in
    let k = c.place_behind-place.result in
    let put = c.in-Ok.ensures.items in
    let lent = c.deref.ensures.value in
    let fewer = c.in-Some.ensures.cases in
    let fits = inv.room in
    let longer = c.in-Ok.ensures.len in
    let less : vec_len c.loop-trigger.listed < vec_capacity c.loop-trigger.listed = omega (arith, fewer, fits) in
    let same = (c.in-Ok.ensures.in_place less).1.0 in
    record {
      exact = λ test.
          let more = ap (count_by test) put ∙ sum_by-insert (λ y. cond (test y) 1 0) xs k one in
          let taken = ap (count_by (λ t. test (under c.args.number t))) c.in-Some.ensures.items ∙ sum_by_push (λ t. cond (test (under c.args.number t)) 1 0) c.pop.new.self.items trigger in
          let before = inv.exact test in
          omega (arith, more, taken, before);
      count = let before = inv.count in omega (arith, fewer, longer, before);
      order = subst AreOrdered (sym put) (put-order one xs k inv.order
          (λ j y at less. subst (λ r. is_behind r y ≡ false) c.lent.ensures (c.place_behind-place.ensures.before j y (ap (λ ys. slice_get ys j) lent ∙ at) less))
          (λ j y at up. subst (λ r. is_behind r y ≡ true) c.lent.ensures (c.place_behind-place.ensures.behind j y (ap (λ ys. slice_get ys j) lent ∙ at) up)));
      room = omega (arith, fewer, fits, longer, same);
      capacity = same ∙ inv.capacity;
    }
