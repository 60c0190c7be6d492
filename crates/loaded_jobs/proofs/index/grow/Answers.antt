-- Growth.
use Rattle.std.proofs.Common.{sym, subst, ◌∙◌, length, drop, arith}
use Rattle.loaded_jobs.specs.Index.{ArePlaced}
use Rattle.loaded_jobs.proofs.ListLemmas.{lent-back}
use Rattle.loaded_jobs.proofs.index.grow.Goals as goal

pub place_all-requires-clause-fits : goal.place_all-requires-clause-fits
place_all-requires-clause-fits c = λ number named.
    let fits = c.requires.named.fits number named in
    let short = c.if-len-number.false in
    let long = c.deref_mut.ensures.len in
    let value = c.in_ok-index.ensures.len in
    let wide = c.widened.ensures in
    omega (arith, fits, short, long, value, wide)

pub returns-clause-indexed : goal.returns-clause-indexed
returns-clause-indexed c = λ up is.
    let first = c.reserve.ensures.kept in
    let places = c.in_ok-index.field-0 in
    let after = c.place_all.new.places in
    record {
      timed = λ k e at. first.moments e.number ∙ is.timed k e at;
      alone = λ number moment there. is.alone number moment (sym (first.moments number) ∙ there);
      space = λ number named. (let space = is.space number named in let room = first.room in omega (arith, space, room));
      placed = subst (λ ps. ArePlaced ps c.args.job_slots.now) (sym (lent-back after (drop (length after) places.items) places.len (omega arith))) c.place_all.ensures.placed;
      empty = λ place. c.reserve-2.ensures.kept.places place ∙ is.empty place;
      marks = let marks = is.marks in let room = c.reserve-2.ensures.kept.room in omega (arith, marks, room);
    }
