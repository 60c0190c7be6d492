-- One more mark.
use Rattle.std.proofs.Common.{◌≡◌, ◌<◌, true, false, inl, refl, sym, ◌∙◌, subst}
use Rattle.place_set.specs.Places.{Inserts}
use Rattle.loaded_jobs.specs.Index.{place_in}
use Rattle.loaded_jobs.specs.Marking.{IsMarked}
use Rattle.loaded_jobs.proofs.MarkingLemmas.{one-more, mark-more, all-marked, has-moment}
use Rattle.loaded_jobs.proofs.marks.mark_due.Goals as goal

pub loop-number-init : goal.loop-number-init
loop-number-init c = record {
  so_far = λ number. inl refl;
  marks = λ place there. (let clash : false ≡ true = sym (c.requires.empty place) ∙ there in absurd (cc clash));
  space = refl;
  spaces = refl;
}

pub bounds-places-number : goal.bounds-places-number
bounds-places-number c =
    let inv = c.loop-number.invariant in
    let popped = c.in-Some.ensures.popped in
    (c.requires.places c.in-Some.number popped.0 (has-moment c.args.timers.now c.loop-number.timers c.args.places.now c.loop-number.ready c.in-Some.number popped.0 (inv.so_far c.in-Some.number) popped.2.0)).0

pub insert-requires : goal.insert-requires
insert-requires c =
    let inv = c.loop-number.invariant in
    let popped = c.in-Some.ensures.popped in
    subst (λ r. place_in c.args.places.now c.in-Some.number < r) (sym inv.space)
    (c.requires.places c.in-Some.number popped.0 (has-moment c.args.timers.now c.loop-number.timers c.args.places.now c.loop-number.ready c.in-Some.number popped.0 (inv.so_far c.in-Some.number) popped.2.0)).1

pub loop-number-preserved : goal.loop-number-preserved
loop-number-preserved c =
    let inv = c.loop-number.invariant in
    let popped = c.in-Some.ensures.popped in
    let number = c.in-Some.number in
    let sets : Inserts c.loop-number.ready c.insert.new.self (place_in c.args.places.now number) = c.insert.ensures in
    record {
      so_far = λ k. one-more c.args.timers.now c.loop-number.timers c.pop_due.new.self c.args.places.now c.loop-number.ready c.insert.new.self number popped.3 sets k (inv.so_far k);
      marks = mark-more c.args.up c.args.timers.now c.loop-number.timers c.args.places.now c.loop-number.ready c.insert.new.self number popped.0 popped.1 popped.2.0 (inv.so_far number) sets inv.marks;
      space = sets.room ∙ inv.space;
      spaces = popped.3.room ∙ inv.spaces;
    }

pub returns-clause-marked : goal.returns-clause-marked
returns-clause-marked c = λ number.
    let inv = c.loop-number.invariant in
    let popped = c.in_default.ensures.popped in
    subst (λ now. IsMarked c.args.up c.args.timers.now now c.args.places.now c.loop-number.ready number) (sym popped.0)
    (all-marked c.args.up c.args.timers.now c.loop-number.timers c.args.places.now c.loop-number.ready popped.1 number (inv.so_far number))
