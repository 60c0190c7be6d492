-- What a further path check adds to those before.
use Rattle.std.proofs.Common.{rules, ◌≡◌, Some, refl, inl, inr, ap, ◌∙◌}
use Rattle.std.specs.BTreeMap.{get_by_text}
use Rattle.live_loop.specs.Looks.{no_look, asked, no_question, awaits}
use Rattle.live_loop.specs.Observing.{known_in, path_in, walk_at}
use Rattle.live_loop.proofs.LooksLemmas.{walk_on, walk_known}
use Rattle.live_loop.proofs.paths.Observations.walk.Goals as goal

pub loop-init : goal.loop-init
loop-init g c = record {
  walk = no_look;
  later = refl;
  walking = refl;
}

pub loop-preserved : goal.loop-preserved
loop-preserved g c =
    let same : known_in c.step_on.new.self ≡ known_in c.loop.self = ap (λ m path. get_by_text m path) (c.step_on.ensures.seen ∙ c.goes_on.ensures.still.seen) in
    record {
      walk = walk_known (walk_on c.loop.invariant.walk (search rules) (search rules) same c.step_on.ensures.path c.look_here.ensures.looks) c.look_here.ensures.path refl;
      later = c.look_here.ensures.later ∙ c.step_on.ensures.later ∙ c.goes_on.ensures.still.later ∙ c.loop.invariant.later;
      walking = c.look_here.ensures.walking ∙ c.step_on.ensures.walking ∙ c.goes_on.ensures.still.walking ∙ c.loop.invariant.walking;
    }

pub returns-then-not-goes_on-clause-walks : goal.returns-then-not-goes_on-clause-walks
returns-then-not-goes_on-clause-walks g c =
    let same : known_in c.goes_on.new.self ≡ known_in c.loop.self = ap (λ m path. get_by_text m path) c.goes_on.ensures.still.seen in
    record {
      looks = c.loop.counter;
      last = path_in c.loop.self;
      walk = walk_known c.loop.invariant.walk refl same;
      rest = inr (refl, search rules);
    }

pub returns-then-not-is_seen-clause-walks : goal.returns-then-not-is_seen-clause-walks
returns-then-not-is_seen-clause-walks g c =
    let same : known_in c.goes_on.new.self ≡ known_in c.loop.self = ap (λ m path. get_by_text m path) c.goes_on.ensures.still.seen in
    let s = c.goes_on.new.self in
    record {
      looks = c.loop.counter;
      last = path_in c.loop.self;
      walk = asked (walk_known c.loop.invariant.walk refl same) (awaits no_question c.is_seen.ensures);
      rest = inl (ap (λ w. walk_at w (path_in s)) (c.goes_on.ensures.still.walking ∙ c.loop.invariant.walking) ∙ ap (λ p. Some p) c.goes_on.ensures.still.path);
    }
