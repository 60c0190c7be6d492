-- The parts of a series of path checks, one after the other.
use Rattle.std.proofs.Common.{◌≡◌, subst, sym, ap, ◌∙◌}
use Rattle.std.specs.BTreeMap.{get_by_text}
use Rattle.live_loop.specs.Looks.{Begins}
use Rattle.live_loop.specs.Observing.{known_in, path_in, walk_at, walk_in, later_in, later_after, IsNextLook}
use Rattle.live_loop.proofs.LooksLemmas.{next_look}
use Rattle.live_loop.proofs.paths.Observations.look.Goals as goal

pub returns-clause-due : goal.returns-clause-due
returns-clause-due g c = λ due.
    let at = c.up-up.ensures in
    let old = c.args.self.now in
    let begun = c.start.new.self in
    let mid = c.ask_ahead.new.self in
    let new = c.walk-waits.new.self in
    let same : known_in mid ≡ known_in begun = ap (λ m path. get_by_text m path) c.ask_ahead.ensures.still.seen in
    let begins = c.start.ensures.begins in (
      c.walk-waits.ensures.later ∙ c.ask_ahead.ensures.still.later ∙ c.start.ensures.later ∙ ap (λ u. later_after (walk_in old) u (later_in old)) at,
      subst (λ u. IsNextLook (walk_at new.is_walking (path_in new)) u new.later c.moment_of-self.result) at
          (next_look new.is_walking (path_in new) c.up-up.result new.later c.moment_of-self.result c.moment_of-self.ensures.over c.moment_of-self.ensures.on),
      record {
        from = path_in mid;
        first = c.start.new.host;
        begun = known_in mid;
        begins = subst (λ p. Begins g.H.PathHost.IsNext g.H.PathHost.Did (walk_in old) c.args.host.now (known_in old) p c.start.new.host (known_in mid)) (sym c.ask_ahead.ensures.still.path)
            (subst (λ k. Begins g.H.PathHost.IsNext g.H.PathHost.Did (walk_in old) c.args.host.now (known_in old) (path_in begun) c.start.new.host k) (sym same) begins);
        mid = c.ask_ahead.new.host;
        asks = c.ask_ahead.ensures.asks;
        walks = c.walk-waits.ensures.walks;
      },
    )
