-- A series of path checks begins, or goes on, and then it takes a load into account.
use Rattle.std.proofs.Common.{rules, ◌≡◌, ap, sym, subst, ◌∙◌}
use Rattle.std.specs.BTreeMap.{get_by_text}
use Rattle.live_loop.specs.Looks.{IsKept, Starts, known_after}
use Rattle.live_loop.specs.Observing.{known_in, path_in, walk_in}
use Rattle.live_loop.proofs.paths.Observations.start.Goals as goal

pub returns-clause-begins : goal.returns-clause-begins
returns-clause-begins g c =
    let old = c.args.self.now in
    let begun = c.begin.new.self in
    let new = c.forget_if.new.self in
    let same : known_in begun ≡ known_in old = ap (λ m path. get_by_text m path) c.begin.ensures.seen in
    record {
      started = c.begin.new.host;
      starts = subst (λ p. Starts g.H.PathHost.IsNext g.H.PathHost.Did (walk_in old) c.args.host.now p c.begin.new.host) (sym c.forget_if.ensures.path) c.begin.ensures.starts;
      loaded = c.take_loaded-has_loaded.result;
      asks = c.take_loaded-has_loaded.ensures;
      forgets = subst (λ k. IsKept (known_after c.take_loaded-has_loaded.result k) (known_in new)) same c.forget_if.ensures.known;
    }
