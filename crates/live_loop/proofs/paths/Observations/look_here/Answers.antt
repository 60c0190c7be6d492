-- An observation that is what was delivered last.
use Rattle.std.proofs.Common.{rules, ◌≡◌, Some, refl, inl, sym, ◌∙◌}
use Rattle.std.specs.BTreeMap.{get_by_text}
use Rattle.live_loop.proofs.paths.Observations.look_here.Goals as goal

pub returns-then-eq-clause-looks : goal.returns-then-eq-clause-looks
returns-then-eq-clause-looks g c =
    let same : c.copied.result ≡ Some c.in-Some.obs = search rules in
    let at : get_by_text c.args.self.now.seen c.as_str-path.result.now ≡ Some c.in-Some.obs = sym c.get.ensures.value ∙ sym c.copied.ensures ∙ same in
    record {
      seen = Some c.in-Some.obs;
      mid = c.look.new.self;
      looked = search rules;
      taken = inl (rw (← c.as_str-path.ensures.value) at, refl, λ path. refl);
    }
