-- What became of a client.
use Rattle.std.proofs.Common.{rules, ◌≡◌, ◌≤◌, length, refl, sym, ap, subst, ◌∙◌}
use Rattle.loaded_jobs.specs.Tables.{label_of}
use Rattle.jobd.proofs.round_launcher.RoundLauncherLoopHost.deliver.Goals as goal

pub returns-then-not-take : goal.returns-then-not-take
returns-then-not-take g c = record {
  edge = c.take.new.self;
  told = search rules;
  given = search rules;
  label = label_of c.args.self.now.host.table.names c.args.caller.origin.job;
  its = λ short. refl;
  handed = refl;
}

pub returns-in-Some : goal.returns-in-Some
returns-in-Some g c =
    let is : c.label.result.now ≡ label_of c.args.self.now.host.table.names c.args.caller.origin.job =
    c.label.ensures ∙ ap (λ names. label_of names c.args.caller.origin.job) (c.last_step.ensures.names ∙ ap (λ t. t.names) c.table.ensures) in
    record {
      edge = c.take.new.self;
      told = search rules;
      given = search rules;
      label = c.as_str.result.now;
      its = λ short. c.as_str.ensures.text ∙ c.copy.ensures (subst (λ label. length label ≤ 255) (sym is) short) ∙ is;
      handed = (c.tell.new.self, c.close.new.self, search rules, search rules, refl);
    }
