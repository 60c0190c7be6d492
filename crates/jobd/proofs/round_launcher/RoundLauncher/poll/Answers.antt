-- What the poll answered is delivered.
use Rattle.std.proofs.Common.{rules, ◌≡◌, ◌≤◌, length, Ok, Err, Some, None, refl, sym, ap, subst, ◌∙◌}
use Rattle.loaded_jobs.specs.Tables.{label_of}
use Rattle.jobd.proofs.round_launcher.RoundLauncher.poll.Goals as goal

pub returns-in-Ok-None : goal.returns-in-Ok-None
returns-in-Ok-None g c =
    let is : c.label.result.now ≡ label_of c.args.self.now.host.table.names c.args.job =
    c.label.ensures ∙ ap (λ names. label_of names c.args.job) (c.last_step.ensures.names ∙ ap (λ t. t.names) c.table.ensures) in
    record {
      answer = Ok None;
      edge = c.poll.new.self;
      told = search rules;
      label = c.as_str-label.result.now;
      its = λ short. c.as_str-label.ensures.text ∙ c.copy.ensures (subst (λ label. length label ≤ 255) (sym is) short) ∙ is;
      handed = refl;
    }

pub returns-in-Ok-Some : goal.returns-in-Ok-Some
returns-in-Ok-Some g c =
    let is : c.label.result.now ≡ label_of c.args.self.now.host.table.names c.args.job =
    c.label.ensures ∙ ap (λ names. label_of names c.args.job) (c.last_step.ensures.names ∙ ap (λ t. t.names) c.table.ensures) in
    record {
      answer = Ok (Some c.in-Ok-Some.how);
      edge = c.poll.new.self;
      told = search rules;
      label = c.as_str-label.result.now;
      its = λ short. c.as_str-label.ensures.text ∙ c.copy.ensures (subst (λ label. length label ≤ 255) (sym is) short) ∙ is;
      handed = (c.tell-refusal.result, c.tell-refusal.ensures.tells);
    }

pub returns-in-Err : goal.returns-in-Err
returns-in-Err g c =
    let is : c.label.result.now ≡ label_of c.args.self.now.host.table.names c.args.job =
    c.label.ensures ∙ ap (λ names. label_of names c.args.job) (c.last_step.ensures.names ∙ ap (λ t. t.names) c.table.ensures) in
    record {
      answer = Err c.in-Err.field-0;
      edge = c.poll.new.self;
      told = search rules;
      label = c.as_str-label.result.now;
      its = λ short. c.as_str-label.ensures.text ∙ c.copy.ensures (subst (λ label. length label ≤ 255) (sym is) short) ∙ is;
      handed = (c.tell-refusal-in-Err.result, c.tell-refusal-in-Err.ensures.tells);
    }
