-- The question that waits for the next answer.
use Rattle.std.proofs.Common.{rules, refl}
use Rattle.look_out.proofs.batch.Batch.decide.Goals as goal

pub returns-in-Some : goal.returns-in-Some
returns-in-Some c = record {
  decided = λ done. record {
    entry = c.in-Some.entry.now;
    there = c.in-Some.ensures.value;
    within = search rules;
    same = refl;
  };
}
