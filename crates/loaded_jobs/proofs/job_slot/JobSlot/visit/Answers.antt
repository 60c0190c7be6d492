-- What the core heard is what its order is then given for.
use Rattle.std.proofs.Common.{◌++◌, ap, ◌∙◌}
use Rattle.history_model.specs.Step.{acts_of}
use Rattle.loaded_jobs.specs.StandsFor.{numbered_orders}
use Rattle.loaded_jobs.specs.AffectedJobs.{item_for}
use Rattle.loaded_jobs.specs.Receiving.{followed}
use Rattle.loaded_jobs.proofs.job_slot.JobSlot.visit.Goals as goal

pub returns-clause-visit : goal.returns-clause-visit
returns-clause-visit c =
    let item = item_for c.args.affected c.args.self.now.def in
    record {
      orders = λ past keeps present fine is.
          c.ask.ensures.orders (followed item past) (c.receive.ensures.kept past keeps present fine) is
          ∙ ap (λ n. c.args.orders.now.items ++ numbered_orders n.number (acts_of (followed item past))) c.receive.ensures.name;
      going = λ past keeps present fine is. c.ask.ensures.going (followed item past) (c.receive.ensures.kept past keeps present fine) is;
      kept = λ past keeps present fine is stays. c.ask.ensures.kept (followed item past) (c.receive.ensures.kept past keeps present fine) is stays;
      name = c.ask.ensures.name ∙ c.receive.ensures.name;
    }
