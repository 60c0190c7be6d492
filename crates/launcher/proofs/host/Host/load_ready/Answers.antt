-- The load, and then what it orders.
use Rattle.std.proofs.Common.{◌≡◌, List, Some, ap, subst, sym}
use Rattle.std.specs.Prelude.{Ok, is_some}
use Rattle.history_model.specs.Machine.{Load}
use Rattle.history_model.specs.Definitions.{given}
use Rattle.loaded_jobs.specs.Tables.{Name, IsOnce, definition_of_number}
use Rattle.launcher.proofs.NumbersLemmas.{AreNamed}
use Rattle.loaded_jobs.specs.Loads.{described_in, number_in, new_setting_in}
use Rattle.launcher.proofs.host.Host.load_ready.Goals as goal

pub returns-clause-made : goal.returns-clause-made
returns-clause-made g c = λ s force bind store line written noted led keeps none.
    let is = c.commit_load.ensures.loads s force bind store keeps none in
    let done = c.finish.ensures.finished c.args.self.now.table s (Load (Ok (given (described_in c.args.ready))) (is_some (new_setting_in c.args.ready)) force bind store) line written noted c.requires.label led keeps
    (record { kept = is.kept; accepted = ap (λ o. o.refusal) is.outcome; orders = ap (λ o. o.orders) is.outcome }) in
    record {
      turn = done.turn;
      numbers = record {
        once = subst IsOnce (sym done.names_are) c.commit_load.ensures.names.numbered.once;
        named = subst (λ (ns : List Name). AreNamed ns c.args.self.now.table.rows) (sym done.names_are) c.commit_load.ensures.names.others;
      };
      own = subst (λ ns. definition_of_number ns (number_in c.args.ready) ≡ Some (described_in c.args.ready)) (sym done.names_are) c.commit_load.ensures.names.own;
    }
