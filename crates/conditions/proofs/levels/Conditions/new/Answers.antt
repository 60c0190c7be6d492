-- The goals of `Conditions::new` that the prover leaves open.
use Rattle.std.proofs.Common.{◌∙◌, ap, map, None, [], ◌∷◌}
use Rattle.history_model.specs.Definitions.{definition}
use Rattle.conditions.specs.ConditionFacts.{kept_of}
use Rattle.history_model.specs.Items.{Loaded}
use Rattle.conditions.proofs.ObservationsLemmas.{unseen}
use Rattle.conditions.proofs.levels.Conditions.new.Goals as goal

pub returns : goal.returns
returns c =
    let e = c.in_ok-states_of.ensures in
    λ at i. record (kept_of (Loaded (definition c.args.def.now) at ∷ [])) {
      keep_alive = c.keep_alive.ensures i;
      successful_exit = c.successful_exit.ensures i;
      crashed = c.crashed.ensures i;
      path_state = (e.wanted ∙ c.path_state.ensures) i;
      seen = (e.unseen ∙ ap (map (λ _. None)) c.path_state.ensures ∙ unseen (definition c.args.def.now) at c.args.def.now.path_state) i;
    }
