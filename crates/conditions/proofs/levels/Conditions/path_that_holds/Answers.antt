-- The goals of `Conditions::path_that_holds` that the prover leaves open.
use Rattle.std.proofs.Common.{◌∙◌, Some, sym, ap}
use Rattle.std.specs.List.{find}
use Rattle.std.specs.Option.{option_map}
use Rattle.history_model.specs.Levels.{presence_holds}
use Rattle.conditions.specs.declared.levels.State.{State}
use Rattle.conditions.proofs.ObservationsLemmas.{first-state, path_in, kept-path}
use Rattle.conditions.proofs.levels.Conditions.path_that_holds.Goals as goal

pub returns-in-Some-clause-step : goal.returns-in-Some-clause-step
returns-in-Some-clause-step c =
    ap Some c.as_str.ensures
    ∙ ap (option_map (λ (s : State). s.path)) c.in-Some.ensures
    ∙ ap (λ ss. option_map (λ (s : State). s.path) (find (λ (s : State). presence_holds s.present s.last) ss)) c.as_slice.ensures.value
    ∙ first-state c.self.inside.states.items
    ∙ ap path_in c.self.view_is

pub returns-in-Some-clause-past : goal.returns-in-Some-clause-past
returns-in-Some-clause-past c = λ past e. returns-in-Some-clause-step c ∙ ap path_in e ∙ sym (kept-path past)

pub returns-in-None-clause-step : goal.returns-in-None-clause-step
returns-in-None-clause-step c =
    ap (option_map (λ (s : State). s.path)) c.in-None.ensures
    ∙ ap (λ ss. option_map (λ (s : State). s.path) (find (λ (s : State). presence_holds s.present s.last) ss)) c.as_slice.ensures.value
    ∙ first-state c.self.inside.states.items
    ∙ ap path_in c.self.view_is

pub returns-in-None-clause-past : goal.returns-in-None-clause-past
returns-in-None-clause-past c = λ past e. returns-in-None-clause-step c ∙ ap path_in e ∙ sym (kept-path past)
