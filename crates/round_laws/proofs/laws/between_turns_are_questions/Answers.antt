-- Pass by pass.
use Rattle.round_laws.proofs.CalledLemmas.{rounds_go}
use Rattle.round_laws.proofs.laws.between_turns_are_questions.Goals as goal

pub returns : goal.returns
returns g c = λ first last rounds.
    (rounds_go g.E.Edge.told g.T.SettingStore.told g.T.SettingStore.holds g.T.SettingStore.stamped g.E.RoundEdge.Finds g.E.PathEdge.Looks g.E.RoundEdge.Accepts g.E.RoundEdge.Holds rounds).are
