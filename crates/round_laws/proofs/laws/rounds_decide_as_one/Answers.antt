-- Pass by pass.
use Rattle.round_laws.proofs.DecidingLemmas.{decides}
use Rattle.round_laws.proofs.laws.rounds_decide_as_one.Goals as goal

pub returns : goal.returns
returns g c = λ header calls stores journal before first last new at empty rounds had.
    decides g.E.Edge.told g.T.SettingStore.told g.T.SettingStore.holds g.T.SettingStore.stamped g.E.RoundEdge.Finds g.E.PathEdge.Looks g.E.RoundEdge.Accepts g.E.RoundEdge.Holds header calls stores journal before first last new at empty rounds had
