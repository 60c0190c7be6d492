-- Pass by pass.
use Rattle.round_laws.proofs.StartingRoundLemmas.{round_starts, rounds_start, waiting_starts}
use Rattle.round_laws.proofs.laws.a_due_start_is_ordered_in_its_round.Goals as goal

pub returns-clause-one : goal.returns-clause-one
returns-clause-one g c = λ old new round had s keeps led allowed label past is_due.
    round_starts g.E.Edge.told g.T.SettingStore.told g.T.SettingStore.holds g.T.SettingStore.stamped g.E.RoundEdge.Finds g.E.PathEdge.Looks g.E.RoundEdge.Accepts g.E.RoundEdge.Holds old new round had s keeps led allowed label past is_due

pub returns-clause-each : goal.returns-clause-each
returns-clause-each g c = λ header calls stores journal before first old new opened at more round had.
    rounds_start g.E.Edge.told g.T.SettingStore.told g.T.SettingStore.holds g.T.SettingStore.stamped g.E.RoundEdge.Finds g.E.PathEdge.Looks g.E.RoundEdge.Accepts g.E.RoundEdge.Holds header calls stores journal before first old new opened at more round had

pub returns-clause-waits : goal.returns-clause-waits
returns-clause-waits g c = λ header calls stores journal before first from old new opened at more meanwhile round had had'.
    waiting_starts g.E.Edge.told g.T.SettingStore.told g.T.SettingStore.holds g.T.SettingStore.stamped g.E.RoundEdge.Finds g.E.PathEdge.Looks g.E.RoundEdge.Accepts g.E.RoundEdge.Holds header calls stores journal before first from old new opened at more meanwhile round had had'
