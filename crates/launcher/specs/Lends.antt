-- What a launcher ends as, once the outside that it lent is given back.
use Rattle.std.specs.Borrow.{Lends, Fml, RattleType, MutBor}
use Rattle.std.specs.declared.io.traits.Write as write
use Rattle.launcher.specs.declared.host.Host.{Host}
use Rattle.launcher.specs.contracts.host.Host.{the_row}

module _ (T E W : RattleType) (writer : write.Ghosts W.Denot)
    (host : MutBor (Host T.Denot E.Denot W.Denot)) where
  -- the outside is what the loan left; all else of the launcher is as it was
  abbrev pub lends_edge : MutBor E.Denot → Fml
  lends_edge r = Lends (the_row T E W writer) E host r (λ edge. record host.now { edge = edge })
