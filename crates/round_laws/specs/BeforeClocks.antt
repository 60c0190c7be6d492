-- The turns of some passes, and of the next one those before its clocks are read.
use Rattle.std.specs.Prelude.{List}
use Rattle.launcher_laws.specs.TurnRuns.{Turn}
use Rattle.live_loop.specs.Rounds.{Left}
use Rattle.jobd.specs.declared.round_launcher.RoundLauncher.{RoundLauncher}
use Rattle.round_laws.specs.DueStarts.{turns_before}
use Rattle.round_laws.specs.Outside.{ArePasses, IsPass, Outside}

abbrev pub turns_up_to : {T E W : Type 0} → (by : Outside T E) → {first mid last : Left (RoundLauncher T E W)} →
    ArePasses by first mid → IsPass by mid last → List (Turn T)
turns_up_to by more pass = turns_before by.calls by.stores by.holds by.stamped by.Finds by.Looks by.Accepts by.Holds more pass
