-- None of the children that were asked waits.
use denote.Text.{Utf8}
use denote.Shadow.{shadow}
use Rattle.history_model.specs.Machine.{State}
use Rattle.loaded_jobs.specs.StandsFor.{KeepsState}
use Rattle.jobd.specs.KillWaits.{Chain}
use Rattle.jobd.proofs.KillWaitsLemmas.{Passed}
use Rattle.jobd.proofs.kill_waits.is_kill_awaited.Given as goal

abbrev pub invariant-loop : goal.invariant-loop
invariant-loop l = shadow (Utf8 l.behind)
    × ((s : State) → KeepsState l.table s → Passed l.up l.behind s × Chain s.jobs l.counter l.behind)
