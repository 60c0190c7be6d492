-- Each literal is the front of its cause.
use Rattle.std.proofs.Common.{◌≡◌, ◌++◌, ℕ, List, false, sym, subst, string_bytes}
use Rattle.run_times.specs.declared.writer.TextWriter.{TextWriter}
use Rattle.run_times.specs.Written.{Adds}
use Rattle.run_times.proofs.GrowingLemmas.{adds}
use Rattle.scope.specs.declared.journal.telling.JobCause.{JobCause}
use Rattle.scope.specs.declared.journal.telling.JobCause.TheVariants.{LaunchSpent, RunsSpent, Throttled, NotWanted, Demand, KeepAlive, SuccessfulExit, Crashed, PathState, QueueDirectories}
use Rattle.scope.specs.Fronts.{front_of}
use Rattle.scope.proofs.texts.fronts.put_front.Goals as goal

-- the front of the cause that it is
fronted : (cause is : JobCause) (old new : TextWriter) → cause ≡ is → (new.is_refused ≡ false → string_bytes new.text ≡ string_bytes old.text ++ front_of is) → (new.is_refused ≡ false → old.is_refused ≡ false)
    → Adds (front_of cause) old new
fronted cause is old new same added kept = subst (λ x. Adds (front_of x) old new) (sym same) (adds (front_of is) old new added kept)

pub returns-in-LaunchSpent : goal.returns-in-LaunchSpent
returns-in-LaunchSpent c = fronted c.args.cause LaunchSpent c.args.writer.now c.put-in-LaunchSpent.new.self c.in-LaunchSpent.is c.put-in-LaunchSpent.ensures.added c.put-in-LaunchSpent.ensures.kept

pub returns-in-RunsSpent : goal.returns-in-RunsSpent
returns-in-RunsSpent c = fronted c.args.cause RunsSpent c.args.writer.now c.put-in-RunsSpent.new.self c.in-RunsSpent.is c.put-in-RunsSpent.ensures.added c.put-in-RunsSpent.ensures.kept

pub returns-in-Throttled : goal.returns-in-Throttled
returns-in-Throttled c = fronted c.args.cause (Throttled c.in-Throttled.field-0) c.args.writer.now c.put-in-Throttled.new.self c.in-Throttled.is c.put-in-Throttled.ensures.added c.put-in-Throttled.ensures.kept

pub returns-in-NotWanted : goal.returns-in-NotWanted
returns-in-NotWanted c = fronted c.args.cause NotWanted c.args.writer.now c.put-in-NotWanted.new.self c.in-NotWanted.is c.put-in-NotWanted.ensures.added c.put-in-NotWanted.ensures.kept

pub returns-in-Demand : goal.returns-in-Demand
returns-in-Demand c = fronted c.args.cause Demand c.args.writer.now c.put-in-Demand.new.self c.in-Demand.is c.put-in-Demand.ensures.added c.put-in-Demand.ensures.kept

pub returns-in-KeepAlive : goal.returns-in-KeepAlive
returns-in-KeepAlive c = fronted c.args.cause KeepAlive c.args.writer.now c.put-in-KeepAlive.new.self c.in-KeepAlive.is c.put-in-KeepAlive.ensures.added c.put-in-KeepAlive.ensures.kept

pub returns-in-SuccessfulExit : goal.returns-in-SuccessfulExit
returns-in-SuccessfulExit c = fronted c.args.cause SuccessfulExit c.args.writer.now c.put-in-SuccessfulExit.new.self c.in-SuccessfulExit.is c.put-in-SuccessfulExit.ensures.added c.put-in-SuccessfulExit.ensures.kept

pub returns-in-Crashed : goal.returns-in-Crashed
returns-in-Crashed c = fronted c.args.cause Crashed c.args.writer.now c.put-in-Crashed.new.self c.in-Crashed.is c.put-in-Crashed.ensures.added c.put-in-Crashed.ensures.kept

pub returns-in-PathState : goal.returns-in-PathState
returns-in-PathState c = fronted c.args.cause PathState c.args.writer.now c.put-in-PathState.new.self c.in-PathState.is c.put-in-PathState.ensures.added c.put-in-PathState.ensures.kept

pub returns-in-QueueDirectories : goal.returns-in-QueueDirectories
returns-in-QueueDirectories c = fronted c.args.cause QueueDirectories c.args.writer.now c.put-in-QueueDirectories.new.self c.in-QueueDirectories.is c.put-in-QueueDirectories.ensures.added c.put-in-QueueDirectories.ensures.kept
