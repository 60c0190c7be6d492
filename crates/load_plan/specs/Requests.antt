-- What is asked of the launcher next for a step, by the job's state just before.
use Rattle.std.specs.Prelude.{Bool, true, false, if◌then◌else◌}
use Rattle.load_plan.specs.declared.Reason.TheVariants as reason
use Rattle.load_plan.specs.declared.Operation.{Operation}
use Rattle.load_plan.specs.declared.Operation.TheVariants.{Load, Replace, Unload, Leave}
use Rattle.load_plan.specs.declared.requests.JobSeen.{JobSeen}
use Rattle.load_plan.specs.declared.requests.JobSeen.TheVariants.{Gone, Removing, Running, Idle}
use Rattle.load_plan.specs.declared.requests.NextRequest.{NextRequest}
use Rattle.load_plan.specs.declared.requests.NextRequest.TheVariants as next

-- the unload of a job, given whether its run may be ended
abbrev pub unload_next : JobSeen → Bool → NextRequest → NextRequest
unload_next Gone may_end afterwards = afterwards
unload_next Removing may_end afterwards = next.Leave reason.Goes
unload_next Idle may_end afterwards = next.Unload
unload_next Running may_end afterwards = if may_end then next.Unload else next.Leave reason.Runs

-- what follows once the unload was accepted
abbrev pub unloaded_next : JobSeen → NextRequest → NextRequest
unloaded_next Gone afterwards = afterwards
unloaded_next Removing afterwards = next.Wait
unloaded_next _ afterwards = next.Leave reason.Meanwhile

-- what is asked next for a step; an argument says whether its unload was accepted
abbrev pub next_request : Operation → JobSeen → Bool → Bool → NextRequest
next_request (Load file) seen may_end unloaded = next.Load
next_request (Replace file) seen may_end true = unloaded_next seen next.Load
next_request (Replace file) seen may_end false = unload_next seen may_end next.Load
next_request Unload seen may_end true = unloaded_next seen next.Done
next_request Unload seen may_end false = unload_next seen may_end next.Done
next_request (Leave why) seen may_end unloaded = next.Leave why

-- the plan says that the job is unloaded
abbrev pub plans_unload : Operation → Bool
plans_unload (Replace file) = true
plans_unload Unload = true
plans_unload _ = false

-- an unload is asked
abbrev pub is_asked_unload : NextRequest → Bool
is_asked_unload next.Unload = true
is_asked_unload _ = false

-- a load is asked
abbrev pub is_asked_load : NextRequest → Bool
is_asked_load next.Load = true
is_asked_load _ = false
