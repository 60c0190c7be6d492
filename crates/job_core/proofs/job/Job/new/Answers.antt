-- Each part begins as the definition says.
use Rattle.std.proofs.Common.{◌≡◌, ◌∙◌, ap, refl, Bool, true, false, ◌||◌, cond, Some, None, [], ◌∷◌, is_some}
use Rattle.history_model.specs.Items.{Loaded}
use Rattle.history_model.specs.Facts.{facts_of}
use Rattle.history_model.specs.Definitions.{definition}
use Rattle.job_core.specs.Observations.{unseen}
use Rattle.job_core.specs.JobFields.{facts}
use Rattle.history_model.specs.declared.reasons.DemandKind.TheVariants as kinds
use Rattle.pace.specs.Paces.{no_ends}
use Rattle.job_core.proofs.job.Job.new.Goals as goal

-- a demand is there exactly if the load is one
is-load : (b : Bool) → is_some (cond b (Some kinds.Load) None) ≡ (b || false)
is-load true = refl
is-load false = refl

pub returns : goal.returns
returns c =
    let run = c.args.def.now.run_at_load in
    let exit = is_some c.args.def.now.successful_exit in
    let fires = c.demand_at_load-demand.ensures in
    let whole = facts_of (Loaded (definition c.args.def.now) c.args.at ∷ []) in
    (λ i. facts (record {
      run_at_load = c.run_at_load.ensures i;
      launch_only_once = c.launch_only_once.ensures i;
      has_sockets = c.has_sockets.ensures i;
      disabled = c.disabled.ensures i;
      calendar = (c.in_ok-calendar.ensures ∙ c.calendar.ensures) i;
      conditions = c.in_ok-conditions.ensures c.args.at i;
      watches = (c.in_ok-watches.ensures ∙ ap unseen c.watch_paths.ensures) i;
      queues = (c.in_ok-queues.ensures ∙ ap unseen c.queue_directories.ensures) i;
      waiting = c.in_ok-waiting.ensures i;
      last_number = None;
      interval = (c.new-interval.ensures ∙ ap (λ s. record { seconds = s; load_up = c.args.at.up }) c.start_interval.ensures.value) i;
      throttle = (c.new-throttle.ensures ∙ ap (λ s. record { seconds = s; order = None; refusal = None }) c.throttle_interval.ensures.value) i;
      ending = (c.new-ending.ensures ∙ ap no_ends c.exit_time_out.ensures.value) i;
      is_ordered_to_end = false;
      runs = 0;
      child = None;
      awaited = None;
      demand = fires i;
      new_demand = fires i;
      spawned_before = false;
      is_stopping = false;
      is_removing = false;
    })) ∙ (λ i. record whole { has_demand = is-load (run || exit) i; has_new_demand = is-load (run || exit) i })
