-- The table takes the event in, and what it ordered is carried out.
use Rattle.std.proofs.Common.{◌≡◌, true, [], refl, sym, ap, subst, ◌∙◌}
use Rattle.std.specs.Prelude.{Ok}
use Rattle.std.specs.List.{list_all}
use Rattle.history_model.specs.Step.{Outcome}
use Rattle.loaded_jobs.specs.Tables.{is_known}
use Rattle.loaded_jobs.specs.StandsFor.{labelled}
use Rattle.job_table.specs.Taking.{Takes, machine_event}
use Rattle.job_table.specs.declared.take.Taken.{Taken}
use Rattle.launcher.proofs.ExecuteLemmas.{none_carried}
use Rattle.launcher.proofs.OneEventLemmas.{not-called, not-taken, took, wanted}
use Rattle.launcher.proofs.events.receive.Goals as goal

pub returns-in-Ok-Made-clause-happens : goal.returns-in-Ok-Made-clause-happens
returns-in-Ok-Made-clause-happens g c = λ stay.
    let lent = c.last_step.result in
    let takes = subst (λ (a : Taken). Takes (machine_event c.args.what.now) c.args.table.now (Ok a) c.take.new.self) c.in-Ok-Made.field-0-is c.in-Ok-Made.ensures.takes in
    took c.args.what.now c.args.table.now c.take.new.self c.in-Ok-Made.field-0 lent.orders.now _ _ _ _ stay c.in-Ok-Made.ensures.names
    (λ s keeps.
    let did = takes s keeps in
    ((ap (λ (o : Outcome). o.refusal) did.0, ap (λ (o : Outcome). o.orders) did.0 ∙ sym c.last_step.ensures.orders ∙ ap (λ ns. labelled ns lent.orders.now) c.last_step.ensures.names), did.1))
    (subst (λ ns. list_all (is_known ns) lent.orders.now ≡ true) c.last_step.ensures.names c.last_step.ensures.known)
    c.last_step.ensures.numbered c.lend_table.ensures.range c.execute_all.ensures

pub returns-in-Ok-Told-clause-happens : goal.returns-in-Ok-Told-clause-happens
returns-in-Ok-Told-clause-happens g c = λ stay.
    let takes = subst (λ (a : Taken). Takes (machine_event c.args.what.now) c.args.table.now (Ok a) c.take.new.self) c.in-Ok-Told.field-0-is c.in-Ok-Told.ensures.takes in
    took c.args.what.now c.args.table.now c.take.new.self c.in-Ok-Told.field-0 [] _ _ _ _ stay c.in-Ok-Told.ensures.names
    (λ s keeps.
    let did = takes s keeps in
    ((ap (λ (o : Outcome). o.refusal) did.0, ap (λ (o : Outcome). o.orders) did.0), did.1))
    refl c.lend_table-in-Ok-Told.ensures.numbered c.lend_table.ensures.range (none_carried _ _)

pub returns-in-Err-clause-happens : goal.returns-in-Err-clause-happens
returns-in-Err-clause-happens g c = λ stay. not-taken (machine_event c.args.what.now) c.in-Err.refusal c.args.table.now c.take.new.self _ _ c.in-Err.ensures.rows c.in-Err.ensures.takes

pub returns-in-Err-clause-uncalled : goal.returns-in-Err-clause-uncalled
returns-in-Err-clause-uncalled g c = λ is. not-called (machine_event c.args.what.now) c.in-Err.refusal c.args.table.now c.take.new.self _ c.in-Err.ensures.rows c.in-Err.ensures.takes is

pub returns-in-Err-clause-memory : goal.returns-in-Err-clause-memory
returns-in-Err-clause-memory g c = λ is. wanted c.args.what.now c.args.table.now c.in-Err.refusal c.in-Err.ensures.memory is
