-- The answers to the goals of `OverrideStore::changes`.
use Rattle.std.proofs.Common.{map}
use Rattle.override_store.specs.Settings.{Change, HoldsEach, StampsEach, IsChange, IsForeign, change_of}
use Rattle.override_store.proofs.AnswerLemmas.{listed_as, if_ok, answer_long, any_shown}
use Rattle.override_store.proofs.HoldsLemmas.{kept}
use Rattle.override_store.proofs.OnceLemmas.{once}
use Rattle.override_store.proofs.OverrideStore.changes.Goals as goal

pub returns-clause-ok : goal.returns-clause-ok
returns-clause-ok g c clean ours =
    let it = c.in-Ok.ensures.ok clean (rw c.self.view_is ours) in
    if_ok c.changes.result _ _ (λ all each. rw (← c.self.view_is) (listed_as (λ (k : Change). k.0) IsChange (λ row k r. r.0.0) _ c.in-Ok.rows.items (map change_of all.items) it (rw c.as_slice.ensures.value at each))) c.changes.ensures.ok

pub returns-clause-once : goal.returns-clause-once
returns-clause-once g c clean ours =
    let it = rw c.self.view_is at (c.in-Ok.ensures.ok clean (rw c.self.view_is ours)) in
    if_ok c.changes.result _ _ (λ all each. once (λ (k : Change). k.0) IsChange (λ row k r. r.0.0) _ (map change_of all.items) ours.ours (listed_as (λ (k : Change). k.0) IsChange (λ row k r. r.0.0) _ c.in-Ok.rows.items (map change_of all.items) it (rw c.as_slice.ensures.value at each))) c.changes.ensures.ok

pub returns-clause-foreign : goal.returns-clause-foreign
returns-clause-foreign g c clean ours refused =
    let it = c.in-Ok.ensures.ok clean (rw c.self.view_is ours) in
    let rows = c.in-Ok.rows.items in
    let found = rw c.as_slice.ensures.value at (c.changes.ensures.foreign (rw (c.as_slice.ensures.value) (answer_long _ rows it)) refused) in
    rw (← c.self.view_is) (any_shown IsForeign _ rows it found)

pub returns-clause-holds : goal.returns-clause-holds
returns-clause-holds g c settings holds = kept HoldsEach c.in-Ok.ensures.crash c.in-Ok.ensures.was_open c.in-Ok.ensures.same settings (rw c.self.view_is holds)

pub returns-in-Err-clause-holds : goal.returns-in-Err-clause-holds
returns-in-Err-clause-holds g c settings holds = kept HoldsEach c.in-Err.ensures.crash c.in-Err.ensures.was_open c.in-Err.ensures.same settings (rw c.self.view_is holds)

pub returns-clause-stamped : goal.returns-clause-stamped
returns-clause-stamped g c changes holds = kept StampsEach c.in-Ok.ensures.crash c.in-Ok.ensures.was_open c.in-Ok.ensures.same changes (rw c.self.view_is holds)

pub returns-in-Err-clause-stamped : goal.returns-in-Err-clause-stamped
returns-in-Err-clause-stamped g c changes holds = kept StampsEach c.in-Err.ensures.crash c.in-Err.ensures.was_open c.in-Err.ensures.same changes (rw c.self.view_is holds)

pub returns-clause-crash : goal.returns-clause-crash
returns-clause-crash g c = rw (← c.self.view_is) c.in-Ok.ensures.crash

pub returns-clause-same : goal.returns-clause-same
returns-clause-same g c = rw (← c.self.view_is) c.in-Ok.ensures.same
