-- The answers to the goals of `batch::run`.
use Rattle.std.proofs.Common.{◌≡◌, ◌∙◌, refl, sym, subst, arith, rules, IsTrue, false}
use Rattle.sqlite.specs.Tree.{Trees}
use Rattle.sqlite.specs.Effect.{Database}
use Rattle.sqlite.specs.State.{HasCleanDisk, Survives}
use Rattle.sqlite.specs.Held.{state}
use Rattle.sqlite.proofs.StateLemmas.{survives_then}
use Rattle.sqlite.proofs.Callers.{survives_begin}
use Rattle.override_store.specs.Batches.{RanBatch}
use Rattle.override_store.proofs.batch.run.Goals as goal

pub returns-clause-all : goal.returns-clause-all
returns-clause-all g c clean =
    let old = c.args.conn.now in
    let last = c.execute_batch.new.self.conn.now in
    let begun = c.transaction-tx.ensures.begun in
    let ran = λ (clean : HasCleanDisk (state g.S.Store last)).
    let both : RanBatch g.S.Store c.args.sql.now old (state g.S.Store last).now = record { last = last; ran = rw begun at (c.in_ok-execute_batch.ensures.ran clean); is = refl } in both in
    let end = c.commit.new.self.0 in
    let same : end ≡ c.conn-2-1.given.0 = search rules in
    let late : HasCleanDisk (state g.S.Store end) = search rules in
    let shows = (c.in_ok-commit.ensures.ok late).1 in
    let whole = subst (RanBatch g.S.Store c.args.sql.now old) (sym shows.now_is) (ran (omega (arith, c.commit.ensures.survives.clean))) in
    subst (λ h. RanBatch g.S.Store c.args.sql.now old (state g.S.Store h).now × IsTrue (state g.S.Store h).is_open × ((state g.S.Store h).committed ≡ (state g.S.Store h).now) × ((state g.S.Store h).in_transaction ≡ false)) same
    (whole, shows.is_open, sym (shows.now_is ∙ sym shows.committed_is), shows.mode)

pub returns-clause-crash : goal.returns-clause-crash
returns-clause-crash g c =
    let old = c.args.conn.now in
    let last = c.execute_batch.new.self.conn.now in
    let begun = c.transaction-tx.ensures.begun in
    let ran = λ (clean : HasCleanDisk (state g.S.Store last)).
    let both : RanBatch g.S.Store c.args.sql.now old (state g.S.Store last).now = record { last = last; ran = rw begun at (c.in_ok-execute_batch.ensures.ran clean); is = refl } in both in
    let P = λ (trees : Trees). (db : Database) × RanBatch g.S.Store c.args.sql.now old db × (trees ≡ db.trees) in
    let whole = survives_then (state g.S.Store old) (state g.S.Store last) (state g.S.Store c.commit.new.self.0) _ _ P (λ _ db none. absurd none)
    (λ clean db is. (_, ran (omega (arith, c.commit.ensures.survives.clean)), is)) (survives_begin g.S.Store old (state g.S.Store last) _ (rw begun at c.execute_batch.ensures.survives)) c.commit.ensures.survives in
    let same : c.commit.new.self.0 ≡ c.conn-2-1.given.0 = search rules in
    subst (λ h. Survives (state g.S.Store old) (state g.S.Store h) P) same whole

pub returns-in_err-commit-clause-crash : goal.returns-in_err-commit-clause-crash
returns-in_err-commit-clause-crash g c =
    let old = c.args.conn.now in
    let last = c.execute_batch.new.self.conn.now in
    let begun = c.transaction-tx.ensures.begun in
    let ran = λ (clean : HasCleanDisk (state g.S.Store last)).
    let both : RanBatch g.S.Store c.args.sql.now old (state g.S.Store last).now = record { last = last; ran = rw begun at (c.in_ok-execute_batch.ensures.ran clean); is = refl } in both in
    let P = λ (trees : Trees). (db : Database) × RanBatch g.S.Store c.args.sql.now old db × (trees ≡ db.trees) in
    let whole = survives_then (state g.S.Store old) (state g.S.Store last) (state g.S.Store c.commit.new.self.0) _ _ P (λ _ db none. absurd none)
    (λ clean db is. (_, ran (omega (arith, c.commit.ensures.survives.clean)), is)) (survives_begin g.S.Store old (state g.S.Store last) _ (rw begun at c.execute_batch.ensures.survives)) c.commit.ensures.survives in
    let same : c.commit.new.self.0 ≡ c.conn-2-1.given.0 = search rules in
    subst (λ h. Survives (state g.S.Store old) (state g.S.Store h) P) same whole
