-- The unload is an event to its job; without one no job is touched.
use Rattle.std.proofs.Common.{◌≡◌, true, ap, sym, subst, ◌∙◌}
use Rattle.history_model.specs.Machine.{State}
use Rattle.loaded_jobs.specs.StandsFor.{KeepsState}
use Rattle.loaded_jobs.specs.SettingChanges.{withdrawn}
use Rattle.loaded_jobs.specs.Counts.{counts, count_in, IsCounted}
use Rattle.loaded_jobs.specs.Numbers.{row_names}
use Rattle.loaded_jobs.specs.JobSlots.{rows, gone}
use Rattle.loaded_jobs.specs.Sound.{seen_table}
use Rattle.loaded_jobs.proofs.ChangesLemmas.{IsWithdrawn, none-withdrawn, one-withdrawn, never-refused, counted-ok, names-ok, rows-err, apart-unload}
use Rattle.loaded_jobs.proofs.TellingLemmas.{same-room}
use Rattle.loaded_jobs.proofs.jobs.Jobs.withdraw.Goals as goal

none : (c : goal.After-ask_none) (s : State) → KeepsState (seen_table c.args.self.now) s → IsWithdrawn c.ask_none.new.self (withdrawn c.args.label.now c.args.unload s)
none c s keeps =
    none-withdrawn c.args.self.now c.ask_none.new.self c.args.label.now c.args.unload s c.if-not-unload.true c.ask_none.ensures.alike c.ask_none.ensures.rows
    c.ask_none.ensures.orders c.requires.sound.sound.in_range keeps

pub returns-then-not-unload-clause-kept : goal.returns-then-not-unload-clause-kept
returns-then-not-unload-clause-kept c = λ s keeps allowed. (none c s keeps).kept

pub returns-then-not-unload-clause-orders : goal.returns-then-not-unload-clause-orders
returns-then-not-unload-clause-orders c = λ s keeps allowed. (none c s keeps).orders

pub returns-then-is_ok-clause-kept : goal.returns-then-is_ok-clause-kept
returns-then-is_ok-clause-kept c = λ s keeps allowed.
    (one-withdrawn c.unload.new.self c.args.label.now c.args.unload s c.unload.result c.if-not-unload.false allowed
    (c.unload.ensures.goes.answer true s keeps) (c.unload.ensures.goes.kept true s keeps) (sym c.is_ok.ensures.value ∙ c.if-is_ok.true)).kept

pub returns-then-is_ok-clause-orders : goal.returns-then-is_ok-clause-orders
returns-then-is_ok-clause-orders c = λ s keeps allowed.
    (one-withdrawn c.unload.new.self c.args.label.now c.args.unload s c.unload.result c.if-not-unload.false allowed
    (c.unload.ensures.goes.answer true s keeps) (c.unload.ensures.goes.kept true s keeps) (sym c.is_ok.ensures.value ∙ c.if-is_ok.true)).orders

pub returns-clause-kept : goal.returns-clause-kept
returns-clause-kept c = λ s keeps allowed.
    never-refused (seen_table c.unload.new.self) c.args.label.now c.args.unload s c.unload.result c.if-not-unload.false allowed
    (c.unload.ensures.goes.answer true s keeps) (sym c.is_ok.ensures.value ∙ c.if-is_ok.false)

pub returns-clause-orders : goal.returns-clause-orders
returns-clause-orders c = λ s keeps allowed.
    never-refused (seen_table c.unload.new.self) c.args.label.now c.args.unload s c.unload.result c.if-not-unload.false allowed
    (c.unload.ensures.goes.answer true s keeps) (sym c.is_ok.ensures.value ∙ c.if-is_ok.false)

-- ---- the frame

pub returns-then-is_ok-clause-counted : goal.returns-then-is_ok-clause-counted
returns-then-is_ok-clause-counted c =
    counted-ok (seen_table c.args.self.now) (seen_table c.unload.new.self) c.unload.result (sym c.is_ok.ensures.value ∙ c.if-is_ok.true) c.unload.ensures.goes.counted

pub returns-then-is_ok-clause-names : goal.returns-then-is_ok-clause-names
returns-then-is_ok-clause-names c =
    names-ok (seen_table c.args.self.now) (seen_table c.unload.new.self) c.unload.result (sym c.is_ok.ensures.value ∙ c.if-is_ok.true) c.unload.ensures.goes.names

pub returns-then-is_ok-clause-spared : goal.returns-then-is_ok-clause-spared
returns-then-is_ok-clause-spared c = λ disabled store s keeps label past found apart.
    c.unload.ensures.goes.spared s keeps label past found (apart-unload c.args.label.now label past disabled c.args.unload store c.if-not-unload.false apart)

pub returns-then-is_ok-clause-room : goal.returns-then-is_ok-clause-room
returns-then-is_ok-clause-room c = c.unload.ensures.goes.room

same : (c : goal.After-ask_none-2) → rows c.unload.new.self.job_slots.items ≡ rows c.args.self.now.job_slots.items
same c = rows-err (seen_table c.args.self.now) (seen_table c.unload.new.self) c.unload.result (sym c.is_ok.ensures.value ∙ c.if-is_ok.false) c.unload.ensures.goes.counted

pub returns-clause-counted : goal.returns-clause-counted
returns-clause-counted c =
    let after = c.ask_none-2.new.self in
    subst (λ rs. IsCounted (counts rs) (rows after.job_slots.items) (gone after.job_slots.items) after.visited) (same c) c.ask_none-2.ensures.counted

pub returns-clause-names : goal.returns-clause-names
returns-clause-names c = c.ask_none-2.ensures.names ∙ ap row_names (same c)

pub returns-clause-spared : goal.returns-clause-spared
returns-clause-spared c = λ disabled store s keeps label past found apart. ap (λ rs. count_in (counts rs) label) (c.ask_none-2.ensures.rows ∙ same c)

pub returns-clause-room : goal.returns-clause-room
returns-clause-room c = same-room c.unload.ensures.goes.room c.ask_none-2.ensures.room
