-- The refusals of a load, one after the other.
use Rattle.std.proofs.Common.{◌≡◌, true, false, nat_lt, length, ap, sym, refl, ◌∙◌, arith}
use Rattle.std.specs.List.{filter}
use Rattle.history_model.specs.declared.Refusal.TheVariants.{Disabled}
use Rattle.history_model.specs.Search.{first}
use Rattle.history_model.specs.Machine.{past_of, sets, flag_in, is_disabled}
use Rattle.history_model.specs.Acceptance.{refused_if, refusal_there}
use Rattle.history_model.specs.Definitions.{definition}
use Rattle.loaded_jobs.specs.Loads.{refusal_outside}
use Rattle.loaded_jobs.proofs.LoadsLemmas.{there, behind-there, count-jobs, not-below}
use Rattle.loaded_jobs.proofs.jobs.Jobs.admit.Goals as goal
use Rattle.history_model.specs.declared.TheConstants.{MAX_JOBS}
use Rattle.std.proofs.lemmas.Bool.{lt-ltb}

pub returns-in-Some-clause-answer : goal.returns-in-Some-clause-answer
returns-in-Some-clause-answer c = λ s bind store keeps.
    there s (sym keeps.shutdown ∙ c.if-self.false) c.args.def.now.label (definition c.args.def.now) c.args.writes_setting c.args.force bind store c.in-Some.refusal
    (sym (c.refusal_there.ensures.answer s keeps ∙ ap (λ l. refusal_there (past_of s l)) c.label.ensures) ∙ c.in-Some.is)

pub returns-then-len-ge-MAX_JOBS-clause-answer : goal.returns-then-len-ge-MAX_JOBS-clause-answer
returns-then-len-ge-MAX_JOBS-clause-answer c = λ s bind store keeps.
    let none = sym (c.refusal_there.ensures.answer s keeps ∙ ap (λ l. refusal_there (past_of s l)) c.label.ensures) ∙ c.in_default.is in
    let count = ap (λ n. nat_lt n MAX_JOBS) (count-jobs c.args.self.now s keeps c.requires.stay) ∙ not-below (length c.args.self.now.job_slots.items) MAX_JOBS (omega arith) in
    behind-there s (sym keeps.shutdown ∙ c.if-self.false) c.args.def.now.label (definition c.args.def.now) c.args.writes_setting c.args.force bind store false _ none count refl

pub returns-then-is_held_back-clause-answer : goal.returns-then-is_held_back-clause-answer
returns-then-is_held_back-clause-answer c = λ s bind store keeps.
    let d = c.args.def.now in
    let none = sym (c.refusal_there.ensures.answer s keeps ∙ ap (λ l. refusal_there (past_of s l)) c.label.ensures) ∙ c.in_default.is in
    let count = ap (λ n. nat_lt n MAX_JOBS) (count-jobs c.args.self.now s keeps c.requires.stay) ∙ lt-ltb (length c.args.self.now.job_slots.items) MAX_JOBS (omega arith) in
    let flag : is_disabled s d.label d.disabled ≡ c.is_disabled-disabled.result = sym (c.is_disabled-disabled.ensures
    ∙ (λ i. flag_in (first (filter (sets (c.label-2.ensures i)) c.args.self.now.settings.items)) (c.disabled.ensures i)) ∙ ap (λ o. flag_in o d.disabled) (keeps.settings d.label)) in
    behind-there s (sym keeps.shutdown ∙ c.if-self.false) d.label (definition d) c.args.writes_setting c.args.force bind store true c.is_disabled-disabled.result none count flag
    ∙ ap (λ b. refused_if b Disabled (refusal_outside d c.args.writes_setting bind store)) (sym c.is_held_back.ensures ∙ c.if-is_held_back.true)

pub returns-clause-answer : goal.returns-clause-answer
returns-clause-answer c = λ s bind store keeps.
    let d = c.args.def.now in
    let none = sym (c.refusal_there.ensures.answer s keeps ∙ ap (λ l. refusal_there (past_of s l)) c.label.ensures) ∙ c.in_default.is in
    let count = ap (λ n. nat_lt n MAX_JOBS) (count-jobs c.args.self.now s keeps c.requires.stay) ∙ lt-ltb (length c.args.self.now.job_slots.items) MAX_JOBS (omega arith) in
    let flag : is_disabled s d.label d.disabled ≡ c.is_disabled-disabled.result = sym (c.is_disabled-disabled.ensures
    ∙ (λ i. flag_in (first (filter (sets (c.label-2.ensures i)) c.args.self.now.settings.items)) (c.disabled.ensures i)) ∙ ap (λ o. flag_in o d.disabled) (keeps.settings d.label)) in
    behind-there s (sym keeps.shutdown ∙ c.if-self.false) d.label (definition d) c.args.writes_setting c.args.force bind store true c.is_disabled-disabled.result none count flag
    ∙ ap (λ b. refused_if b Disabled (refusal_outside d c.args.writes_setting bind store)) (sym c.is_held_back.ensures ∙ c.if-is_held_back.false)
