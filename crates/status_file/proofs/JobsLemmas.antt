-- Lines of jobs that are added one after the other.
use Rattle.std.proofs.Common.{◌≡◌, ◌≢◌, ◌++◌, ◌∷◌, [], ◌∙◌, ◌==◌, ap, refl, sym, cond, ℕ, Bool, true, false, List, Option, Some, None, is_some, append-nil}
use Rattle.std.proofs.lemmas.List.{append_assoc}
use Rattle.std.proofs.lemmas.Grind.{flat_map-append}
use Rattle.std.specs.List.{flat_map, AllByRecursion}
use Rattle.history_model.specs.Machine.{State}
use Rattle.loaded_jobs.specs.StandsFor.{KeepsState}
use Rattle.loaded_jobs.specs.Tables.{Name, Table, label_of, definition_of_number}
use Rattle.status_file.specs.declared.line.StatusText.{StatusText}
use Rattle.status_file.specs.Lines.{Adds}
use Rattle.status_file.specs.Tokens.{job_tokens}
use Rattle.status_file.specs.Jobs.{AddsJobs, IsOf, JobLine, text_of}

defined_by : (is : Bool) (name : Name) (names : List Name) (job : ℕ) →
    ((label_of names job ≡ [] → ⊥) → is_some (definition_of_number names job) ≡ true) →
    (cond is name.described.label (label_of names job) ≡ [] → ⊥) →
    is_some (cond is (Some name.described) (definition_of_number names job)) ≡ true
defined_by true name names job others filled = refl
defined_by false name names job others filled = others filled

-- a number that stands for a label stands for a definition
pub defined : (names : List Name) (job : ℕ) → (label_of names job ≡ [] → ⊥) → is_some (definition_of_number names job) ≡ true
defined [] job filled = absurd (filled refl)
defined (name ∷ names) job filled = defined_by (name.number == job) name names job (defined names job) filled

pub no_line : (table : Table) (text : StatusText) → AddsJobs table text text
no_line table text = record { kept = λ well. well; added = λ well. ([], sym (append-nil text.bytes.items), λ s keeps. tt) }

both : (s : State) (a b : List JobLine) → AllByRecursion (IsOf s) a → AllByRecursion (IsOf s) b → AllByRecursion (IsOf s) (a ++ b)
both s [] b all_a all_b = all_b
both s (x ∷ a) b all_a all_b = (all_a.0, both s a b all_a.1 all_b)

pub lines_then : (table : Table) (x y z : StatusText) → AddsJobs table x y → AddsJobs table y z → AddsJobs table x z
lines_then table x y z first second = record {
  kept = λ well. first.kept (second.kept well);
  added = λ well.
      let (some, is, all) = first.added (second.kept well) in
      let (more, are, rest) = second.added well in (
        some ++ more,
        are ∙ ap (λ b. b ++ flat_map text_of more) is ∙ append_assoc x.bytes.items (flat_map text_of some) (flat_map text_of more)
            ∙ ap (λ b. x.bytes.items ++ b) (sym (flat_map-append text_of some more)),
        λ s keeps. both s some more (all s keeps) (rest s keeps),
      );
}

-- one line, of the facts of its own job
pub one_line : (table : Table) (line : JobLine) (x y : StatusText) → Adds (job_tokens line.job line.calendar) x y →
    ((s : State) → KeepsState table s → IsOf s line) → AddsJobs table x y
one_line table line x y adds is = record {
  kept = adds.kept;
  added = λ well. (line ∷ [], adds.added well ∙ ap (λ b. x.bytes.items ++ b) (sym (append-nil (text_of line))), λ s keeps. (is s keeps, tt));
}

-- memory was refused for it
pub no_memory : (table : Table) (x y : StatusText) → y.is_refused ≡ true → AddsJobs table x y
no_memory table x y refused = record {
  kept = λ well. (let clash : true ≡ false = sym refused ∙ well in absurd (cc clash));
  added = λ well. (let clash : true ≡ false = sym refused ∙ well in absurd (cc clash));
}
