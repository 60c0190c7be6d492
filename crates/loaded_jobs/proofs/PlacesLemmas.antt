-- The job with a label: where it is, and what an event for it changes.
use Rattle.std.proofs.Common.{◌≡◌, ◌<◌, ℕ, zero, suc, Bool, true, false, not, ◌&&◌, cond, List, [], ◌∷◌, map, length, get_or, Some, None, refl, sym, ap, ◌∙◌, subst, arith}
use Rattle.std.specs.Prelude.{slice_set, unwrap_or, Result, Ok, Err, OnOk}
use Rattle.std.specs.List.{position, filter}
use Rattle.history_model.specs.declared.Reading.{Reading}
use Rattle.history_model.specs.declared.Refusal.{Refusal}
use Rattle.history_model.specs.Items.{Item, Loaded, Read, Saw, Asked, Came, Left, Ordered, Answered, RunEnded, WaitRefused, History}
use Rattle.history_model.specs.Search.{first, first as head_of, or_else, latest}
use Rattle.history_model.specs.Clock.{now, definition_of, reading_in, load_in, no_reading, absent_load}
use Rattle.history_model.specs.Refusals.{refusal_of}
use Rattle.history_model.specs.FactsOfPast.{Keeps, reply}
use Rattle.history_model.specs.Labels.{Label, is_same}
use Rattle.history_model.specs.Machine.{Job, is_of, past_in}
use Rattle.history_model.specs.Acceptance.{refusal_at}
use Rattle.history_model.specs.Step.{with_item, received_one}
use Rattle.history_model.specs.Definitions.{definition}
use Rattle.loaded_jobs.specs.StandsFor.{KeepsJob, KeepsJobs}
use Rattle.loaded_jobs.specs.JobSlots.{row, name, rows, gone, AllStay, has_label, is_loaded_under}
use Rattle.loaded_jobs.specs.declared.job_slot.JobSlot.{JobSlot}
use Rattle.loaded_jobs.specs.Here.{IsFound}
use Rattle.loaded_jobs.proofs.ListLemmas.{set-map}
use Rattle.loaded_jobs.proofs.FirstLemmas.{IsFirstWhere, NonePasses, first-where, none-where, within-where}

abbrev pub IsFirstAt : Label → List JobSlot → ℕ → Type 0
IsFirstAt label es k = IsFirstWhere (has_label label) es k

-- if all stay, the rows are those of all
pub rows-all : (es : List JobSlot) → AllStay es → rows es ≡ map row es
rows-all [] stay = refl
rows-all (e ∷ es) stay = ap (λ b. cond b (rows es) (row e ∷ rows es)) stay.0 ∙ ap (λ rs. row e ∷ rs) (rows-all es stay.1)

-- and none is gone
pub none-gone : (es : List JobSlot) → AllStay es → gone es ≡ []
none-gone [] stay = refl
none-gone (e ∷ es) stay = ap (λ b. cond b (row e ∷ gone es) (gone es)) stay.0 ∙ none-gone es stay.1

-- the machine's test of a job is the table's test of its slot
of-job : (at : Reading) (label : Label) (e : JobSlot) (job : Job) (b : Bool) → KeepsJob at (row e) job → has_label label e ≡ b → is_of label job ≡ b
of-job at label e job b keeps has = ap (is_same label) (sym keeps.label) ∙ has

module _ (at : Reading) (label : Label) where
  absent : (es : List JobSlot) (jobs : List Job) → KeepsJobs at (map row es) jobs → NonePasses (has_label label) es → filter (is_of label) jobs ≡ []
  absent [] [] keeps none = refl
  absent [] (job ∷ jobs) keeps none = absurd keeps
  absent (e ∷ es) [] keeps none = absurd keeps
  absent (e ∷ es) (job ∷ jobs) keeps none =
      ap (λ b. cond b (job ∷ filter (is_of label) jobs) (filter (is_of label) jobs)) (of-job at label e job false keeps.0 none.0) ∙ absent es jobs keeps.1 none.1

  pub is-absent : (es : List JobSlot) (jobs : List Job) → AllStay es → KeepsJobs at (rows es) jobs → None ≡ position (has_label label) es →
      past_in (first (filter (is_of label) jobs)) ≡ None
  is-absent es jobs stay keeps none = ap (λ found. past_in (first found)) (absent es jobs (subst (λ rs. KeepsJobs at rs jobs) (rows-all es stay) keeps) (none-where (has_label label) es none))

  found : (es : List JobSlot) (k : ℕ) (d : JobSlot) (jobs : List Job) → KeepsJobs at (map row es) jobs → IsFirstAt label es k → IsFound at label (get_or es k d) jobs
  found [] k d jobs keeps first = absurd first
  found (e ∷ es) k d [] keeps first = absurd keeps
  found (e ∷ es) zero d (job ∷ jobs) keeps here =
      record {
        past = job.past;
        keeps = keeps.0.keeps;
        present = keeps.0.present;
        described = keeps.0.definition;
        is = ap (λ b. past_in (first (cond b (job ∷ filter (is_of label) jobs) (filter (is_of label) jobs)))) (of-job at label e job true keeps.0 here);
      }
  found (e ∷ es) (suc k) d (job ∷ jobs) keeps here =
      let later = found es k d jobs keeps.1 here.1 in
      record {
        past = later.past;
        keeps = later.keeps;
        present = later.present;
        described = later.described;
        is = ap (λ b. past_in (first (cond b (job ∷ filter (is_of label) jobs) (filter (is_of label) jobs)))) (of-job at label e job false keeps.0 here.0) ∙ later.is;
      }

  pub is-found : (es : List JobSlot) (k : ℕ) (d : JobSlot) (jobs : List Job) → AllStay es → KeepsJobs at (rows es) jobs →
      Some k ≡ position (has_label label) es → IsFound at label (get_or es k d) jobs
  is-found es k d jobs stay keeps here = found es k d jobs (subst (λ rs. KeepsJobs at rs jobs) (rows-all es stay) keeps) (first-where (has_label label) es k here)

-- ---- what an event to the job leaves

abbrev IsSilent : Item → Type 0
IsSilent item = reading_in item ≡ None

still : (item : Item) (past : History) → IsSilent item → now (item ∷ past) ≡ now past
still item past silent = ap (λ o. unwrap_or (or_else o (latest reading_in past)) no_reading) silent

no-load : (item : Item) → IsSilent item → load_in item ≡ None
no-load (Loaded d at) silent = cc
no-load (Read at calendar) silent = refl
no-load (Saw path obs) silent = refl
no-load (Asked ask) silent = refl
no-load (Came conn) silent = refl
no-load (Left conn) silent = refl
no-load (Ordered act) silent = refl
no-load (Answered answer) silent = refl
no-load (RunEnded run how) silent = refl
no-load (WaitRefused run) silent = refl

same-definition : (item : Item) (past : History) → IsSilent item → definition_of (item ∷ past) ≡ definition_of past
same-definition item past silent = ap (λ o. (unwrap_or (or_else o (latest load_in past)) absent_load).definition) (no-load item silent)

module _ (at : Reading) (label : Label) (item : Item) (new : JobSlot) (silent : IsSilent item) where
  received-at : (es : List JobSlot) (k : ℕ) (d : JobSlot) (jobs : List Job) → KeepsJobs at (map row es) jobs → IsFirstAt label es k →
      name new ≡ name (get_or es k d) →
      ((past : History) → Keeps (get_or es k d).core.facts past → at ≡ now past → Keeps new.core.facts (item ∷ past)) →
      KeepsJobs at (map row (slice_set es k new)) (received_one label item jobs)
  received-at [] k d jobs keeps here named kept = absurd here
  received-at (e ∷ es) k d [] keeps here named kept = absurd keeps
  received-at (e ∷ es) zero d (job ∷ jobs) keeps here named kept =
      let head : KeepsJob at (row new) (with_item job (Some item)) = record {
        label = ap (λ n. n.described.label) named ∙ keeps.0.label;
        definition = ap (λ n. definition n.described) named ∙ keeps.0.definition ∙ sym (same-definition item job.past silent);
        keeps = kept job.past keeps.0.keeps keeps.0.present;
        present = keeps.0.present ∙ sym (still item job.past silent);
      } in
      subst (KeepsJobs at (row new ∷ map row es)) (ap (λ b. cond b (with_item job (Some item) ∷ jobs) (job ∷ received_one label item jobs)) (sym (of-job at label e job true keeps.0 here))) (head, keeps.1)
  received-at (e ∷ es) (suc k) d (job ∷ jobs) keeps here named kept =
      let rest = received-at es k d jobs keeps.1 here.1 named kept in
      subst (KeepsJobs at (row e ∷ map row (slice_set es k new))) (ap (λ b. cond b (with_item job (Some item) ∷ jobs) (job ∷ received_one label item jobs)) (sym (of-job at label e job false keeps.0 here.0))) (keeps.0, rest)

pub stay-set : (es : List JobSlot) (k : ℕ) (new : JobSlot) → AllStay es → new.has_gone ≡ false → AllStay (slice_set es k new)
stay-set [] k new stay stays = stay
stay-set (e ∷ es) zero new stay stays = (stays, stay.1)
stay-set (e ∷ es) (suc k) new stay stays = (stay.0, stay-set es k new stay.1 stays)

pub stays-at : (es : List JobSlot) (k : ℕ) (d : JobSlot) → AllStay es → k < length es → (get_or es k d).has_gone ≡ false
stays-at [] k d stay within = absurd (omega (arith, within))
stays-at (e ∷ es) zero d stay within = stay.0
stays-at (e ∷ es) (suc k) d stay within = stays-at es k d stay.1 (omega (arith, within))

-- the job's slot after an event that only its core has seen
pub record IsHanded (es : List JobSlot) (k : ℕ) (e new : JobSlot) : Type 0 where
  pub stay : AllStay (slice_set es k new)
  pub names : map name (slice_set es k new) ≡ map name es
  pub rows_if_same : row new ≡ row e → rows (slice_set es k new) ≡ rows es

pub handed : (es : List JobSlot) (k : ℕ) (e new : JobSlot) → AllStay es → k < length es → e ≡ get_or es k e → name new ≡ name e → new.has_gone ≡ e.has_gone → IsHanded es k e new
handed es k e new stay within is named going =
    let stays : e.has_gone ≡ false = ap (λ x. x.has_gone) is ∙ stays-at es k e stay within in
    let all = stay-set es k new stay (going ∙ stays) in
    record {
      stay = all;
      names = set-map name es k e new within is named;
      rows_if_same = λ same. rows-all (slice_set es k new) all ∙ set-map row es k e new within is same ∙ sym (rows-all es stay);
    }

pub received-kept : (at : Reading) (label : Label) (item : Item) (es : List JobSlot) (k : ℕ) (e new : JobSlot) (jobs : List Job) (result : Result (Unit {0}) Refusal) →
    AllStay es → Some k ≡ position (has_label label) es → e ≡ get_or es k e → name new ≡ name e → new.has_gone ≡ e.has_gone → reading_in item ≡ None →
    ((past : History) → Keeps e.core.facts past → at ≡ now past → OnOk result (Keeps new.core.facts (item ∷ past))) →
    KeepsJobs at (rows es) jobs → OnOk result (KeepsJobs at (rows (slice_set es k new)) (received_one label item jobs))
received-kept at label item es k e new jobs (Err r) stay here is named going silent kept keeps = tt
received-kept at label item es k e new jobs (Ok u) stay here is named going silent kept keeps =
    let done = received-at at label item new silent es k e jobs (subst (λ rs. KeepsJobs at rs jobs) (rows-all es stay) keeps) (first-where (has_label label) es k here)
    (named ∙ ap name is) (λ past kept_before present. kept past (subst (λ x. Keeps x.core.facts past) (sym is) kept_before) present) in
    subst (λ rs. KeepsJobs at rs (received_one label item jobs)) (sym (rows-all (slice_set es k new) (handed es k e new stay (within-where (has_label label) es k (first-where (has_label label) es k here)) is named going).stay)) done

pub answers : (at : Reading) (label : Label) (item : Item) (es : List JobSlot) (k : ℕ) (e : JobSlot) (jobs : List Job) (result : Result (Unit {0}) Refusal) →
    AllStay es → Some k ≡ position (has_label label) es → e ≡ get_or es k e →
    ((past : History) → Keeps e.core.facts past → at ≡ now past → result ≡ reply (refusal_of item past)) →
    KeepsJobs at (rows es) jobs → result ≡ reply (refusal_at (past_in (first (filter (is_of label) jobs))) item)
answers at label item es k e jobs result stay here is answer keeps =
    let there = is-found at label es k e jobs stay keeps here in
    answer there.past (subst (λ x. Keeps x.core.facts there.past) (sym is) there.keeps) there.present
    ∙ ap (λ found. reply (refusal_at found item)) (sym there.is)

-- ---- among jobs some of which have left

module _ (at : Reading) (label : Label) where
  here-going : (e : JobSlot) (b : Bool) → e.has_gone ≡ true → is_loaded_under label e ≡ b → b ≡ false
  here-going e b going is = sym is ∙ ap (λ v. not v && has_label label e) going

  here-stays : (e : JobSlot) (b : Bool) → e.has_gone ≡ false → is_loaded_under label e ≡ b → has_label label e ≡ b
  here-stays e b stays is = sym (ap (λ v. not v && has_label label e) stays) ∙ is

  pub no-one-here : (es : List JobSlot) (jobs : List Job) → KeepsJobs at (rows es) jobs → NonePasses (is_loaded_under label) es → filter (is_of label) jobs ≡ []
  no-one-here [] [] keeps none = refl
  no-one-here [] (job ∷ jobs) keeps none = absurd keeps
  no-one-here (e ∷ es) jobs keeps none = go e.has_gone refl jobs keeps (λ js. no-one-here es js)
    where
      go : (b : Bool) → e.has_gone ≡ b → (jobs : List Job) → KeepsJobs at (cond b (rows es) (row e ∷ rows es)) jobs →
          ((js : List Job) → KeepsJobs at (rows es) js → NonePasses (is_loaded_under label) es → filter (is_of label) js ≡ []) → filter (is_of label) jobs ≡ []
      go true is jobs keeps later = later jobs keeps none.1
      go false is [] keeps later = absurd keeps
      go false is (job ∷ jobs) keeps later =
          ap (λ b. cond b (job ∷ filter (is_of label) jobs) (filter (is_of label) jobs)) (of-job at label e job false keeps.0 (here-stays e false is none.0)) ∙ later jobs keeps.1 none.1

  pub someone-here : (es : List JobSlot) (k : ℕ) (d : JobSlot) (jobs : List Job) → KeepsJobs at (rows es) jobs → IsFirstWhere (is_loaded_under label) es k → IsFound at label (get_or es k d) jobs
  someone-here [] k d jobs keeps first = absurd first
  someone-here (e ∷ es) zero d jobs keeps first = go e.has_gone refl jobs keeps
    where
      go : (b : Bool) → e.has_gone ≡ b → (jobs : List Job) → KeepsJobs at (cond b (rows es) (row e ∷ rows es)) jobs → IsFound at label e jobs
      go true is jobs keeps = let clash : true ≡ false = here-going e true is first in absurd (cc clash)
      go false is [] keeps = absurd keeps
      go false is (job ∷ jobs) keeps = record {
        past = job.past;
        keeps = keeps.0.keeps;
        present = keeps.0.present;
        described = keeps.0.definition;
        is = ap (λ b. past_in (head_of (cond b (job ∷ filter (is_of label) jobs) (filter (is_of label) jobs)))) (of-job at label e job true keeps.0 (here-stays e true is first));
      }
  someone-here (e ∷ es) (suc k) d jobs keeps first = go e.has_gone refl jobs keeps (λ js. someone-here es k d js)
    where
      go : (b : Bool) → e.has_gone ≡ b → (jobs : List Job) → KeepsJobs at (cond b (rows es) (row e ∷ rows es)) jobs →
          ((js : List Job) → KeepsJobs at (rows es) js → IsFirstWhere (is_loaded_under label) es k → IsFound at label (get_or es k d) js) → IsFound at label (get_or es k d) jobs
      go true is jobs keeps later = later jobs keeps first.1
      go false is [] keeps later = absurd keeps
      go false is (job ∷ jobs) keeps later =
          let found = later jobs keeps.1 first.1 in
          record {
            past = found.past;
            keeps = found.keeps;
            present = found.present;
            described = found.described;
            is = ap (λ b. past_in (head_of (cond b (job ∷ filter (is_of label) jobs) (filter (is_of label) jobs)))) (of-job at label e job false keeps.0 (here-stays e false is first.0)) ∙ found.is;
          }
