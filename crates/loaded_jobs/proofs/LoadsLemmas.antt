-- When a load is refused, read off the table.
use Rattle.std.proofs.Common.{◌≡◌, ℕ, suc, Bool, true, false, not, ◌&&◌, nat_lt, List, [], ◌∷◌, map, length, Option, Some, None, is_some, refl, sym, ap, ◌∙◌, subst, ◌≤◌, arith}
use Rattle.std.specs.List.{position, list_all}
use Rattle.std.specs.Vec.{vec_capacity, vec_len}
use Rattle.slab.specs.Slab.{Slab, get}
use Rattle.history_model.specs.declared.Reading.{Reading}
use Rattle.history_model.specs.declared.Refusal.{Refusal}
use Rattle.history_model.specs.declared.Refusal.TheVariants.{NoMemory, BadRequest, NoSuchJob, AlreadyLoaded, Disabled, Removing, NotRunning, BadDefinition, StoreRefused, TooManyJobs, SocketRefused, TooManyConnections, Stale, ClockRefused, ShuttingDown}
use Rattle.history_model.specs.declared.event.Setting.{Setting}
use Rattle.history_model.specs.Items.{Definition, History}
use Rattle.history_model.specs.Search.{or_else}
use Rattle.history_model.specs.Labels.{Label}
use Rattle.history_model.specs.Machine.{State, Job, past_of, is_disabled}
use Rattle.history_model.specs.Acceptance.{refused_if, refusal_there, refusal_stored, refusal_of_load}
use Rattle.history_model.specs.declared.TheConstants.{MAX_JOBS, MAX_UP, MAX_WALL}
use Rattle.history_model.specs.MachineLaws.{AreInOrder}
use Rattle.loaded_jobs.specs.Periods.{HavePeriods}
use Rattle.loaded_jobs.specs.Tables.{IsOnce, labels_in, definition_of_number, is_known}
use Rattle.loaded_jobs.specs.StandsFor.{KeepsJobs, KeepsState}
use Rattle.loaded_jobs.specs.Triggers.{AreListed}
use Rattle.loaded_jobs.specs.Leaving.{StayBut}
use Rattle.loaded_jobs.specs.JobSlots.{row, name, AllStay, has_label}
use Rattle.loaded_jobs.specs.Loads.{IsAbsent, enabled_if}
use Rattle.loaded_jobs.specs.TableOutcomes.{Means}
use Rattle.loaded_jobs.specs.Sound.{seen_table, AreHeld, IsSound, IsWhole}
use Rattle.loaded_jobs.specs.Index.{IsNamed, IsIndexOf, IsIndexed}
use Rattle.loaded_jobs.specs.Minutes.{some_calendar}
use Rattle.loaded_jobs.proofs.IndexGrowthLemmas.{named-of}
use Rattle.loaded_jobs.specs.declared.job_slot.JobSlot.{JobSlot}
use Rattle.loaded_jobs.specs.declared.jobs.Jobs.{Jobs}
use Rattle.loaded_jobs.proofs.FirstLemmas.{NonePasses, none-where}
use Rattle.loaded_jobs.proofs.PlacesLemmas.{rows-all}

-- ---- growth

held-slots : (old new : Slab (Unit {0})) (es : List JobSlot) → new.slots ≡ old.slots → AreHeld old es → AreHeld new es
held-slots old new [] same held = tt
held-slots old new (e ∷ es) same held =
    (ap (λ slots. get (record { slots = slots; vacant_key = 0; capacity = 0 }) e.number) same ∙ held.0, held-slots old new es same held.1)

pub grown-sound : (old new : Jobs) → IsSound old → new.reading ≡ old.reading → new.job_slots.items ≡ old.job_slots.items → vec_len new.job_slots ≡ vec_len old.job_slots →
    new.numbers.slots ≡ old.numbers.slots → new.orders.items ≡ old.orders.items → vec_capacity old.orders ≤ vec_capacity new.orders → new.index ≡ old.index → new.has_calendars ≡ old.has_calendars → new.triggers.items ≡ old.triggers.items → IsSound new
grown-sound old new sound reading items len slots orders capacity index calendars triggers = record {
  in_range = subst (λ at. at.up ≤ MAX_UP) (sym reading) sound.in_range;
  wall = subst (λ at. at.wall ≤ MAX_WALL) (sym reading) sound.wall;
  once = subst (λ es. IsOnce (map name es)) (sym items) sound.once;
  held = subst (AreHeld new.numbers) (sym items) (held-slots old.numbers new.numbers old.job_slots.items slots sound.held);
  free = λ number none. ap (λ held. get (record { slots = held; vacant_key = 0; capacity = 0 }) number) slots
      ∙ sound.free number (ap (λ es. definition_of_number (map name es) number) (sym items) ∙ none);
  known = (λ i. list_all (is_known (map name (items i))) (orders i)) ∙ sound.known;
  few = let few = sound.few in omega (arith, few, len);
  room = let room = sound.room in omega (arith, room, len, capacity);
  named = subst (λ i. IsNamed i (map name new.job_slots.items)) (sym index) (subst (λ es. IsNamed old.index (map name es)) (sym items) sound.named);
  periods = subst (λ es. HavePeriods (map name es)) (sym items) sound.periods;
  calendars = calendars ∙ sound.calendars ∙ ap (λ es. some_calendar (map name es)) (sym items);
  listed = subst (λ ls. AreListed ls (map name new.job_slots.items)) (sym triggers) (subst (λ es. AreListed old.triggers.items (map name es)) (sym items) sound.listed);
  order = subst (λ es. AreInOrder (labels_in (map name es))) (sym items) sound.order;
}

-- growth beside the index, and then of the index
pub grown-whole : (old new : Jobs) → IsWhole old → new.reading ≡ old.reading → new.job_slots.items ≡ old.job_slots.items → vec_len new.job_slots ≡ vec_len old.job_slots →
    new.numbers.slots ≡ old.numbers.slots → new.orders.items ≡ old.orders.items → vec_capacity old.orders ≤ vec_capacity new.orders → new.gone ≡ old.gone → new.has_calendars ≡ old.has_calendars →
    new.triggers.items ≡ old.triggers.items → IsIndexOf new.index old.reading.up old.job_slots.items → IsWhole new
grown-whole old new whole reading items len slots orders capacity stay calendars triggers index =
    let indexed : IsIndexed new = subst (λ at. IsIndexOf new.index at.up new.job_slots.items) (sym reading) (subst (IsIndexOf new.index old.reading.up) (sym items) index) in
    let before = grown-sound old (record new { index = old.index }) whole.sound reading items len slots orders capacity refl calendars triggers in
    record {
      sound = record {
        in_range = before.in_range;
        wall = before.wall;
        once = before.once;
        held = before.held;
        free = before.free;
        few = before.few;
        known = before.known;
        room = before.room;
        named = named-of new.index new.reading.up new.job_slots.items indexed;
        periods = before.periods;
        calendars = before.calendars;
        listed = before.listed;
        order = before.order;
      };
      indexed = indexed;
      stay = subst (λ g. StayBut g new.job_slots.items) (sym stay) (subst (StayBut old.gone) (sym items) whole.stay);
    }

-- ---- refusals

jobs-length : (at : Reading) (es : List JobSlot) (jobs : List Job) → KeepsJobs at (map row es) jobs → length jobs ≡ length es
jobs-length at [] [] keeps = refl
jobs-length at [] (j ∷ js) keeps = absurd keeps
jobs-length at (e ∷ es) [] keeps = absurd keeps
jobs-length at (e ∷ es) (j ∷ js) keeps = ap suc (jobs-length at es js keeps.1)

pub count-jobs : (t : Jobs) (s : State) → KeepsState (seen_table t) s → AllStay t.job_slots.items → length s.jobs ≡ length t.job_slots.items
count-jobs t s keeps stay = jobs-length s.reading t.job_slots.items s.jobs (subst (λ rs. KeepsJobs s.reading rs s.jobs) (rows-all t.job_slots.items stay) keeps.jobs)

pub absent-names : (label : Label) (es : List JobSlot) → None ≡ position (has_label label) es → IsAbsent label (map name es)
absent-names label es none = go es (none-where (has_label label) es none)
  where
    go : (es : List JobSlot) → NonePasses (has_label label) es → IsAbsent label (map name es)
    go [] none = tt
    go (e ∷ es) none = (none.0, go es none.1)

pub there : (s : State) → s.is_shutting_down ≡ false → (label : Label) (d : Definition) (writes_setting force bind store : Bool) (r : Refusal) → refusal_there (past_of s label) ≡ Some r →
    refusal_of_load s label d writes_setting force bind store ≡ Some r
there s running label d writes_setting force bind store r is = λ i. refused_if (running i) ShuttingDown (or_else (is i)
    (refused_if (not (nat_lt (length s.jobs) MAX_JOBS)) TooManyJobs (refused_if (not writes_setting && not force && is_disabled s label d.disabled) Disabled
    (refused_if (d.has_sockets && not bind) SocketRefused (refusal_stored writes_setting store)))))

pub behind-there : (s : State) → s.is_shutting_down ≡ false → (label : Label) (d : Definition) (writes_setting force bind store : Bool) (fits held : Bool) → refusal_there (past_of s label) ≡ None →
    nat_lt (length s.jobs) MAX_JOBS ≡ fits → is_disabled s label d.disabled ≡ held →
    refusal_of_load s label d writes_setting force bind store ≡ refused_if (not fits) TooManyJobs (refused_if (not writes_setting && not force && held) Disabled
    (refused_if (d.has_sockets && not bind) SocketRefused (refusal_stored writes_setting store)))
behind-there s running label d writes_setting force bind store fits held is count flag = λ i. refused_if (running i) ShuttingDown (or_else (is i)
    (refused_if (not (count i)) TooManyJobs (refused_if (not writes_setting && not force && flag i) Disabled
    (refused_if (d.has_sockets && not bind) SocketRefused (refusal_stored writes_setting store)))))

pub not-below : (n m : ℕ) → m ≤ n → nat_lt n m ≡ false
not-below n m above = grind (arith, above)

pub no-past : (o : Option History) → refusal_there o ≡ None → o ≡ None
no-past None is = refl
no-past (Some past) is = cc

pub means : (r : Refusal) {P : Type 0} → P → Means r P
means NoMemory p = tt
means BadRequest p = p
means NoSuchJob p = p
means AlreadyLoaded p = p
means Disabled p = p
means Removing p = p
means NotRunning p = p
means (BadDefinition reason key) p = p
means StoreRefused p = p
means TooManyJobs p = p
means SocketRefused p = p
means TooManyConnections p = p
means Stale p = p
means ClockRefused p = p
means ShuttingDown p = p

pub some-enabled : (o : Option Setting) (writes_setting : Bool) (label : Label) → o ≡ enabled_if writes_setting label → o ≡ enabled_if (is_some o) label
some-enabled None true label is = cc
some-enabled None false label is = refl
some-enabled (Some x) true label is = is
some-enabled (Some x) false label is = cc
