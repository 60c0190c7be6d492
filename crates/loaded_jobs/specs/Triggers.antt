-- The triggers of jobs, in one list: the minutes of the hour and the paths that touch them.
use Rattle.std.specs.Prelude.{◌≡◌, ℕ, nat_lt, Bool, true, false, List, [], ◌∷◌, ◌++◌, map, Option, Some, None, slice_get, count_by, ◌==◌}
use Rattle.std.specs.List.{flat_map, AllByRecursion}
use Rattle.history_model.specs.Labels.{is_same, is_before}
use Rattle.history_model.specs.Described.{Described}
use Rattle.loaded_jobs.specs.Tables.{Name}
use Rattle.loaded_jobs.specs.JobSlots.{job_slot_stays}
use Rattle.loaded_jobs.specs.Index.{place_in}
use Rattle.loaded_jobs.specs.declared.job_slot.JobSlot.{JobSlot}
use Rattle.loaded_jobs.specs.declared.trigger.Trigger.{Trigger}
use Rattle.loaded_jobs.specs.declared.trigger.Trigger.TheVariants.{Minute, Path}
use Rattle.loaded_jobs.specs.declared.trigger.Query.{Query}
use Rattle.loaded_jobs.specs.declared.trigger.Query.TheVariants as query
use Rattle.loaded_jobs.specs.declared.trigger.Listed.{Listed}

-- none is before each minute
abbrev pub minute_before : Option ℕ → Option ℕ → Bool
minute_before one None = false
minute_before None (Some n) = true
minute_before (Some m) (Some n) = nat_lt m n

-- the minutes come first: none, then each by its number
abbrev pub rank_of_minute : Option ℕ → List ℕ
rank_of_minute None = 0 ∷ []
rank_of_minute (Some minute) = 0 ∷ minute ∷ []

-- triggers are in byte order of their ranks: the minutes, then the paths
abbrev pub rank : Trigger → List ℕ
rank (Minute minute) = rank_of_minute minute
rank (Path path) = 1 ∷ path

-- the rank of what is sought
abbrev pub rank_of : Query → List ℕ
rank_of (query.Minute minute) = rank_of_minute minute
rank_of (query.Path path) = 1 ∷ path.now

-- the path, if the trigger is one
abbrev pub path_in : Trigger → Option (List ℕ)
path_in (Minute minute) = None
path_in (Path path) = Some path

-- the trigger has this rank
abbrev pub has_rank : List ℕ → Listed → Bool
has_rank query one = is_same query (rank one.trigger)

-- the trigger comes before this rank
abbrev pub is_below : List ℕ → Listed → Bool
is_below query one = is_before (rank one.trigger) query

-- the trigger comes after this rank
abbrev pub is_behind : List ℕ → Listed → Bool
is_behind query one = is_before query (rank one.trigger)

-- the minute of each calendar entry, and each path that the definition lists
abbrev pub triggers_of : Described → List Trigger
triggers_of d =
    map (λ due. Minute due.minute) d.calendar
    ++ (map (λ state. Path state.path) d.path_state
    ++ (map Path d.watch_paths ++ map Path d.queue_directories))

-- triggers under a job's number
abbrev pub under : ℕ → Trigger → Listed
under number trigger = record { trigger = trigger; number = number }

-- those of all definitions
abbrev pub listed_in : List Name → List Listed
listed_in names = flat_map (λ name. map (under name.number) (triggers_of name.described)) names

-- none that follows is before
abbrev pub AreOrdered : List Listed → Type 0
AreOrdered [] = Unit {0}
AreOrdered (one ∷ rest) =
    AllByRecursion (λ other. is_below (rank one.trigger) other ≡ false) rest × AreOrdered rest

-- the list has each trigger of these definitions as often as they have it, whatever passes, and no other, and is in order
pub record AreListed (listed : List Listed) (names : List Name) : Type 0 where
  pub exact : (test : Listed → Bool) → count_by test listed ≡ count_by test (listed_in names)
  pub order : AreOrdered listed

-- the job is there and is not gone
abbrev pub is_staying : Option JobSlot → Bool
is_staying None = false
is_staying (Some e) = job_slot_stays e

-- a job is at this place, if there is one, and is not gone
abbrev pub stays_at : List JobSlot → Option ℕ → Bool
stays_at es None = false
stays_at es (Some place) = is_staying (slice_get es place)

-- the job with this number is at the number's place and is not gone
abbrev pub stays_under : List ℕ → List JobSlot → Listed → Bool
stays_under places es one = stays_at es (slice_get places one.number)

-- the job of the trigger is at this place
abbrev pub is_placed_at : List ℕ → ℕ → Listed → Bool
is_placed_at places place one = place_in places one.number == place
