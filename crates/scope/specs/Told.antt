-- What the report on a job needs: the facts as of a clock reading, what was asked of it, and the next minute of its calendar.
use Rattle.std.specs.Prelude.{◌≡◌, ◌≢◌, ◌+◌, ◌||◌, ℕ, Bool, true, List, [], min, nat_le, nat_lt, not, Option, Some, None, if◌then◌else◌}
use Rattle.calendar_due.specs.Next.{IsFirstDue}
use Rattle.history_model.specs.Calendar.{Zone}
use Rattle.history_model.specs.declared.Entry.{Entry}
use Rattle.history_model.specs.declared.Reading.{Reading}
use Rattle.history_model.specs.declared.Refusal.{Refusal}
use Rattle.history_model.specs.declared.Refusal.TheVariants.{AlreadyLoaded}
use Rattle.history_model.specs.declared.TheConstants.{MAX_WALL}
use Rattle.status_file.specs.declared.facts.JobFacts.{JobFacts}
use Rattle.status_page.specs.declared.clocks.TheConstants.{FARTHEST}
use Rattle.scope.specs.Ages.{reasons_then}
use Rattle.scope.specs.declared.journal.job.JobRequest.{JobRequest}
use Rattle.scope.specs.declared.journal.job.JobRequest.TheVariants.{Shutdown}
use Rattle.scope.specs.declared.journal.job.Record.{Record}
use Rattle.scope.specs.declared.journal.labels.KnownLabel.{KnownLabel}
use Rattle.scope.specs.declared.journal.past.Past.{Past}
use Rattle.scope.specs.declared.texts.told.CalendarNext.{CalendarNext}
use Rattle.scope.specs.declared.texts.told.CalendarNext.TheVariants.{Absent, Far, At}

-- the facts as of this `up`: a throttle that is over then keeps the job from nothing
abbrev pub facts_then : JobFacts → ℕ → JobFacts
facts_then facts up = record facts { reasons = reasons_then facts.reasons up }

-- what was asked last, of the job or of all: a shutdown, if it came after what was asked of the job
abbrev pub later_asked : Option (ℕ × Reading) → Record → Option (JobRequest × Reading)
later_asked None job = job.asked
later_asked (Some shut) job = if nat_lt job.ask shut.0 then Some (Shutdown, shut.1) else job.asked

abbrev pub asked_in : Past → Record → Option (JobRequest × Reading)
asked_in past job = later_asked past.shut_down job

-- a run of it ended, of whichever load
abbrev pub has_ended : Record → Bool
has_ended job = nat_lt 0 job.totals.codes || nat_lt 0 job.totals.signals

-- the last second that is looked at: 400 days ahead, and no later than a clock may show
abbrev pub last_looked_at : ℕ → ℕ
last_looked_at after = min (after + FARTHEST) MAX_WALL

-- The next minute that one of the entries matches after this second. Absent: there is no entry. Far: none of the next 400 days.
abbrev pub IsCalendarNext : Zone → List Entry → ℕ → CalendarNext → Type 0
IsCalendarNext zone entries after Absent = entries ≡ []
IsCalendarNext zone entries after Far = (entries ≢ []) × IsFirstDue zone entries after (last_looked_at after) None
IsCalendarNext zone entries after (At wall) = IsFirstDue zone entries after (last_looked_at after) (Some wall)

-- A refused load of a loaded job is reported. One that was refused since the job was loaded already is so only if it had
-- another definition, or if nothing happened to the job later.
abbrev pub is_refusal_told : Refusal → Bool → ℕ → ℕ → Bool
is_refusal_told AlreadyLoaded same at newest = not same || nat_le newest at
is_refusal_told _ same at newest = true

-- its last refused load only if it is reported
abbrev pub refusal_told : KnownLabel → ℕ → Option (Refusal × Reading) → Option (Refusal × Reading)
refusal_told known newest None = None
refusal_told known newest (Some (refusal, at)) =
    if is_refusal_told refusal known.is_same at.up newest then Some (refusal, at) else None

-- what is reported of the label of a loaded job to which something happened last at this `up`
abbrev pub known_told : KnownLabel → ℕ → KnownLabel
known_told known newest = record known { refused = refusal_told known newest known.refused }
