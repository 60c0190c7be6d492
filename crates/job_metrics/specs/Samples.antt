-- The text of samples that Prometheus reads (Exposition formats, text-based format 0.0.4): names, kinds, labels and values.
use Rattle.std.specs.Prelude.{ℕ, Bool, List, [], ◌∷◌, ◌++◌, ◌||◌, ◌==◌, ◌+◌, ◌/◌, ◌%◌, if◌then◌else◌, nat_lt, Option, Some, None, true, false, codes, chars, encode_utf8}
use Rattle.std.specs.Fmt.{decimal}
use Rattle.std.specs.List.{flat_map}
use Rattle.plain_text.specs.Plain.{is_hidden}
use Rattle.job_metrics.specs.declared.Family.{Family}
use Rattle.job_metrics.specs.declared.Family.TheVariants.{Up, JournalOpen, Told, LeftOut, CountedSince, FailedCalls, Running, Starts, Failures, Refusals, LastEnd, NextStart, LastSuccess, LastExit, Resident, Processor, Disabled}
use Rattle.job_metrics.specs.declared.JobSample.{JobSample}
use Rattle.job_metrics.specs.declared.LauncherSample.{LauncherSample}

abbrev pub family_name : Family → List ℕ
family_name Up = codes "jobd_up"
family_name JournalOpen = codes "jobd_journal_open"
family_name Told = codes "jobd_status_timestamp_seconds"
family_name LeftOut = codes "jobd_definitions_not_loaded"
family_name CountedSince = codes "jobd_counted_since_timestamp_seconds"
family_name FailedCalls = codes "jobd_edge_failures_total"
family_name Running = codes "jobd_job_running"
family_name Starts = codes "jobd_job_starts_total"
family_name Failures = codes "jobd_job_failures_total"
family_name Refusals = codes "jobd_job_refused_total"
family_name LastEnd = codes "jobd_job_last_end_timestamp_seconds"
family_name NextStart = codes "jobd_job_next_start_timestamp_seconds"
family_name LastSuccess = codes "jobd_job_last_success_timestamp_seconds"
family_name LastExit = codes "jobd_job_last_exit_code"
family_name Resident = codes "jobd_job_resident_bytes"
family_name Processor = codes "jobd_job_cpu_seconds_total"
family_name Disabled = codes "jobd_job_disabled"

abbrev pub family_kind : Family → List ℕ
family_kind Starts = codes "counter"
family_kind Failures = codes "counter"
family_kind Refusals = codes "counter"
family_kind Processor = codes "counter"
family_kind FailedCalls = codes "counter"
family_kind _ = codes "gauge"

abbrev pub family_help : Family → List ℕ
family_help Up = codes "Whether the launcher is running."
family_help JournalOpen = codes "Whether the journal of the launcher is open."
family_help Told = codes "When the launcher wrote the status file."
family_help LeftOut = codes "Job definitions that were not loaded at boot, nor since."
family_help CountedSince = codes "Since when starts, failures and refused starts are counted. Absent if since each load."
family_help FailedCalls = codes "Calls of the launcher for its jobs that failed since it began, as starts and path checks."
family_help Running = codes "Whether a run of the job is running."
family_help Starts = codes "Starts that were ordered, including refused ones."
family_help Failures = codes "Runs that failed: they exited with a code above 0, or by a signal that the launcher did not give."
family_help Refusals = codes "Starts that the system refused."
family_help LastEnd = codes "When the last run of the job exited."
family_help NextStart = codes "When the job is scheduled to start next."
family_help LastSuccess = codes "When a run of the job last exited with code 0."
family_help LastExit = codes "The exit code of the last run of the job, or 128 plus the signal that killed it."
family_help Resident = codes "The resident memory of the process of the job."
family_help Processor = codes "The processor time that the process of the job has used."
family_help Disabled = codes "Whether the label of the job is disabled."

-- the two lines that say what a family is
abbrev pub head_text : Family → List ℕ
head_text family =
    codes "# HELP " ++ family_name family ++ codes " " ++ family_help family
    ++ codes "\n# TYPE " ++ family_name family ++ codes " " ++ family_kind family ++ codes "\n"

-- 1 for what is so, 0 for what is not
abbrev pub flag_value : Option Bool → Option ℕ
flag_value (Some true) = Some 1
flag_value (Some false) = Some 0
flag_value None = None

-- what a family says of a job
abbrev pub job_value : Family → JobSample → Option ℕ
job_value Running job = flag_value (Some job.is_running)
job_value Starts job = Some job.starts
job_value Failures job = Some job.failures
job_value Refusals job = Some job.refusals
job_value LastEnd job = job.last_end
job_value NextStart job = job.next_start
job_value LastSuccess job = job.last_success
job_value LastExit job = job.last_exit
job_value Resident job = job.resident
job_value Processor job = job.processor
job_value Disabled job = flag_value (Some job.is_disabled)
job_value _ job = None

-- the last hexadecimal digit of a number
abbrev pub hex_digit : ℕ → ℕ
hex_digit n = if nat_lt (n % 16) 10 then 0x30 + n % 16 else 0x57 + n % 16

-- a character by its number, in four digits, after a backslash that is escaped: \\u202e
abbrev pub escape : ℕ → List ℕ
escape c =
    codes "\\\\u" ++ (encode_utf8 (hex_digit (c / 4096)) ++ (encode_utf8 (hex_digit (c / 256))
    ++ (encode_utf8 (hex_digit (c / 16)) ++ encode_utf8 (hex_digit c))))

-- a character of a label, as it is written between quotes
abbrev pub label_char : ℕ → List ℕ
label_char c =
    if is_hidden c then escape c
    else if c == 0x5C || c == 0x22 then codes "\\" ++ encode_utf8 c
    else encode_utf8 c

abbrev pub label_text : List ℕ → List ℕ
label_text cs = flat_map label_char cs

abbrev pub value_text : Family → List ℕ → Option ℕ → List ℕ
value_text family label (Some value) =
    family_name family ++ codes "{label=\"" ++ label_text (chars label) ++ codes "\"} " ++ decimal value ++ codes "\n"
value_text family label None = []

-- the line that a family has for a job
abbrev pub sample_text : Family → JobSample → List ℕ
sample_text family job = value_text family job.label.now (job_value family job)

abbrev pub samples_text : Family → List JobSample → List ℕ
samples_text family jobs = flat_map (sample_text family) jobs

-- a family with a sample for each job
abbrev pub family_text : List JobSample → Family → List ℕ
family_text jobs family = head_text family ++ samples_text family jobs

abbrev pub families_text : List JobSample → List Family → List ℕ
families_text jobs families = flat_map (family_text jobs) families

-- the line of a family that is not of jobs
abbrev pub bare_sample : Family → ℕ → List ℕ
bare_sample family value = family_name family ++ codes " " ++ decimal value ++ codes "\n"

-- a family with the one sample of the launcher
abbrev pub launcher_text : Family → Option ℕ → List ℕ
launcher_text family (Some value) = head_text family ++ bare_sample family value
launcher_text family None = []

abbrev pub launcher_samples : LauncherSample → List ℕ
launcher_samples launcher =
    launcher_text Up (flag_value launcher.is_up)
    ++ launcher_text JournalOpen (flag_value launcher.journal_is_open)
    ++ launcher_text Told (Some launcher.told)
    ++ launcher_text LeftOut launcher.left_out
    ++ launcher_text CountedSince launcher.counted_since
    ++ launcher_text FailedCalls launcher.failed_calls

-- all samples: those of the launcher, then those of jobs, a family after the other
abbrev pub metrics_text : LauncherSample → List JobSample → List ℕ
metrics_text launcher jobs =
    launcher_samples launcher
    ++ families_text jobs (Running ∷ Starts ∷ Failures ∷ Refusals ∷ LastEnd ∷ NextStart ∷ LastSuccess ∷ LastExit ∷ Resident ∷ Processor ∷ Disabled ∷ [])
