-- What a command reads: of the sources that its arguments and the variables name, and if they name none, of those of a launcher.
use Rattle.std.specs.Prelude.{Bool, true, false, Option, Some, None, is_some, if◌then◌else◌}
use Rattle.command_words.specs.declared.scope_command.ScopeTask.{ScopeTask}
use Rattle.command_words.specs.declared.scope_command.ScopeTask.TheVariants as tasks
use Rattle.scope.specs.declared.sources.Answers.{Answers}
use Rattle.scope.specs.declared.sources.Answers.TheVariants as answers
use Rattle.scope.specs.declared.sources.NamedSources.{NamedSources}
use Rattle.scope.specs.declared.sources.Source.{Source}
use Rattle.scope.specs.declared.sources.Source.TheVariants.{NamedFile, VariableFile, LauncherFile, Journals}

-- the first source, if it may be read, else what is read of the others
abbrev pub else_of : Bool → Source → Option Source → Option Source
else_of true source others = Some source
else_of false source others = others

abbrev pub status_source : NamedSources → Option Source
status_source n = else_of n.file NamedFile (else_of n.variable_file VariableFile None)

abbrev pub why_source : NamedSources → Option Source
why_source n =
    else_of n.file NamedFile (else_of n.journal Journals
    (else_of n.variable_file VariableFile (else_of n.variable_journal Journals None)))

-- What the arguments name comes before what a variable names, and a status file before a journal. None: nothing is named. Other subcommands read journals
-- alone.
abbrev pub named_source : ScopeTask → NamedSources → Option Source
named_source tasks.Status n = status_source n
named_source tasks.Metrics n = status_source n
named_source (tasks.Why why) n = why_source n
named_source (tasks.Next next) n = why_source n
named_source _ n = Some Journals

-- The journal if it can be opened and goes on, else the status file if there is one. Without either, the journal is asked for, so that the fault is its.
abbrev pub source_found : Bool → Bool → Source
source_found true has_file = Journals
source_found false true = LauncherFile
source_found false false = Journals

-- What is read of the launcher: for status and metrics its status file alone.
abbrev pub found_source : ScopeTask → Bool → Bool → Option Source
found_source tasks.Status opens has_file = else_of has_file LauncherFile None
found_source tasks.Metrics opens has_file = else_of has_file LauncherFile None
found_source (tasks.Why why) opens has_file = Some (source_found opens has_file)
found_source (tasks.Next next) opens has_file = Some (source_found opens has_file)
found_source _ opens has_file = Some Journals

-- either source, but journals alone if it asks for what a status file does not hold
abbrev pub either_unless : Bool → Answers
either_unless is_of_journal = if is_of_journal then answers.Journals else answers.Either

-- Which sources answer a task. A status file holds the present alone, and so not `why` at an earlier time.
abbrev pub answers_in : ScopeTask → Answers
answers_in tasks.Status = answers.StatusFile
answers_in tasks.Metrics = answers.StatusFile
answers_in (tasks.Why why) = either_unless (is_some why.at)
answers_in (tasks.Next next) = answers.Either
answers_in _ = answers.Journals
