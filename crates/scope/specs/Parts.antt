-- Which part of `jobscope` does what is asked.
use Rattle.std.specs.Prelude.{Bool, true, false, Option, Some, None, if◌then◌else◌}
use Rattle.command_words.specs.declared.scope_command.ScopeTask.{ScopeTask}
use Rattle.command_words.specs.declared.scope_command.ScopeTask.TheVariants as tasks
use Rattle.scope.specs.declared.subcommands.Part.{Part}
use Rattle.scope.specs.declared.subcommands.Part.TheVariants.{Definitions, Crontab, Lists, Journals}
use Rattle.scope.specs.declared.subcommands.PartWords.{PartWords}
use Rattle.scope.specs.declared.subcommands.PartWords.TheVariants as words

-- Definitions are checked, and so are their coming starts looked for; a crontab and property lists are read. All
-- else is asked of a status file or of journals.
abbrev pub part_in : ScopeTask → Bool → Option Part
part_in (tasks.Check check) words = Some Definitions
part_in (tasks.Next next) words = if words then Some Definitions else None
part_in (tasks.Cron cron) words = Some Crontab
part_in (tasks.Plist lists) words = Some Lists
part_in _ words = None

-- the part that has these arguments
abbrev pub part_with : PartWords → Part
part_with (words.Check check) = Definitions
part_with (words.Next next) = Definitions
part_with (words.Crontab cron) = Crontab
part_with (words.Lists lists) = Lists
part_with words.Journals = Journals
