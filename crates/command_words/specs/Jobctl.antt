-- The arguments of the control program as a command of clap, and what they mean. They follow launchctl(1).
use Rattle.history_model.specs.Search.{is_same_text}
use Rattle.std.specs.Prelude.{List, Bool, ◌||◌, false, Option, Some, None, codes, if◌then◌else◌, unwrap_or, option_and_then}
use Rattle.std.specs.Option.{option_map}
use Rattle.clap.specs.Words.{App, Rule, Row, Text, new_app, with_rule, with_subcommand, first_of, all_of, fault_of, matches_of, subcommand_of}
use Rattle.ctl_protocol.specs.Targets.{if_label, label_named}
use Rattle.command_words.specs.Rules.{flag_rule, option_rule, word_rule, words_rule, one_word_app}
use Rattle.command_words.specs.Meaning.{is_set, needs_subcommand, is_empty_list}
use Rattle.command_words.specs.declared.command.Command.{Command}
use Rattle.command_words.specs.declared.command.Command.TheVariants as command
use Rattle.command_words.specs.declared.command.Words.{Words}

-- ---- the arguments that clap takes

-- -w
abbrev pub write_rule : Rule
write_rule = flag_rule (codes "write") 119

-- load [-w] [-F] PATH..
abbrev pub load_app : App
load_app =
    with_rule (with_rule (with_rule (new_app (codes "load")) write_rule)
    (flag_rule (codes "force") 70)) (words_rule (codes "paths"))

-- unload [-w] PATH..
abbrev pub unload_app : App
unload_app =
    with_rule (with_rule (new_app (codes "unload")) write_rule) (words_rule (codes "paths"))

-- start LABEL, and the like
abbrev pub label_app : Text → App
label_app name = one_word_app name (codes "label")

-- enable TARGET, and the like
abbrev pub target_app : Text → App
target_app name = one_word_app name (codes "target")

-- kickstart [-k] TARGET
abbrev pub kickstart_app : App
kickstart_app =
    with_rule (with_rule (new_app (codes "kickstart")) (flag_rule (codes "kill") 107))
    (word_rule (codes "target"))

-- with the subcommands that take files: load and unload
abbrev pub with_files : App → App
with_files a = with_subcommand (with_subcommand a load_app.top) unload_app.top

-- with the subcommands that take a label: start and stop
abbrev pub with_labels : App → App
with_labels a =
    with_subcommand (with_subcommand a (label_app (codes "start")).top)
    (label_app (codes "stop")).top

-- with the subcommands that set: enable and disable
abbrev pub with_settings : App → App
with_settings a =
    with_subcommand (with_subcommand a (target_app (codes "enable")).top)
    (target_app (codes "disable")).top

-- with the other subcommands that take a target: kickstart and print
abbrev pub with_targets : App → App
with_targets a =
    with_subcommand (with_subcommand a kickstart_app.top) (target_app (codes "print")).top

-- with the subcommands that take no argument: list and shutdown
abbrev pub with_bare : App → App
with_bare a =
    with_subcommand (with_subcommand a (new_app (codes "list")).top)
    (new_app (codes "shutdown")).top

-- jobctl [--socket PATH] SUBCOMMAND
abbrev pub jobctl_app : App
jobctl_app = with_bare (with_targets (with_settings (with_labels (with_files
    (with_rule (needs_subcommand (new_app (codes "jobctl")))
    (option_rule (codes "socket") false))))))

-- ---- what they mean

-- the label under an argument, if it is one
abbrev pub label_in : List Row → Option Text
label_in rows = option_and_then if_label (first_of (codes "label") rows)

-- what load and unload mean
abbrev pub files_meant : Text → List Row → Option Command
files_meant name rows =
    option_map
    (if is_same_text name (codes "load")
    then command.Load (is_set (codes "write") rows) (is_set (codes "force") rows)
    else command.Unload (is_set (codes "write") rows))
    (all_of (codes "paths") rows)

-- the label that the target under an argument names
abbrev pub target_in : List Row → Option Text
target_in rows = option_and_then label_named (first_of (codes "target") rows)

-- the label of the job that a subcommand is for: start and stop take a label, the others a target
abbrev pub job_in : Text → List Row → Option Text
job_in name rows =
    if is_same_text name (codes "start") || is_same_text name (codes "stop")
    then label_in rows
    else target_in rows

-- what a subcommand means for the job with this label; with `kills_first` kickstart kills first
abbrev pub job_meant : Text → Bool → Text → Option Command
job_meant name kills_first label =
    if is_same_text name (codes "start") then Some (command.Start label)
    else if is_same_text name (codes "stop") then Some (command.Stop label)
    else if is_same_text name (codes "enable") then Some (command.Enable label)
    else if is_same_text name (codes "disable") then Some (command.Disable label)
    else if is_same_text name (codes "kickstart") then Some (command.Kickstart kills_first label)
    else if is_same_text name (codes "print") then Some (command.Print label)
    else None

-- what a subcommand and its values mean
abbrev pub command_meant : Text → List Row → Option Command
command_meant name rows =
    if is_same_text name (codes "load") || is_same_text name (codes "unload")
    then files_meant name rows
    else if is_same_text name (codes "list") then Some command.List
    else if is_same_text name (codes "shutdown") then Some command.Shutdown
    else option_and_then (job_meant name (is_set (codes "kill") rows)) (job_in name rows)

-- the socket that was named, or the default one
abbrev pub socket_in : Text → List Row → Text
socket_in default rows = unwrap_or (first_of (codes "socket") rows) default

-- what was found of a subcommand means
abbrev pub command_found : Option (Text × List Row) → Option Command
command_found sub = option_and_then (λ s. command_meant s.0 s.1) sub

-- the meaning of what was found among the arguments, on top and of a subcommand
abbrev pub found_meant : Text → List Row → Option (Text × List Row) → Option Words
found_meant default top sub =
    option_map (λ c. record { socket = socket_in default top; command = c }) (command_found sub)

-- what the arguments mean with a default socket, the first being the program's own name. Nothing if clap finds a fault in them,
-- or if a label is none or a target names none
abbrev pub meant_beside : Text → List Text → Option Words
meant_beside default words =
    if is_empty_list (fault_of jobctl_app words)
    then found_meant default (matches_of jobctl_app words) (subcommand_of jobctl_app words)
    else None

-- the same with the socket in the present folder
abbrev pub meant : List Text → Option Words
meant words = meant_beside (codes "jobd.sock") words
