-- The arguments of the daemon's program as a command of clap, and what they mean.
use Rattle.std.specs.Prelude.{List, true, false, Option, Some, None, codes, if◌then◌else◌, option_and_then}
use Rattle.std.specs.Option.{option_map}
use Rattle.clap.specs.Words.{App, Row, Text, new_app, with_rule, with_subcommand, first_of, fault_of, subcommand_of}
use Rattle.command_words.specs.Rules.{option_rule}
use Rattle.history_model.specs.Search.{is_same_text}
use Rattle.command_words.specs.Meaning.{needs_subcommand, is_empty_list}
use Rattle.command_words.specs.declared.command.DaemonCommand.{DaemonCommand}
use Rattle.command_words.specs.declared.command.DaemonCommand.TheVariants.{Replay, Serve, Overrides}
use Rattle.command_words.specs.declared.command.ZoneWords.{ZoneWords}
use Rattle.command_words.specs.declared.command.ZoneWords.TheVariants as zone

-- ---- the arguments that clap takes

-- --socket PATH --store PATH --spool DIR
abbrev pub with_places : App → App
with_places a =
    with_rule (with_rule (with_rule a (option_rule (codes "socket") true))
    (option_rule (codes "store") true)) (option_rule (codes "spool") true)

-- [--journal PATH] [--zone TEXT] [--zone-file PATH]
abbrev pub with_choices : App → App
with_choices a =
    with_rule (with_rule (with_rule a (option_rule (codes "journal") false))
    (option_rule (codes "zone") false)) (option_rule (codes "zone-file") false)

-- serve, with its places and choices
abbrev pub serve_app : App
serve_app = with_choices (with_places (new_app (codes "serve")))

-- overrides --store PATH
abbrev pub overrides_app : App
overrides_app = with_rule (new_app (codes "overrides")) (option_rule (codes "store") true)

-- jobd SUBCOMMAND
abbrev pub jobd_app : App
jobd_app =
    with_subcommand (with_subcommand (with_subcommand (needs_subcommand (new_app (codes "jobd")))
    (new_app (codes "replay")).top) serve_app.top) overrides_app.top

-- ---- what they mean

-- the zone that was named: not both a rule and a file
abbrev pub zone_meant : Option Text → Option Text → Option ZoneWords
zone_meant None None = Some zone.Default
zone_meant (Some rule) None = Some (zone.Rule rule)
zone_meant None (Some file) = Some (zone.File file)
zone_meant (Some rule) (Some file) = None

-- the values of two options
abbrev pub pair_in : Text → Text → List Row → Option Text × Option Text
pair_in first second rows = (first_of first rows, first_of second rows)

-- the zone that was named among the values
abbrev pub zone_in : List Row → Option ZoneWords
zone_in rows = zone_meant (first_of (codes "zone") rows) (first_of (codes "zone-file") rows)

-- the launcher with these places, if each that it needs is there
abbrev pub served : Option Text → Option Text → Option Text → Option Text
    → Option ZoneWords → Option DaemonCommand
served (Some socket) (Some store) (Some spool) journal (Some zone) =
    Some (Serve socket store spool journal zone)
served _ _ _ _ _ = None

-- what serve means
abbrev pub serve_meant : List Row → Option DaemonCommand
serve_meant rows =
    served (first_of (codes "socket") rows) (first_of (codes "store") rows)
    (first_of (codes "spool") rows) (first_of (codes "journal") rows) (zone_in rows)

-- what a subcommand and its values mean
abbrev pub daemon_command_meant : Text → List Row → Option DaemonCommand
daemon_command_meant name rows =
    if is_same_text name (codes "replay") then Some Replay
    else if is_same_text name (codes "serve") then serve_meant rows
    else if is_same_text name (codes "overrides")
    then option_map Overrides (first_of (codes "store") rows)
    else None

-- what was found of a subcommand means
abbrev pub daemon_found_meant : Option (Text × List Row) → Option DaemonCommand
daemon_found_meant sub = option_and_then (λ s. daemon_command_meant s.0 s.1) sub

-- what the arguments mean, the first being the program's own name: nothing if clap finds a fault in them, or if both zone options
-- are given
abbrev pub daemon_meant : List Text → Option DaemonCommand
daemon_meant words =
    if is_empty_list (fault_of jobd_app words)
    then daemon_found_meant (subcommand_of jobd_app words)
    else None
