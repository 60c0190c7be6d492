-- What a table of arguments and subcommands makes of a command of clap.
use Rattle.std.specs.Prelude.{List, fold}
use Rattle.clap.specs.Words.{App, Rule, Text, new_app, with_rule, with_subcommand}
use Rattle.command_words.specs.Rules.{flag_rule, switch_rule, option_rule, hyphened_option_rule, options_rule, short_option_rule, word_rule, words_rule, any_words_rule}
use Rattle.command_words.specs.declared.forms.Form.{Form}
use Rattle.command_words.specs.declared.forms.Form.TheVariants.{Letter, Switch, Value, AnyValue, Values, ShortValue, Word, Words, AnyWords}
use Rattle.command_words.specs.declared.forms.Argument.{Argument}
use Rattle.command_words.specs.declared.forms.Subcommand.{Subcommand}

-- the rule of an argument with this name
abbrev pub rule_for : Text → Form → Rule
rule_for id (Letter letter) = flag_rule id letter
rule_for id Switch = switch_rule id
rule_for id (Value required) = option_rule id required
rule_for id AnyValue = hyphened_option_rule id
rule_for id Values = options_rule id
rule_for id (ShortValue letter) = short_option_rule id letter
rule_for id Word = word_rule id
rule_for id Words = words_rule id
rule_for id AnyWords = any_words_rule id

abbrev pub rule_in : Argument → Rule
rule_in a = rule_for a.id.now a.form

-- the command with an argument more
abbrev pub with_argument : App → Argument → App
with_argument a x = with_rule a (rule_in x)

-- a subcommand with its arguments
abbrev pub app_in : Subcommand → App
app_in s = fold with_argument (new_app s.name.now) s.arguments.now

-- the command with a subcommand more
abbrev pub with_one : App → Subcommand → App
with_one a s = with_subcommand a (app_in s).top

-- the command with all of them
abbrev pub with_all : App → List Subcommand → App
with_all a all = fold with_one a all
