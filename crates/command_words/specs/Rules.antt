-- Arguments and commands as clap declares them: the forms of which the programs' arguments are made.
use Rattle.clap.specs.declared.Command.{Command, out-Command}
use Rattle.std.specs.Prelude.{◌≡◌, ℕ, Bool, Some, true, false, Result, IfOk}
use Rattle.clap.specs.Words.{App, Rule, Text, app_of, new_app, new_rule, with_rule}
use Rattle.clap.specs.declared.builder.action.ArgAction.TheVariants.{SetTrue, Append}

-- a flag of one letter, as -w
abbrev pub flag_rule : Text → ℕ → Rule
flag_rule id letter = record (new_rule id) { short = Some letter; action = Some SetTrue }

-- a flag by its name, as --strict
abbrev pub switch_rule : Text → Rule
switch_rule id = record (new_rule id) { long = Some id; action = Some SetTrue }

-- an option with a value, as --socket PATH
abbrev pub option_rule : Text → Bool → Rule
option_rule id required =
    record (new_rule id) { long = Some id; required = required; value_names = 1 }

-- an option with a value that may begin with a hyphen, as --since -2h
abbrev pub hyphened_option_rule : Text → Rule
hyphened_option_rule id = record (option_rule id false) { is_simple = false }

-- an option with a value, which may be given more than once, as --journal PATH
abbrev pub options_rule : Text → Rule
options_rule id = record (new_rule id) { long = Some id; action = Some Append; value_names = 1 }

-- an option with a value after a letter, as -n COUNT
abbrev pub short_option_rule : Text → ℕ → Rule
short_option_rule id letter = record (new_rule id) { short = Some letter; value_names = 1 }

-- a required argument, as LABEL
abbrev pub word_rule : Text → Rule
word_rule id = record (new_rule id) { required = true; value_names = 1 }

-- one argument or more, as PATH..
abbrev pub words_rule : Text → Rule
words_rule id = record (new_rule id) { action = Some Append; required = true; value_names = 1 }

-- any number of arguments, as LABEL..
abbrev pub any_words_rule : Text → Rule
any_words_rule id = record (new_rule id) { action = Some Append; value_names = 1 }

-- a subcommand with one argument
abbrev pub one_word_app : Text → Text → App
one_word_app name id = with_rule (new_app name) (word_rule id)

-- the command has these arguments, and no argument of it is one of its subcommands too
pub record HasWords (a : App) (c : Command) : Type 0 where
  pub app : app_of c ≡ a
  pub globals : (out-Command c).has_globals ≡ false

-- a command of these arguments is made, but for want of memory
abbrev pub Makes : {E : Type 0} → Result Command E → App → Type 0
Makes made a = IfOk made (λ c. HasWords a c)
