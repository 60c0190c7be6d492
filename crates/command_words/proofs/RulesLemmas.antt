-- From what each of clap's builders does to the words that a command has.
use Rattle.std.proofs.Common.{◌≡◌, ◌∙◌, Bool, not, is_some, ◌&&◌, ◌||◌, refl, ap, ap₂, IfOk, Result, Ok, Err, true, false}
use Rattle.clap.specs.Simple.{app_of_fields}
use Rattle.clap.specs.Words.{App, AddsArg, AddsSubcommand, Rule, rule_of, with_rule, with_subcommand}
use Rattle.clap.specs.Walk.{is_empty, is_simple_arg}
use Rattle.clap.specs.declared.Arg.{Arg}
use Rattle.clap.specs.declared.Command.{Command, out-Command}
use Rattle.command_words.specs.Meaning.{needs_subcommand}
use Rattle.command_words.specs.Rules.{HasWords, Makes}

pub grown : {E : Type 0} (old : Command) (x : Arg) (made : Result Command E) (a : App) (r : Rule)
    → IfOk made (λ new. AddsArg old x new) → x.global ≡ false → HasWords a old → rule_of x ≡ r → Makes made (with_rule a r)
grown old x (Ok new) a r adds is_local words is = record {
  app = adds.shape is_local ∙ ap₂ with_rule words.app is;
  globals = adds.globals ∙ ap₂ ◌||◌ words.globals is_local;
}
grown old x (Err e) a r adds is_local words is = tt

pub joined : {E : Type 0} (old sub : Command) (made : Result Command E) (a s : App)
    → IfOk made (λ new. AddsSubcommand old sub new) → HasWords a old → HasWords s sub → Makes made (with_subcommand a s.top)
joined old sub (Ok new) a s adds words subs = record {
  app = adds.shape subs.globals ∙ ap₂ with_subcommand words.app (ap (λ (b : App). b.top) subs.app);
  globals = adds.globals ∙ ap₂ ◌||◌ words.globals subs.globals;
}
joined old sub (Err e) a s adds words subs = tt

-- a command that asks for a subcommand
pub asks_for_one : (old new : Command) (a : App) → out-Command new ≡ record (out-Command old) { subcommand_required = true } → HasWords a old
    → HasWords (needs_subcommand a) new
asks_for_one old new a is words = record { app = ap app_of_fields is ∙ ap needs_subcommand words.app; globals = rw is words.globals }

not_all : (a b c d e rest : Bool) → (a && (b && (c && (d && (e && (false && rest)))))) ≡ false
not_all false b c d e rest = refl
not_all true false c d e rest = refl
not_all true true false d e rest = refl
not_all true true true false e rest = refl
not_all true true true true false rest = refl
not_all true true true true true rest = refl

never_simple : (x : Arg) → is_simple_arg (record x { allow_hyphen_values = true }) ≡ false
never_simple x =
    not_all (is_empty x.overrides.items) (is_empty x.default_vals_ifs.items) (is_empty x.groups.items) (not (is_some x.val_delim)) (not (is_some x.terminator))
    (not x.allow_negative_numbers && (not x.require_equals && (not x.last && not x.global)))

-- an argument whose value may begin with a hyphen is none of the simple ones
pub hyphened : (x made : Arg) (r : Rule) → made ≡ record x { allow_hyphen_values = true } → rule_of x ≡ r → rule_of made ≡ record r { is_simple = false }
hyphened x made r is rule =
    ap rule_of is ∙ ap (λ b. record (rule_of x) { is_simple = b }) (never_simple x) ∙ ap (λ (of : Rule). record of { is_simple = false }) rule
