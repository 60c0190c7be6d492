-- What the check of `arguments::values_of` does not find by itself.
use Rattle.std.proofs.Common.{◌∙◌, ap, sym, Some, option_map, map}
use Rattle.clap.specs.Words.{found_of}
use Rattle.clap.proofs.WalkLemmas.{raw_values-rows}
use Rattle.command_words.proofs.arguments.values_of.Goals as goal

pub returns-in-Ok : goal.returns-in-Ok
returns-in-Ok c =
    ap Some c.in-Ok.ensures ∙ sym (ap (option_map (λ s. map (λ t. t.now) s.now)) c.in-Some.is) ∙ c.get_strs.ensures
    ∙ raw_values-rows (found_of c.args.found.now) c.args.id.now

pub returns-in-None : goal.returns-in-None
returns-in-None c = sym (ap (option_map (λ s. map (λ t. t.now) s.now)) c.in-None.is) ∙ c.get_strs.ensures ∙ raw_values-rows (found_of c.args.found.now) c.args.id.now
