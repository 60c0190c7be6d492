-- What the check of `arguments::is_set` does not find by itself.
use Rattle.std.proofs.Common.{◌∙◌, ap, sym, option_map, codes, false}
use Rattle.std.specs.Option.{option_map_or}
use Rattle.clap.specs.Words.{found_of}
use Rattle.clap.proofs.WalkLemmas.{first_value-rows}
use Rattle.history_model.specs.Search.{is_same_text}
use Rattle.command_words.proofs.arguments.is_set.Goals as goal

pub returns-in-Some : goal.returns-in-Some
returns-in-Some c =
    c.eq.ensures ∙ ap (λ o. option_map_or (λ t. is_same_text t (codes "true")) o false)
    (sym (ap (option_map (λ s. s.now)) c.in-Some.is) ∙ c.get_str.ensures ∙ first_value-rows (found_of c.args.found.now) c.args.id.now)

pub returns-in-None : goal.returns-in-None
returns-in-None c =
    ap (λ o. option_map_or (λ t. is_same_text t (codes "true")) o false)
    (sym (ap (option_map (λ s. s.now)) c.in-None.is) ∙ c.get_str.ensures ∙ first_value-rows (found_of c.args.found.now) c.args.id.now)
