-- What comes after one that is after is after too.
use Rattle.std.proofs.Common.{◌≡◌, ◌<◌, ◌∙◌, Some, sym, ap, length, arith}
use Rattle.std.specs.Prelude.{slice_get}
use Rattle.std.proofs.lemmas.Option.{slice_get-get_or}
use Rattle.loaded_jobs.specs.Triggers.{rank_of}
use Rattle.loaded_jobs.proofs.RankLemmas.{behind-on}
use Rattle.loaded_jobs.proofs.triggers.end_of_run.Goals as goal

pub returns-then-is_behind-clause-behind : goal.returns-then-is_behind-clause-behind
returns-then-is_behind-clause-behind c =
    let xs = c.args.listed.now in
    let from = c.args.from in
    let one = c.index-listed-from.result in
    let open_still = c.if-from-listed.false in
    let within : from < length xs = grind (arith, open_still) in
    let there : slice_get xs from ≡ Some one = slice_get-get_or xs from one within ∙ ap Some (sym c.index-listed-from.is) in
    behind-on xs c.requires.order (rank_of c.args.query) from one there (sym c.is_behind.ensures ∙ c.if-is_behind.true)
