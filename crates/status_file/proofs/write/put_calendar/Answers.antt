use Rattle.std.proofs.Common.{◌++◌, ◌∷◌, [], codes}
use Rattle.std.specs.List.{flat_map}
use Rattle.json.specs.Token.{begin_array, end_array, end_object, key}
use Rattle.status_file.specs.Tokens.{entry_tokens}
use Rattle.status_file.proofs.LinesLemmas.{followed, puts}
use Rattle.status_file.proofs.write.put_calendar.Goals as goal

pub returns : goal.returns
returns c =
    let a = c.args.line.now in
    let b = c.put.new.self in
    let d = c.put_entries.new.line in
    let e = c.put-2.new.self in
    let first = key (codes "calendar") ∷ begin_array ∷ [] in
    let entries = flat_map entry_tokens c.args.calendar.now in
    let last = end_array ∷ end_object ∷ end_object ∷ [] in
    followed first (entries ++ last) a b e (puts first a b c.put.ensures.kept c.put.ensures.before c.put.ensures.added)
    (followed entries last b d e c.put_entries.ensures (puts last d e c.put-2.ensures.kept c.put-2.ensures.before c.put-2.ensures.added))
