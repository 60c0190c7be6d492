-- What comes before the name of the state, the name, and what follows it.
use Rattle.std.proofs.Common.{◌++◌, ◌∷◌, [], subst}
use Rattle.run_times.specs.Written.{Adds}
use Rattle.run_times.proofs.GrowingLemmas.{adds, adds_on}
use Rattle.status_page.specs.Rows.{state_word}
use Rattle.status_page.proofs.table.add_line.Goals as goal

pub returns : goal.returns
returns c =
    let a = c.args.writer.now in
    let b = c.put_made.new.self in
    let d = c.put.new.self in
    let e = c.put_made-2.new.self in
    let f = c.put-2.new.self in
    let word = state_word c.args.row.now.state in
    let (front, first) = c.put_made.ensures.grows in
    let (more, last) = c.put_made-2.ensures.grows in
    let said = subst (λ w. Adds w b d) c.word_of.ensures (adds _ b d c.put.ensures.added c.put.ensures.kept) in (
      front,
      more,
      adds_on front (word ++ (more ++ 10 ∷ [])) a b f first
          (adds_on word (more ++ 10 ∷ []) b d f said (adds_on more (10 ∷ []) d e f last (adds (10 ∷ []) e f c.put-2.ensures.added c.put-2.ensures.kept))),
    )
