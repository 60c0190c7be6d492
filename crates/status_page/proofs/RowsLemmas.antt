-- A line for each row, and one more.
use Rattle.std.proofs.Common.{◌≡◌, ℕ, ◌+◌, ◌<◌, ◌≤◌, List, [], ◌∷◌, ◌++◌, length, take, get_or, refl, sym, ap, ◌∙◌, subst, append_assoc}
use Rattle.std.proofs.lemmas.List.{take_more, take_all}
use Rattle.run_times.specs.declared.writer.TextWriter.{TextWriter}
use Rattle.run_times.specs.Written.{Adds}
use Rattle.run_times.proofs.GrowingLemmas.{adds_on}
use Rattle.status_page.specs.declared.rows.StatusRow.{StatusRow}
use Rattle.status_page.specs.Rows.{state_word, AreRows, TellsRows}

abbrev pub line_of : StatusRow → List ℕ → List ℕ → List ℕ
line_of row front more = front ++ (state_word row.state ++ (more ++ 10 ∷ []))

-- a line and what follows it
parted : (front word more others : List ℕ) → (front ++ (word ++ (more ++ 10 ∷ []))) ++ others ≡ front ++ (word ++ (more ++ 10 ∷ others))
parted front word more others =
    append_assoc front (word ++ (more ++ 10 ∷ [])) others
    ∙ ap (λ t. front ++ t) (append_assoc word (more ++ 10 ∷ []) others ∙ ap (λ t. word ++ t) (append_assoc more (10 ∷ []) others))

rows_more : (rows : List StatusRow) (row : StatusRow) (text front more : List ℕ) → AreRows rows text → AreRows (rows ++ row ∷ []) (text ++ line_of row front more)
rows_more [] row text front more none = (front, more, [], refl, ap (λ t. t ++ line_of row front more) none)
rows_more (r ∷ rs) row text front more (first, last, others, rest, is) =
    let line = line_of row front more in (
      first,
      last,
      others ++ line,
      rows_more rs row others front more rest,
      ap (λ t. t ++ line) is ∙ append_assoc first (state_word r.state ++ (last ++ 10 ∷ others)) line
          ∙ ap (λ t. first ++ t) (append_assoc (state_word r.state) (last ++ 10 ∷ others) line ∙ ap (λ t. state_word r.state ++ t) (append_assoc last (10 ∷ others) line)),
    )

-- a line more after those of the rows up to a place
pub told_more : (at : ℕ) (rows : List StatusRow) (other : StatusRow) (a b c : TextWriter) → at < length rows → TellsRows (take at rows) a b
    → ((front : List ℕ) × (more : List ℕ) × Adds (line_of (get_or rows at other) front more) b c) → TellsRows (take (at + 1) rows) a c
told_more at rows other a b c there (text, lines, before) (front, more, added) =
    let row = get_or rows at other in
    let line = line_of row front more in (
      text ++ line,
      subst (λ rs. AreRows rs (text ++ line)) (sym (take_more rows at other there)) (rows_more (take at rows) row text front more lines),
      adds_on text line a b c before added,
    )

-- so of all of them
pub told_all : (rows : List StatusRow) (at : ℕ) (a b : TextWriter) → length rows ≤ at → TellsRows (take at rows) a b → TellsRows rows a b
told_all rows at a b over told = subst (λ rs. TellsRows rs a b) (take_all at rows over) told
