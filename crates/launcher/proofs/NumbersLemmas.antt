-- The numbers of a turn: while it lasts each stands for one job.
use Rattle.std.proofs.Common.{◌≡◌, ℕ, ◌==◌, Bool, true, false, ◌&&◌, cond, List, [], ◌∷◌, ◌++◌, map, Option, Some, None, is_some, refl, sym, ap, subst, ◌∙◌}
use Rattle.std.specs.List.{filter, list_all, AllByRecursion}
use Rattle.std.specs.Cmp.Lexicographic.{same_text}
use Rattle.std.proofs.lemmas.Bool.{eqb-true, false≢true}
use Rattle.history_model.specs.declared.Act.{Act}
use Rattle.history_model.specs.declared.Act.TheVariants as acts
use Rattle.history_model.specs.declared.Order.{Order}
use Rattle.history_model.specs.declared.Reading.{Reading}
use Rattle.history_model.specs.Items.{History}
use Rattle.history_model.specs.Search.{first}
use Rattle.history_model.specs.Runs.{is_answer_to}
use Rattle.history_model.specs.Labels.{Label, is_same}
use Rattle.history_model.specs.Machine.{Job, is_of, past_in}
use Rattle.history_model.specs.MachineLaws.{labels_of}
use Rattle.history_model.specs.Described.{Described}
use Rattle.loaded_jobs.specs.Tables.{Table, Row, Name, IsOther, IsOnce, is_known, label_of, definition_of_number}
use Rattle.loaded_jobs.specs.StandsFor.{KeepsJobs, labelled}
use Rattle.loaded_jobs.specs.Numbers.{row_name, row_names}
use Rattle.child_edge.specs.declared.plain.Scripted.{Scripted}
use Rattle.child_edge.specs.declared.plain.Scripted.TheVariants.{Started, Done, Running, Over, Seen, At, Refused, NoMemory}
use Rattle.child_edge.specs.Calls.{ToldCall}
use Rattle.outside.specs.declared.pending_answer.PendingAnswer.{PendingAnswer}
use Rattle.outside.specs.Orders.{call_by, call_of, calls_in, answers_in, spawn_answer}
use Rattle.history_model.specs.Turns.{JobOrder, wanting}
use Rattle.history_model.proofs.LabelOrderLemmas.{same_self}
use Rattle.launcher.specs.HostTurns.{AreNumbered, AreTheirs, IsLabel, KeepsNumbers, number_of}
use Rattle.history_model.proofs.BooleanLemmas.{and-both}
use Rattle.history_model.proofs.LawfulLemmas.{eqb-self}

-- the numbers of the rows stand for their definitions
abbrev pub AreNamed : List Name → List Row → Type 0
AreNamed names rows = AllByRecursion (λ row. definition_of_number names row.number ≡ Some row.described) rows

more-named : (n : Name) (names : List Name) (rows : List Row) → IsOther n (row_names rows) → AreNamed names rows → AreNamed (n ∷ names) rows
more-named n names [] other all = tt
more-named n names (row ∷ rows) other all =
    (ap (λ b. cond b (Some n.described) (definition_of_number names row.number)) other.0 ∙ all.0, more-named n names rows other.2 all.1)

-- if each number is there once, it stands for its row's definition
pub rows-named : (rows : List Row) → IsOnce (row_names rows) → AreNamed (row_names rows) rows
rows-named [] once = tt
rows-named (row ∷ rows) once = (
  ap (λ b. cond b (Some row.described) (definition_of_number (row_names rows) row.number)) (eqb-self row.number),
  more-named (row_name row) (row_names rows) rows once.0 (rows-named rows once.1),
)

pub label-is : (names : List Name) (n : ℕ) (d : Described) → definition_of_number names n ≡ Some d → label_of names n ≡ d.label
label-is [] n d e = cc
label-is (name ∷ names) n d e = go (name.number == n) (label-is names n d) e where
  go : (b : Bool) → (definition_of_number names n ≡ Some d → label_of names n ≡ d.label) → cond b (Some name.described) (definition_of_number names n) ≡ Some d → cond b name.described.label (label_of names n) ≡ d.label
  go true rest e = let same : name.described ≡ d = cc in ap (λ (x : Described). x.label) same
  go false rest e = rest e

-- a number of one of the rows stands for the same in names that know all rows
pub through : (names : List Name) (rows : List Row) → AreNamed names rows → (n : ℕ) (d : Described) → definition_of_number (row_names rows) n ≡ Some d → definition_of_number names n ≡ Some d
through names [] named n d e = cc
through names (row ∷ rows) named n d e = go (row.number == n) refl (through names rows named.1 n d) e where
  go : (b : Bool) → (row.number == n) ≡ b → (definition_of_number (row_names rows) n ≡ Some d → definition_of_number names n ≡ Some d) →
      cond b (Some row.described) (definition_of_number (row_names rows) n) ≡ Some d → definition_of_number names n ≡ Some d
  go true is rest e =
      let number : row.number ≡ n = eqb-true row.number n is in
      ap (definition_of_number names) (sym number) ∙ named.0 ∙ e
  go false is rest e = rest e

-- the rows of the next table are named too
pub named-next : (names : List Name) (before after : List Row) → AreNamed names before → AreNamed (row_names before) after → AreNamed names after
named-next names before [] named next = tt
named-next names before (row ∷ rows) named next = (through names before named row.number row.described next.0, named-next names before rows named next.1)

pub known-some : {X : Type 0} (o : Option X) → is_some o ≡ true → (x : X) × (o ≡ Some x)
known-some None e = cc
known-some (Some x) e = (x, refl)

-- so are the numbers of orders
pub orders-known : (names : List Name) (rows : List Row) → AreNamed names rows → (orders : List Order) → list_all (is_known (row_names rows)) orders ≡ true →
    (labelled names orders ≡ labelled (row_names rows) orders) × (list_all (is_known names) orders ≡ true)
orders-known names rows named [] all = (refl, refl)
orders-known names rows named (order ∷ orders) all =
    let both = and-both (is_known (row_names rows) order) (list_all (is_known (row_names rows)) orders) all in
    let known = known-some (definition_of_number (row_names rows) order.job) both.0 in
    let there = through names rows named order.job known.0 known.1 in
    let same : label_of names order.job ≡ label_of (row_names rows) order.job = label-is names order.job known.0 there ∙ sym (label-is (row_names rows) order.job known.0 known.1) in
    let rest = orders-known names rows named orders both.1 in (
      (λ i. (same i, order.act) ∷ rest.0 i),
      (λ i. is_some (there i) && rest.1 i),
    )

-- ---- one number for each label

other-label : (name : Name) (names : List Name) (n : ℕ) (d : Described) → IsOther name names → definition_of_number names n ≡ Some d → is_same name.described.label d.label ≡ false
other-label name [] n d other e = cc
other-label name (one ∷ names) n d other e = go (one.number == n) (other-label name names n d other.2) e where
  go : (b : Bool) → (definition_of_number names n ≡ Some d → is_same name.described.label d.label ≡ false) → cond b (Some one.described) (definition_of_number names n) ≡ Some d → is_same name.described.label d.label ≡ false
  go true rest e = let same : one.described ≡ d = cc in ap (λ (x : Described). is_same name.described.label x.label) (sym same) ∙ other.1
  go false rest e = rest e

pub once-number : (names : List Name) → IsOnce names → (a b : ℕ) (d e : Described) → definition_of_number names a ≡ Some d → definition_of_number names b ≡ Some e → d.label ≡ e.label → a ≡ b
once-number [] once a b d e known_a known_b same = cc
once-number (name ∷ names) once a b d e known_a known_b same = go (name.number == a) refl (name.number == b) refl (once-number names once.1 a b d e) known_a known_b where
  clash : (x : Described) (n : ℕ) → definition_of_number names n ≡ Some x → name.described.label ≡ x.label → ⊥
  clash x n known is =
      let differ = other-label name names n x once.0 known in
      let equal : is_same name.described.label x.label ≡ true = ap (is_same name.described.label) (sym is) ∙ same_self name.described.label in
      false≢true (sym differ ∙ equal)

  go : (p : Bool) → (name.number == a) ≡ p → (q : Bool) → (name.number == b) ≡ q →
      (definition_of_number names a ≡ Some d → definition_of_number names b ≡ Some e → d.label ≡ e.label → a ≡ b) →
      cond p (Some name.described) (definition_of_number names a) ≡ Some d → cond q (Some name.described) (definition_of_number names b) ≡ Some e → a ≡ b
  go true ia true ib rest ka kb = sym (eqb-true name.number a ia) ∙ eqb-true name.number b ib
  go true ia false ib rest ka kb = let is : name.described ≡ d = cc in absurd (clash e b kb (ap (λ (x : Described). x.label) is ∙ same))
  go false ia true ib rest ka kb = let is : name.described ≡ e = cc in absurd (clash d a ka (ap (λ (x : Described). x.label) is ∙ sym same))
  go false ia false ib rest ka kb = rest ka kb same

-- ---- a label that is loaded

-- its row, as two lists of names know it
pub record IsLoaded (names table : List Name) (label : Label) : Type 0 where
  pub row : Row
  pub here : definition_of_number names row.number ≡ Some row.described
  pub there : definition_of_number table row.number ≡ Some row.described
  pub named : row.described.label ≡ label
  pub short : IsLabel label

pub loaded : (at : Reading) (names table : List Name) (label : Label) (t : History) (rows : List Row) (jobs : List Job) → KeepsJobs at rows jobs → AreNamed names rows → AreNamed table rows →
    AllByRecursion IsLabel (labels_of jobs) → past_in (first (filter (is_of label) jobs)) ≡ Some t → IsLoaded names table label
loaded at names table label t [] [] keeps here there short is = cc
loaded at names table label t [] (job ∷ jobs) keeps here there short is = absurd keeps
loaded at names table label t (row ∷ rows) [] keeps here there short is = absurd keeps
loaded at names table label t (row ∷ rows) (job ∷ jobs) keeps here there short is =
    go (is_of label job) refl (loaded at names table label t rows jobs keeps.1 here.1 there.1 short.1) is where
      go : (b : Bool) → is_of label job ≡ b → (past_in (first (filter (is_of label) jobs)) ≡ Some t → IsLoaded names table label) →
          past_in (first (cond b (job ∷ filter (is_of label) jobs) (filter (is_of label) jobs))) ≡ Some t → IsLoaded names table label
      go true found rest is =
          let same : label ≡ job.label = same_text label job.label (sym found) in
          record { row = row; here = here.0; there = there.0; named = keeps.0.label ∙ sym same; short = subst IsLabel (sym same) short.0 }
      go false found rest is = rest is

-- ---- numbers that stay

-- the number of a loaded label stands for a definition with that label
number-named : (names : List Name) (rows : List Row) (label : Label) (n : ℕ) → AreNamed names rows → number_of label rows ≡ Some n →
    (d : Described) × (definition_of_number names n ≡ Some d) × (label ≡ d.label)
number-named names [] label n named is = cc
number-named names (row ∷ rows) label n named is = go (is_same label row.described.label) refl (number-named names rows label n named.1) is where
  go : (b : Bool) → is_same label row.described.label ≡ b → (number_of label rows ≡ Some n → (d : Described) × (definition_of_number names n ≡ Some d) × (label ≡ d.label)) →
      cond b (Some row.number) (number_of label rows) ≡ Some n → (d : Described) × (definition_of_number names n ≡ Some d) × (label ≡ d.label)
  go true same rest is = let number : row.number ≡ n = cc in (row.described, ap (definition_of_number names) (sym number) ∙ named.0, same_text label row.described.label (sym same))
  go false same rest is = rest is

-- names that stand for the jobs of both tables
pub keeps-numbers : (names : List Name) (old new : Table) → AreNumbered names old → AreNumbered names new → KeepsNumbers old new
keeps-numbers names old new first last = λ label before after was is.
    let (d, known, named) = number-named names old.rows label before first.named was in
    let (e, known', named') = number-named names new.rows label after last.named is in
    once-number names first.once after before e d known' known (sym named' ∙ named)

-- the same jobs have the same numbers
pub same-numbers : (old new : Table) → new.rows ≡ old.rows → KeepsNumbers old new
same-numbers old new same = λ label before after was is.
    let both : Some after ≡ Some before = sym is ∙ ap (number_of label) same ∙ was in cc

-- ---- answers to orders

pub theirs-append : (names : List Name) (xs ys : List JobOrder) (ps qs : List PendingAnswer) → AreTheirs names xs ps → AreTheirs names ys qs → AreTheirs names (xs ++ ys) (ps ++ qs)
theirs-append names [] ys [] qs a b = b
theirs-append names [] ys (p ∷ ps) qs a b = absurd a
theirs-append names (x ∷ xs) ys [] qs a b = absurd a
theirs-append names (x ∷ xs) ys (p ∷ ps) qs a b = (a.0, a.1, theirs-append names xs ys ps qs a.2 b)

spawn-fits : (run : ℕ) (conn : Option ℕ) (a : Scripted) → is_answer_to (spawn_answer run a) (acts.Spawn run conn) ≡ true
spawn-fits run conn (Started pid) = eqb-self run
spawn-fits run conn Done = eqb-self run
spawn-fits run conn Running = eqb-self run
spawn-fits run conn (Over ended) = eqb-self run
spawn-fits run conn (Seen obs) = eqb-self run
spawn-fits run conn (At reading) = eqb-self run
spawn-fits run conn Refused = eqb-self run
spawn-fits run conn NoMemory = eqb-self run

-- the answers of the calls are those to the orders by which they were made
pub made-theirs : (names : List Name) (orders : List Order) (made : List ToldCall) → list_all (is_known names) orders ≡ true → calls_in made ≡ map call_of orders →
    AreTheirs names (wanting (labelled names orders)) (answers_in made)
made-theirs names [] [] all same = tt
made-theirs names [] (entry ∷ made) all same = cc
made-theirs names (order ∷ orders) [] all same = cc
made-theirs names (order ∷ orders) (entry ∷ made) all same =
    let both = and-both (is_known names order) (list_all (is_known names) orders) all in
    let known = known-some (definition_of_number names order.job) both.0 in
    let head : entry.0 ≡ call_of order = cc in
    let tail : calls_in made ≡ map call_of orders = cc in
    go order.act head (made-theirs names orders made both.1 tail) known.0 known.1 where
      go : (act : Act) → entry.0 ≡ call_by order.job act → AreTheirs names (wanting (labelled names orders)) (answers_in made) → (d : Described) → definition_of_number names order.job ≡ Some d →
          AreTheirs names (wanting ((label_of names order.job, act) ∷ labelled names orders)) (answers_in (entry ∷ made))
      go (acts.Spawn run conn) head rest d is = rw head ((d, is, sym (label-is names order.job d is)), spawn-fits run conn entry.1, rest)
      go (acts.Term run) head rest d is = rw head ((d, is, sym (label-is names order.job d is)), eqb-self run, rest)
      go (acts.Kill run) head rest d is = rw head ((d, is, sym (label-is names order.job d is)), eqb-self run, rest)
      go (acts.Close conn) head rest d is = rw head rest
      go acts.Gone head rest d is = rw head rest
