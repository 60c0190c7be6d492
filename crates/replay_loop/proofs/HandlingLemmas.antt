-- Handling lines one after the other.
use Rattle.std.proofs.Common.{◌≡◌, ◌≢◌, inl, inr, ℕ, nat_eq, length, List, [], ◌∷◌, ◌++◌, Option, Some, None, option_map, true, false, refl, sym, ap, ◌∙◌, subst, append_assoc, append-nil}
use Rattle.std.specs.Io.KnownBytes.{Appends}
use Rattle.std.proofs.KnownBytes.{Appends-nil, Appends-trans}
use Rattle.replay_loop.specs.declared.fault.ReplayFault.{ReplayFault}
use Rattle.replay_loop.specs.declared.fault.ReplayFault.TheVariants.{NoMemory, Header, Read, Write, TooLong, ReadCount}
use Rattle.replay_loop.specs.LineMachine.{Output, Future, Opens, GoesOn}
use Rattle.replay_loop.specs.ReplayOutcomes.{Answers, OpensNone, last_line}
use Rattle.replay_loop.specs.Handling.{Stands, IsQuiet, Handles, Leads, Ends, Stops, PieceStops, LastStops}
use Rattle.ctl_protocol.specs.Writing.{AppendsFront}
use Rattle.ctl_protocol.specs.Lines.{Feed, takes, fed, stopped}

no_more : (o : Option (List ℕ)) → o ≡ option_map (λ after. [] ++ after) o
no_more None = refl
no_more (Some x) = refl

-- no line, and nothing written
pub nothing : (output : Output) (old : Option Future) (held : Option (List ℕ)) → IsQuiet old → Handles output old old held held []
nothing output old held quiet = record { text = []; wrote = Appends-nil held; goes_on = λ more after h. subst (Answers output old more) (no_more after) h; silent = λ _. refl; stays = λ e. e; unopened = λ _. refl; quiet = quiet }

joined : (x y : List ℕ) (o : Option (List ℕ)) → option_map (λ after. x ++ after) (option_map (λ after. y ++ after) o) ≡ option_map (λ after. (x ++ y) ++ after) o
joined x y None = refl
joined x y (Some z) = ap Some (sym (append_assoc x y z))

pub then_more : (output : Output) (a b c : Option Future) (h i j : Option (List ℕ)) (xs ys : List (List ℕ)) → Handles output a b h i xs → Handles output b c i j ys → Handles output a c h j (xs ++ ys)
then_more output a b c h i j xs ys first second = record {
  text = first.text ++ second.text;
  wrote = Appends-trans h i j first.text second.text first.wrote second.wrote;
  goes_on = λ more after h.
      subst (λ ls. Answers output a ls (option_map (λ x. (first.text ++ second.text) ++ x) after)) (sym (append_assoc xs ys more))
      (subst (Answers output a (xs ++ (ys ++ more))) (joined first.text second.text after) (first.goes_on (ys ++ more) (option_map (λ x. second.text ++ x) after) (second.goes_on more after h)));
  silent = λ none. rw (second.silent none, first.silent (second.stays none)) refl;
  stays = λ none. first.stays (second.stays none);
  unopened = λ none. rw (second.unopened none, first.unopened (second.stays none)) refl;
  quiet = second.quiet;
}

pub out_of_memory : (output : Output) (old : Option Future) (held : Option (List ℕ)) (lines : List (List ℕ)) → IsQuiet old → Stops output (record { lines = lines; held = held; holds = held }) NoMemory old
out_of_memory output old held lines quiet = ([], lines, old, refl, nothing output old held quiet)

-- the text of an answer was not written whole
pub write_stops : (output : Output) (future next : Future) (held holds : Option (List ℕ)) (line text : List ℕ) → ((lines : List (List ℕ)) → future (line ∷ lines) ≡ text ++ next lines)
    → AppendsFront held holds text → Stops output (record { lines = line ∷ []; held = held; holds = holds }) Write (Some future)
write_stops output future next held holds line text made h =
    λ more. (
      text ++ next more,
      ap Some (sym (made more)),
      record { front = h.front; rest = h.rest ++ next more; wrote = h.wrote; split = ap (λ t. t ++ next more) h.split ∙ append_assoc h.front h.rest (next more) },
    )

regroup : (xs ys zs more all : List (List ℕ)) → all ≡ xs ++ (ys ++ zs) → all ++ more ≡ xs ++ (ys ++ (zs ++ more))
regroup xs ys zs more all e = ap (λ ls. ls ++ more) e ∙ append_assoc xs (ys ++ zs) more ∙ ap (λ ls. xs ++ ls) (append_assoc ys zs more)

-- some lines were handled, and then a fault came
pub stops_later : (output : Output) (e : ReplayFault) (a b : Option Future) (h i j : Option (List ℕ)) (xs ys zs all : List (List ℕ)) → all ≡ xs ++ (ys ++ zs) → Handles output a b h i xs → Stops output (record { lines = ys; held = i; holds = j }) e b → Stops output (record { lines = all; held = h; holds = j }) e a
stops_later output Header a b h i j xs ys zs all split first (none, kept, refused) = (
  first.stays none,
  subst (Appends h j) (rw (first.silent none) refl) (Appends-trans h i j first.text [] first.wrote kept),
  record {
    line = refused.line;
    others = refused.others ++ zs;
    first = split ∙ ap (λ ls. ls ++ (ys ++ zs)) (first.unopened none) ∙ ap (λ ls. ls ++ zs) refused.first;
    none = refused.none;
  },
)
stops_later output NoMemory a b h i j xs ys zs all split first (done, rest, new, parts, second) = (
  xs ++ done,
  rest ++ zs,
  new,
  split ∙ ap (λ ls. xs ++ (ls ++ zs)) parts ∙ ap (λ ls. xs ++ ls) (append_assoc done rest zs) ∙ sym (append_assoc xs done (rest ++ zs)),
  then_more output a b new h i j xs done first second,
)
stops_later output Write a b h i j xs ys zs all split first stop = λ more.
    let (text, is, cut) = stop (zs ++ more) in (
      first.text ++ text,
      subst (λ ls. Answers output a ls (Some (first.text ++ text))) (sym (regroup xs ys zs more all split)) (first.goes_on (ys ++ (zs ++ more)) (Some text) is),
      record { front = first.text ++ cut.front; rest = cut.rest; wrote = Appends-trans h i j first.text cut.front first.wrote cut.wrote; split = ap (λ t. first.text ++ t) cut.split ∙ sym (append_assoc first.text cut.front cut.rest) },
    )
stops_later output Read a b h i j xs ys zs all split first stop = absurd stop
stops_later output TooLong a b h i j xs ys zs all split first stop = absurd stop
stops_later output ReadCount a b h i j xs ys zs all split first stop = absurd stop

pub piece_stops : (output : Output) (e : ReplayFault) (f g : Feed) (piece : List ℕ) (old : Option Future) (held holds : Option (List ℕ)) → takes f piece ≡ true → g ≡ fed f piece → Stops output (record { lines = g.lines; held = held; holds = holds }) e old → PieceStops output (record { feed = f; piece = piece; held = held; holds = holds }) e old
piece_stops output Header f g piece old held holds taken is (none, kept, refused) = (none, kept, inl (rw taken (subst (λ (h : Feed). OpensNone output h.lines) is refused)))
piece_stops output NoMemory f g piece old held holds taken is stop = rw taken (subst (λ h. Stops output (record { lines = h.lines; held = held; holds = holds }) NoMemory old) is stop)
piece_stops output Write f g piece old held holds taken is stop = rw taken (subst (λ h. Stops output (record { lines = h.lines; held = held; holds = holds }) Write old) is stop)
piece_stops output Read f g piece old held holds taken is stop = absurd stop
piece_stops output TooLong f g piece old held holds taken is stop = absurd stop
piece_stops output ReadCount f g piece old held holds taken is stop = absurd stop

pub long_stops : (output : Output) (e : ReplayFault) (f g : Feed) (piece : List ℕ) (old : Option Future) (held holds : Option (List ℕ)) → takes f piece ≡ false → g ≡ stopped f piece → Stops output (record { lines = g.lines; held = held; holds = holds }) e old → PieceStops output (record { feed = f; piece = piece; held = held; holds = holds }) e old
long_stops output Header f g piece old held holds taken is (none, kept, refused) = (none, kept, inl (rw taken (subst (λ (h : Feed). OpensNone output h.lines) is refused)))
long_stops output NoMemory f g piece old held holds taken is stop = rw taken (subst (λ h. Stops output (record { lines = h.lines; held = held; holds = holds }) NoMemory old) is stop)
long_stops output Write f g piece old held holds taken is stop = rw taken (subst (λ h. Stops output (record { lines = h.lines; held = held; holds = holds }) Write old) is stop)
long_stops output Read f g piece old held holds taken is stop = absurd stop
long_stops output TooLong f g piece old held holds taken is stop = absurd stop
long_stops output ReadCount f g piece old held holds taken is stop = absurd stop

-- lines that open no machine have no answer
none_answers : (output : Output) (old : Option Future) (lines : List (List ℕ)) → old ≡ None → OpensNone output lines → Answers output old lines None
none_answers output old lines none refused = subst (λ o. Answers output o lines None) (sym none) (subst (λ ls. output ls None) (sym refused.first) (refused.none refused.others))

pub last_stops : (output : Output) (e : ReplayFault) (line : List ℕ) (old : Option Future) (held holds : Option (List ℕ)) → Stops output (record { lines = last_line line; held = held; holds = holds }) e old → LastStops output (record { lines = last_line line; held = held; holds = holds }) e old
last_stops output Header line old held holds (none, kept, refused) = (none, kept, none_answers output old (last_line line) none refused)
last_stops output NoMemory line old held holds stop = stop
last_stops output Write line old held holds stop = stop
last_stops output Read line old held holds stop = absurd stop
last_stops output TooLong line old held holds stop = absurd stop
last_stops output ReadCount line old held holds stop = absurd stop

-- a line that is not empty is a last line
pub one_line : (line : List ℕ) → nat_eq (length line) 0 ≡ false → line ∷ [] ≡ last_line line
one_line [] e = absurd (cc)
one_line (b ∷ bs) e = refl

-- lines after which no header has come
pub no_header_yet : (output : Output) → output [] None → (old new : Option Future) (held holds : Option (List ℕ)) (lines : List (List ℕ)) → new ≡ None → Handles output old new held holds lines → (old ≡ None) × Appends held holds [] × Answers output old lines None
no_header_yet output first old new held holds lines none h = (h.stays none, subst (Appends held holds) (h.silent none) h.wrote, subst (λ ls. Answers output old ls None) (append-nil lines) (h.goes_on [] None (subst (λ s. Answers output s [] None) (sym none) first)))

pub long_header : (output : Output) → output [] None → (f g : Feed) (piece : List ℕ) (old new : Option Future) (held holds : Option (List ℕ)) → takes f piece ≡ false → g ≡ stopped f piece → new ≡ None → Handles output old new held holds g.lines → PieceStops output (record { feed = f; piece = piece; held = held; holds = holds }) Header old
long_header output empty f g piece old new held holds refused is none h =
    let (first, kept, shown) = no_header_yet output empty old new held holds g.lines none h in
    (first, kept, inr (refused, rw refused (subst (λ (k : Feed). k.lines ≡ []) is (h.unopened none))))

-- ---- the same, from wherever the machine is

pub stands_quiet : {M : Type 0} (will_write : M → Future → Type 0) (stage : Option M) (past : Option Future) → Stands will_write stage past → IsQuiet past
stands_quiet will_write stage None stands = tt
stands_quiet will_write None (Some future) stands = absurd stands
stands_quiet will_write (Some machine) (Some future) stands = stands.1

pub nothing_leads : {M : Type 0} (output : Output) (will_write : M → Future → Type 0) (old : Option M) (held : Option (List ℕ)) → Leads output will_write (record { old = old; new = old; held = held; holds = held }) []
nothing_leads output will_write old held = λ past stands. (past, stands, nothing output past held (stands_quiet will_write old past stands))

pub leads_more : {M : Type 0} (output : Output) (will_write : M → Future → Type 0) (a b c : Option M) (h i j : Option (List ℕ)) (xs ys : List (List ℕ))
    → Leads output will_write (record { old = a; new = b; held = h; holds = i }) xs → Leads output will_write (record { old = b; new = c; held = i; holds = j }) ys → Leads output will_write (record { old = a; new = c; held = h; holds = j }) (xs ++ ys)
leads_more output will_write a b c h i j xs ys first second = λ past stands.
    let (here, stood, unread) = first past stands in
    let (next, standing, right) = second here stood in
    (next, standing, then_more output past here next h i j xs ys unread right)

pub ends_later : {M : Type 0} (output : Output) (will_write : M → Future → Type 0) (e : ReplayFault) (a b : Option M) (h i j : Option (List ℕ)) (xs ys zs all : List (List ℕ)) → all ≡ xs ++ (ys ++ zs)
    → Leads output will_write (record { old = a; new = b; held = h; holds = i }) xs → Ends will_write b (Stops output (record { lines = ys; held = i; holds = j }) e) → Ends will_write a (Stops output (record { lines = all; held = h; holds = j }) e)
ends_later output will_write e a b h i j xs ys zs all split first stop = λ past stands.
    let (here, stood, unread) = first past stands in
    stops_later output e past here h i j xs ys zs all split unread (stop here stood)

-- the header was read: it opens the machine
pub opens : {M : Type 0} (output : Output) (will_write : M → Future → Type 0) (old : Option M) (machine : M) (held : Option (List ℕ)) (header : List ℕ) → old ≡ None
    → Opens output will_write header (Some machine) → Leads output will_write (record { old = old; new = (Some machine); held = held; holds = held }) (header ∷ [])
opens output will_write old machine held header none (future, will, is) =
    subst (λ stage. Leads output will_write (record { old = stage; new = (Some machine); held = held; holds = held }) (header ∷ [])) (sym none) (elim [
      | None ↦ λ stands. (Some future, will, record { text = []; wrote = Appends-nil held; goes_on = λ more after h. subst (λ t. output (header ∷ more) (option_map (λ x. [] ++ x) t)) (sym h) (is more); silent = λ no. absurd (cc); stays = λ no. absurd (cc); unopened = λ no. absurd (cc); quiet = will.1 })
      | (Some other) ↦ λ stands. absurd stands
    ])

-- a line was answered, and the answer written
pub answers : {M : Type 0} (output : Output) (will_write : M → Future → Type 0) (stage : Option M) (old new : M) (held holds : Option (List ℕ)) (line text : List ℕ) → stage ≡ Some old
    → GoesOn will_write old new line text → Appends held holds text → Leads output will_write (record { old = stage; new = (Some new); held = held; holds = holds }) (line ∷ [])
answers output will_write stage old new held holds line text some goes wrote =
    subst (λ stage. Leads output will_write (record { old = stage; new = (Some new); held = held; holds = holds }) (line ∷ [])) (sym some) (elim [
      | None ↦ λ stands. absurd stands
      | (Some future) ↦ λ stands. let (next, will, is) = goes future stands.0 in
          (Some next, will, record { text = text; wrote = wrote; goes_on = λ more after h. ap (option_map (λ x. text ++ x)) h ∙ ap Some (sym (is more)); silent = λ no. absurd (cc); stays = λ no. absurd (cc); unopened = λ no. absurd (cc); quiet = will.1 })
    ])

-- a line was answered, and the answer not written whole
pub breaks_off : {M : Type 0} (output : Output) (will_write : M → Future → Type 0) (stage : Option M) (old new : M) (held holds : Option (List ℕ)) (line text : List ℕ) → stage ≡ Some old
    → GoesOn will_write old new line text → AppendsFront held holds text → Ends will_write stage (Stops output (record { lines = line ∷ []; held = held; holds = holds }) Write)
breaks_off output will_write stage old new held holds line text some goes h =
    subst (λ stage. Ends will_write stage (Stops output (record { lines = line ∷ []; held = held; holds = holds }) Write)) (sym some) (elim [
      | None ↦ λ stands. absurd stands
      | (Some future) ↦ λ stands. let (next, will, is) = goes future stands.0 in write_stops output future next held holds line text is h
    ])

-- the header was refused
pub refuses : {M : Type 0} (output : Output) (will_write : M → Future → Type 0) (stage : Option M) (held : Option (List ℕ)) (header : List ℕ) → stage ≡ None
    → ((lines : List (List ℕ)) → output (header ∷ lines) None) → Ends will_write stage (Stops output (record { lines = header ∷ []; held = held; holds = held }) Header)
refuses output will_write stage held header none missing =
    subst (λ stage. Ends will_write stage (Stops output (record { lines = header ∷ []; held = held; holds = held }) Header)) (sym none)
    (elim [ None ↦ λ stands. (refl, Appends-nil held, record { line = header; others = []; first = refl; none = missing }) | (Some future) ↦ λ stands. absurd stands ])

-- there is no machine before the header
pub stands_none : {M : Type 0} (will_write : M → Future → Type 0) (stage : Option M) (next : Option Future) → stage ≡ None → Stands will_write stage next → next ≡ None
stands_none will_write None None none stands = refl
stands_none will_write None (Some future) none stands = absurd stands
stands_none will_write (Some machine) next none stands = absurd (cc)

pub stands_some : {M : Type 0} (will_write : M → Future → Type 0) (stage : Option M) (machine : M) (next : Option Future) → stage ≡ Some machine → Stands will_write stage next → next ≢ None
stands_some will_write None machine next some stands = absurd (cc)
stands_some will_write (Some other) machine None some stands = absurd stands
stands_some will_write (Some other) machine (Some future) some stands = λ no. absurd (cc)
