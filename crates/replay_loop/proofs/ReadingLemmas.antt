-- A run so far: what was given, and what was written for it.
use Rattle.std.proofs.Common.{◌≡◌, ◌≢◌, ◌⊎◌, inl, inr, ◌<◌, ◌≤◌, ◌+◌, ℕ, true≢false, length, length-append, arith, List, [], ◌++◌, Bool, true, false, Option, Some, None, refl, sym, ap, ◌∙◌, subst, append_assoc, append-nil}
use Rattle.std.proofs.lemmas.List.Folds.{list_all-append}
use Rattle.std.specs.Io.KnownBytes.{Appends, Consumes, Keeps, IsAtEnd}
use Rattle.std.specs.List.{list_all, take_while}
use Rattle.std.proofs.KnownBytes.{Appends-trans, Consumes-trans, Consumes-kept, Consumes-nil}
use Rattle.ctl_protocol.specs.Lines.{Feed, lines_of, rest_of, fits, takes, fed, stopped, is_short, line_limit}
use Rattle.ctl_protocol.proofs.CutLemmas.{lines_none, rest_none, lines_joined, rest_joined, while_append}
use Rattle.replay_loop.specs.LineMachine.{Output, Future}
use Rattle.replay_loop.specs.Handling.{Handles, Stops, drained, come, LastStops, PieceStops}
use Rattle.replay_loop.specs.ReplayOutcomes.{Answers, OpensNone, last_line, input_lines, counted_lines}
use Rattle.replay_loop.specs.Reading.{Finished, Wrote, Failed, RanOut, CutOff, HasNoMachine}
use Rattle.replay_loop.specs.declared.fault.ReplayFault.{ReplayFault}
use Rattle.replay_loop.specs.declared.fault.ReplayFault.TheVariants.{NoMemory, Header, Read, Write, TooLong, ReadCount}
use Rattle.replay_loop.proofs.BooleanLemmas.{and-left, and-joined, and-joined-false}
use Rattle.replay_loop.proofs.HandlingLemmas.{nothing, then_more, stops_later}

pub record Going (output : Output) (count : ℕ) (unread rest held holds : Option (List ℕ)) (feed : Feed) (stage : Option Future) : Type 0 where
  pub consumed : List ℕ
  pub taken : Consumes unread rest consumed
  pub feed_is : feed ≡ record { lines = []; rest = rest_of consumed; limit = line_limit; refusing = false }
  pub fits_is : fits line_limit consumed ≡ true
  pub count_is : count ≤ length consumed
  pub handled : Handles output None stage held holds (lines_of consumed)

pub start : (output : Output) (unread held : Option (List ℕ)) → Going output 0 unread unread held held (record { lines = []; rest = []; limit = line_limit; refusing = false }) None
start output unread held = record {
  consumed = [];
  taken = Consumes-nil unread;
  feed_is = rw (rest_none []) refl;
  fits_is = rw (lines_none [], rest_none []) refl;
  count_is = omega arith;
  handled = rw (lines_none []) (nothing output None held tt);
}

fits_joined : (x y : List ℕ) → fits line_limit x ≡ true → fits line_limit (rest_of x ++ y) ≡ true → fits line_limit (x ++ y) ≡ true
fits_joined x y e f = rw (lines_joined x y, rest_joined x y, list_all-append)
    (and-joined (list_all (is_short line_limit) (lines_of x)) (is_short line_limit (rest_of x)) (list_all (is_short line_limit) (lines_of (rest_of x ++ y))) (is_short line_limit (rest_of (rest_of x ++ y))) e f)

unfit : (x y : List ℕ) → fits line_limit x ≡ true → fits line_limit (rest_of x ++ y) ≡ false → fits line_limit (x ++ y) ≡ false
unfit x y e f = rw (lines_joined x y, rest_joined x y, list_all-append)
    (and-joined-false (list_all (is_short line_limit) (lines_of x)) (is_short line_limit (rest_of x)) (list_all (is_short line_limit) (lines_of (rest_of x ++ y))) (is_short line_limit (rest_of (rest_of x ++ y))) e f)

taken_fits : (f : Feed) (consumed piece : List ℕ) → f ≡ record { lines = []; rest = rest_of consumed; limit = line_limit; refusing = false } → (takes f piece ≡ fits line_limit (rest_of consumed ++ piece))
taken_fits f consumed piece e = rw e refl

pub more : (output : Output) (count : ℕ) (unread rest after held holds has : Option (List ℕ)) (f g : Feed) (stage new : Option Future) (piece : List ℕ) → Going output count unread rest held holds f stage → 0 < length piece → Consumes rest after piece
    → takes f piece ≡ true → g ≡ drained (fed f piece) → Handles output stage new holds has (fed f piece).lines → Going output (count + 1) unread after held has g new
more output count unread rest after held holds has f g stage new piece going some came taken is second =
    let x = going.consumed in
    record {
      consumed = x ++ piece;
      taken = Consumes-trans unread rest after x piece going.taken came;
      feed_is = is ∙ ap (λ h. drained (fed h piece)) going.feed_is ∙ rw (rest_joined x piece) refl;
      count_is = omega (arith, going.count_is, length-append x piece);
      fits_is = fits_joined x piece going.fits_is (sym (taken_fits f x piece going.feed_is) ∙ taken);
      handled = subst (Handles output None new held has) (sym (lines_joined x piece)) (then_more output None stage new held holds has (lines_of x) (lines_of (rest_of x ++ piece)) going.handled (subst (λ h. Handles output stage new holds has (fed h piece).lines) going.feed_is second));
    }

-- with no more line, what was written is all
ended_with : (output : Output) (state : Future) (held holds : Option (List ℕ)) (lines : List (List ℕ)) (h : Handles output None (Some state) held holds lines) → output lines (Some h.text)
ended_with output state held holds lines h =
    subst (λ t. output lines (Some t)) (ap (λ t. h.text ++ t) h.quiet ∙ append-nil h.text) (subst (λ ls. output ls (Some (h.text ++ state []))) (append-nil lines) (h.goes_on [] (Some (state [])) refl))

-- no more to handle: the text that was written is the answer
written : (output : Output) → output [] None → (stage : Option Future) (held holds : Option (List ℕ)) (lines : List (List ℕ)) → Handles output None stage held holds lines → Wrote output held holds lines
written output empty None held holds lines h = record { answer = None; is = subst (λ ls. output ls None) (append-nil lines) (h.goes_on [] None empty); text = h.text; all = h.silent refl; wrote = h.wrote }
written output empty (Some state) held holds lines h = record { answer = Some h.text; is = ended_with output state held holds lines h; text = h.text; all = refl; wrote = h.wrote }

-- a read failed, or there were too many
pub no_more : (output : Output) → output [] None → (count : ℕ) (unread rest after held holds : Option (List ℕ)) (f : Feed) (stage : Option Future) → Going output count unread rest held holds f stage → Keeps rest after
    → (input : List ℕ) × Consumes unread after input × (count ≤ length input) × Wrote output held holds (lines_of input)
no_more output empty count unread rest after held holds f stage going kept = (going.consumed, Consumes-kept unread rest after going.consumed going.taken kept, going.count_is, written output empty stage held holds (lines_of going.consumed) going.handled)

finished : (output : Output) (stage : Option Future) (held holds : Option (List ℕ)) (lines : List (List ℕ)) → stage ≢ None → Handles output None stage held holds lines → (text : List ℕ) × output lines (Some text) × Appends held holds text
finished output None held holds lines some h = absurd (some refl)
finished output (Some state) held holds lines some h = (h.text, ended_with output state held holds lines h, h.wrote)

pub all : (output : Output) (count : ℕ) (unread rest after held holds has : Option (List ℕ)) (f : Feed) (stage new : Option Future) → Going output count unread rest held holds f stage → Consumes rest after [] → IsAtEnd after
    → (new ≢ None) × Handles output stage new holds has (last_line f.rest) → Finished output unread after held has
all output count unread rest after held holds has f stage new going came at_end last =
    let x = going.consumed in
    let second = subst (λ h. Handles output stage new holds has (last_line h.rest)) going.feed_is last.1 in
    let done = finished output new held has (input_lines x) last.0 (then_more output None stage new held holds has (lines_of x) (last_line (rest_of x)) going.handled second) in
    record { input = x; consumed = subst (Consumes unread after) (append-nil x) (Consumes-trans unread rest after x [] going.taken came); ended = at_end; short = going.fits_is; text = done.0; is = done.1; wrote = done.2 }

-- what memory that ran out, and a write that failed, leave of all lines
run_out : (output : Output) → output [] None → (held holds : Option (List ℕ)) (lines : List (List ℕ)) → Stops output (record { lines = lines; held = held; holds = holds }) NoMemory None → RanOut output held holds lines
run_out output empty held holds lines (done, others, new, split, handled) = (done, others, split, written output empty new held holds done handled)

cut_off : (output : Output) (held holds : Option (List ℕ)) (lines : List (List ℕ)) → Stops output (record { lines = lines; held = held; holds = holds }) Write None → CutOff output held holds lines
cut_off output held holds lines stop = let (all, is, front) = stop [] in (all, subst (λ ls. output ls (Some all)) (append-nil lines) is, front)

-- the lines that count after a piece
record Counts (x piece : List ℕ) (f : Feed) : Type 0 where
  others : List (List ℕ)
  split : counted_lines (x ++ piece) ≡ lines_of x ++ (come f piece ++ others)
  alone : fits line_limit (rest_of x ++ piece) ≡ false → others ≡ []

counts_at : (t : Bool) (x piece : List ℕ) (f : Feed) → f ≡ record { lines = []; rest = rest_of x; limit = line_limit; refusing = false } → fits line_limit x ≡ true → fits line_limit (rest_of x ++ piece) ≡ t → Counts x piece f
counts_at true x piece f is fine e =
    let all : fits line_limit (x ++ piece) ≡ true = fits_joined x piece fine e in
    record { others = last_line (rest_of (x ++ piece)); alone = λ no. absurd (true≢false (sym e ∙ no)); split = rw (all, is, e) (ap (λ ls. ls ++ last_line (rest_of (x ++ piece))) (lines_joined x piece) ∙ append_assoc (lines_of x) (lines_of (rest_of x ++ piece)) (last_line (rest_of (x ++ piece)))) }
counts_at false x piece f is fine e =
    let short : list_all (is_short line_limit) (lines_of x) ≡ true = and-left (list_all (is_short line_limit) (lines_of x)) (is_short line_limit (rest_of x)) fine in
    let none : fits line_limit (x ++ piece) ≡ false = unfit x piece fine e in
    let here : take_while (is_short line_limit) (lines_of (x ++ piece)) ≡ lines_of x ++ take_while (is_short line_limit) (lines_of (rest_of x ++ piece)) = ap (take_while (is_short line_limit)) (lines_joined x piece) ∙ while_append line_limit (lines_of x) (lines_of (rest_of x ++ piece)) short in
    record { others = []; alone = λ _. refl; split = rw (none, is, e) (here ∙ ap (λ ls. lines_of x ++ ls) (sym (append-nil (take_while (is_short line_limit) (lines_of (rest_of x ++ piece)))))) }

counts : (output : Output) (count : ℕ) (unread rest held holds : Option (List ℕ)) (f : Feed) (stage : Option Future) (piece : List ℕ) (going : Going output count unread rest held holds f stage) → Counts going.consumed piece f
counts output count unread rest held holds f stage piece going = counts_at (fits line_limit (rest_of going.consumed ++ piece)) going.consumed piece f going.feed_is going.fits_is refl

all_failed : (output : Output) → output [] None → (reads count : ℕ) (unread rest after held holds has : Option (List ℕ)) (f : Feed) (stage : Option Future) (piece : List ℕ) → Going output count unread rest held holds f stage → Consumes rest after piece
    → Stops output (record { lines = come f piece; held = holds; holds = has }) NoMemory stage → Failed output reads (record { unread = unread; rest = after; held = held; holds = has }) NoMemory
all_failed output empty reads count unread rest after held holds has f stage piece going came stop =
    let x = going.consumed in
    let n = counts output count unread rest held holds f stage piece going in
    (x ++ piece, Consumes-trans unread rest after x piece going.taken came, run_out output empty held has (counted_lines (x ++ piece)) (stops_later output NoMemory None stage held holds has (lines_of x) (come f piece) n.others (counted_lines (x ++ piece)) n.split going.handled stop))

all_write : (output : Output) (reads count : ℕ) (unread rest after held holds has : Option (List ℕ)) (f : Feed) (stage : Option Future) (piece : List ℕ) → Going output count unread rest held holds f stage → Consumes rest after piece
    → Stops output (record { lines = come f piece; held = holds; holds = has }) Write stage → Failed output reads (record { unread = unread; rest = after; held = held; holds = has }) Write
all_write output reads count unread rest after held holds has f stage piece going came stop =
    let x = going.consumed in
    let n = counts output count unread rest held holds f stage piece going in
    (x ++ piece, Consumes-trans unread rest after x piece going.taken came, cut_off output held has (counted_lines (x ++ piece)) (stops_later output Write None stage held holds has (lines_of x) (come f piece) n.others (counted_lines (x ++ piece)) n.split going.handled stop))

ended : (output : Output) (count : ℕ) (unread rest after held holds : Option (List ℕ)) (f : Feed) (stage : Option Future) (going : Going output count unread rest held holds f stage) → Consumes rest after [] → Consumes unread after going.consumed
ended output count unread rest after held holds f stage going came = subst (Consumes unread after) (append-nil going.consumed) (Consumes-trans unread rest after going.consumed [] going.taken came)

last_stop : (output : Output) (e : ReplayFault) (count : ℕ) (unread rest held holds has : Option (List ℕ)) (f : Feed) (stage : Option Future) (going : Going output count unread rest held holds f stage) → Stops output (record { lines = last_line f.rest; held = holds; holds = has }) e stage → Stops output (record { lines = counted_lines going.consumed; held = held; holds = has }) e None
last_stop output e count unread rest held holds has f stage going stop =
    let x = going.consumed in
    let all : counted_lines x ≡ lines_of x ++ (last_line (rest_of x) ++ []) = rw going.fits_is (ap (λ ls. lines_of x ++ ls) (sym (append-nil (last_line (rest_of x))))) in
    stops_later output e None stage held holds has (lines_of x) (last_line (rest_of x)) [] (counted_lines x) all going.handled (subst (λ h. Stops output (record { lines = last_line h.rest; held = holds; holds = has }) e stage) going.feed_is stop)

no_header : (output : Output) (held holds has : Option (List ℕ)) (stage : Option Future) (lines : List (List ℕ)) → Handles output None stage held holds lines → stage ≡ None → Appends holds has [] → Appends held has []
no_header output held holds has stage lines h none kept = subst (Appends held has) (rw (h.silent none) refl) (Appends-trans held holds has h.text [] h.wrote kept)

all_short : (xs : List (List ℕ)) → list_all (is_short line_limit) xs ≡ true → take_while (is_short line_limit) xs ≡ xs
all_short xs short = ap (take_while (is_short line_limit)) (sym (append-nil xs)) ∙ while_append line_limit xs [] short ∙ append-nil xs

-- if no line came before, the short lines of all are those that the piece ends
come_first : (t : Bool) (x piece : List ℕ) (f : Feed) → f ≡ record { lines = []; rest = rest_of x; limit = line_limit; refusing = false } → fits line_limit x ≡ true → lines_of x ≡ [] → fits line_limit (rest_of x ++ piece) ≡ t
    → take_while (is_short line_limit) (lines_of (x ++ piece)) ≡ come f piece
come_first t x piece f is fine none e =
    let here : take_while (is_short line_limit) (lines_of (x ++ piece)) ≡ take_while (is_short line_limit) (lines_of (rest_of x ++ piece)) = ap (take_while (is_short line_limit)) (lines_joined x piece ∙ ap (λ ls. ls ++ lines_of (rest_of x ++ piece)) none) in
    go t e here
  where
    go : (t : Bool) → fits line_limit (rest_of x ++ piece) ≡ t → take_while (is_short line_limit) (lines_of (x ++ piece)) ≡ take_while (is_short line_limit) (lines_of (rest_of x ++ piece)) → take_while (is_short line_limit) (lines_of (x ++ piece)) ≡ come f piece
    go true e here = rw (is, e) (here ∙ all_short (lines_of (rest_of x ++ piece)) (and-left (list_all (is_short line_limit) (lines_of (rest_of x ++ piece))) (is_short line_limit (rest_of (rest_of x ++ piece))) e))
    go false e here = rw (is, e) here

no_machine : (output : Output) (reads count : ℕ) (unread rest after held holds has : Option (List ℕ)) (f : Feed) (stage : Option Future) (piece : List ℕ) → Going output count unread rest held holds f stage → Consumes rest after piece
    → PieceStops output (record { feed = f; piece = piece; held = holds; holds = has }) Header stage → Failed output reads (record { unread = unread; rest = after; held = held; holds = has }) Header
no_machine output reads count unread rest after held holds has f stage piece going came (none, kept, why) =
    let x = going.consumed in
    let lines = come_first (fits line_limit (rest_of x ++ piece)) x piece f going.feed_is going.fits_is (going.handled.unopened none) refl in (
      x ++ piece,
      Consumes-trans unread rest after x piece going.taken came,
      reason lines why,
      no_header output held holds has stage (lines_of x) going.handled none kept,
    )
  where
    reason : take_while (is_short line_limit) (lines_of (going.consumed ++ piece)) ≡ come f piece → OpensNone output (come f piece) ⊎ ((takes f piece ≡ false) × (come f piece ≡ [])) → HasNoMachine output (going.consumed ++ piece) after
    reason lines (inl refused) = inl (subst (OpensNone output) (sym lines) refused)
    reason lines (inr (long, empty)) = inr (inl (unfit going.consumed piece going.fits_is (sym (taken_fits f going.consumed piece going.feed_is) ∙ long), lines ∙ empty))

pub fails : (output : Output) → output [] None → (e : ReplayFault) (reads count : ℕ) (unread rest after held holds has : Option (List ℕ)) (f : Feed) (stage : Option Future) (piece : List ℕ) → Going output count unread rest held holds f stage → Consumes rest after piece
    → PieceStops output (record { feed = f; piece = piece; held = holds; holds = has }) e stage → Failed output reads (record { unread = unread; rest = after; held = held; holds = has }) e
fails output empty Header reads count unread rest after held holds has f stage piece going came stop = no_machine output reads count unread rest after held holds has f stage piece going came stop
fails output empty TooLong reads count unread rest after held holds has f stage piece going came (refused, new, some, second) =
    let x = going.consumed in
    let short : list_all (is_short line_limit) (lines_of x) ≡ true = and-left (list_all (is_short line_limit) (lines_of x)) (is_short line_limit (rest_of x)) going.fits_is in
    let past : fits line_limit (rest_of x ++ piece) ≡ false = sym (taken_fits f x piece going.feed_is) ∙ refused in
    let here : take_while (is_short line_limit) (lines_of (x ++ piece)) ≡ lines_of x ++ take_while (is_short line_limit) (lines_of (rest_of x ++ piece)) = ap (take_while (is_short line_limit)) (lines_joined x piece) ∙ while_append line_limit (lines_of x) (lines_of (rest_of x ++ piece)) short in
    let later = subst (λ h. Handles output stage new holds has (stopped h piece).lines) going.feed_is second in (
      x ++ piece,
      Consumes-trans unread rest after x piece going.taken came,
      rw (lines_joined x piece, rest_joined x piece, list_all-append) (and-joined-false (list_all (is_short line_limit) (lines_of x)) (is_short line_limit (rest_of x)) (list_all (is_short line_limit) (lines_of (rest_of x ++ piece))) (is_short line_limit (rest_of (rest_of x ++ piece))) going.fits_is past),
      finished output new held has (take_while (is_short line_limit) (lines_of (x ++ piece))) some (subst (Handles output None new held has) (sym here) (then_more output None stage new held holds has (lines_of x) (take_while (is_short line_limit) (lines_of (rest_of x ++ piece))) going.handled later)),
    )
fails output empty NoMemory reads count unread rest after held holds has f stage piece going came stop = all_failed output empty reads count unread rest after held holds has f stage piece going came stop
fails output empty Write reads count unread rest after held holds has f stage piece going came stop = all_write output reads count unread rest after held holds has f stage piece going came stop
fails output empty Read reads count unread rest after held holds has f stage piece going came stop = absurd stop
fails output empty ReadCount reads count unread rest after held holds has f stage piece going came stop = absurd stop

pub last_fails : (output : Output) → output [] None → (e : ReplayFault) (reads count : ℕ) (unread rest after held holds has : Option (List ℕ)) (f : Feed) (stage : Option Future) → Going output count unread rest held holds f stage → Consumes rest after [] → IsAtEnd after → LastStops output (record { lines = last_line f.rest; held = holds; holds = has }) e stage → Failed output reads (record { unread = unread; rest = after; held = held; holds = has }) e
last_fails output empty Header reads count unread rest after held holds has f stage going came at_end (none, kept, shown) =
    let x = going.consumed in
    let last = going.handled.goes_on (last_line (rest_of x)) None (subst (λ h. Answers output stage (last_line h.rest) None) going.feed_is shown) in (
      x,
      ended output count unread rest after held holds f stage going came,
      inr (inr (at_end, going.fits_is, last)),
      no_header output held holds has stage (lines_of x) going.handled none kept,
    )
last_fails output empty TooLong reads count unread rest after held holds has f stage going came at_end stop = absurd stop
last_fails output empty NoMemory reads count unread rest after held holds has f stage going came at_end stop = (going.consumed, ended output count unread rest after held holds f stage going came, run_out output empty held has (counted_lines going.consumed) (last_stop output NoMemory count unread rest held holds has f stage going stop))
last_fails output empty Write reads count unread rest after held holds has f stage going came at_end stop = (going.consumed, ended output count unread rest after held holds f stage going came, cut_off output held has (counted_lines going.consumed) (last_stop output Write count unread rest held holds has f stage going stop))
last_fails output empty Read reads count unread rest after held holds has f stage going came at_end stop = absurd stop
last_fails output empty ReadCount reads count unread rest after held holds has f stage going came at_end stop = absurd stop
