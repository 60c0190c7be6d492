-- A line of these parts is the event.
use Rattle.std.proofs.Common.{◌≡◌, ℕ, ◌+◌, ◌*◌, ◌/◌, ◌%◌, ◌<◌, ◌≤◌, ◌^◌, List, [], ◌∷◌, ◌++◌, Bool, true, false, ◌&&◌, nat_lt, codes, decimal, take, drop, length, get_or, Option, None, Some, refl, sym, ap, ◌∙◌, subst, arith, append_assoc, add-one}
use Rattle.std.specs.Prelude.{IfSome, MatchOption, IsUtf8, ◌-◌, nat_eq}
use Rattle.std.specs.Borrow.{Bor}
use Rattle.std.specs.Cmp.Lexicographic.{pointwise}
use Rattle.std.proofs.lemmas.Bool.Decides.{Decides-eqb, nat_tests}
use Rattle.json.proofs.Printed.Utf8.{are_ascii, IsUtf8-are_ascii}
use Rattle.std.proofs.lemmas.Fmt.{decimal_digit, decimal_step}
use Rattle.std.proofs.lemmas.Slice.Eq.{strip_prefix_is}
use Rattle.json.specs.Print.{escape, escape_byte, quoted}
use Rattle.json.proofs.Printed.Strings.{escape_byte_plain}
use Rattle.std.proofs.Math.Seq.{take-suc}
use Rattle.std.proofs.lemmas.List.{take-append-drop}
use Rattle.serde_json.specs.Data.{boolean, number, string, unsigned, object, Members, no_members, member}
use Rattle.serde_json.specs.Written.{compact_text}
use Rattle.serde_json.proofs.OnLiterals.{serde_json_on_literals}
use Rattle.history_model.specs.Labels.{is_label}
use Rattle.history_model.specs.declared.Ended.TheVariants.{Code, Signal}
use Rattle.history_model.specs.declared.event.Event.{Event}
use Rattle.history_model.specs.declared.event.Event.TheVariants as events
use Rattle.history_model.specs.declared.event.JobItem.TheVariants as happens
use Rattle.history_model.specs.declared.Ask.TheVariants as asks
use Rattle.history_model.specs.declared.Answer.TheVariants as answers
use Rattle.ctl_protocol.specs.declared.members.Form.TheVariants as forms
use Rattle.ctl_protocol.specs.Members.{◌>>=◌}
use Rattle.ctl_protocol.specs.EventLines.{event_at, event_shape}
use Rattle.ctl_protocol.specs.EventWriter.{event_object, is_writable}
use Rattle.ctl_protocol.specs.WrittenLines.{Tells, IsNumberAfter, IsFlagAfter, IsTextThen, IsLabelThen, IsRunOf, IsAnswerOf}
use Rattle.ctl_protocol.proofs.EventWriterLemmas.{journal_shape_back}
use Rattle.ctl_protocol.proofs.PlainObjectsLemmas.{ArePlain, put_onto, object_back}

-- ---- parts

some_alone : {T : Type 0} (P : Type 0) (Q : T → Type 0) (r : Option T) → MatchOption r P Q → IfSome r Q
some_alone P Q None h = tt
some_alone P Q (Some x) h = h

pub stripped : (s p : List ℕ) (r : Option (Bor (List ℕ)))
    → MatchOption r (pointwise nat_eq (take (length p) s) p ≡ false) (λ x. (pointwise nat_eq (take (length p) s) p ≡ true) × (x.now ≡ drop (length p) s) × (length x.now + length p ≡ length s))
    → IfSome r (λ x. s ≡ p ++ x.now)
stripped s p r cases = some_alone _ _ r (strip_prefix_is Decides-eqb s p r cases)

-- ---- numbers

quotient : (n d : ℕ) → d < 10 → (10 * n + d) / 10 ≡ n
quotient n d h = omega (arith, h)

remainder : (n d : ℕ) → d < 10 → (10 * n + d) % 10 ≡ d
remainder n d h = omega (arith, h)

-- one digit more
digit_more : (n d : ℕ) → 0 < n → d < 10 → 10 * n + d < 2 ^ 64 → decimal (10 * n + d) ≡ decimal n ++ (48 + d) ∷ []
digit_more n d some digit fits =
    decimal_step (10 * n + d) (omega (arith, some)) fits ∙ rw (quotient n d digit, remainder n d digit) refl

pub zero_digit : (first : ℕ) (bytes rest : List ℕ) → bytes ≡ first ∷ rest → first ≡ 48 → bytes ≡ decimal 0 ++ rest
zero_digit first bytes rest is zero = is ∙ ap (λ x. x ∷ rest) zero ∙ ap (λ ds. ds ++ rest) (sym (decimal_digit 0 (omega arith)))

pub one_digit : (first : ℕ) (bytes rest : List ℕ) → bytes ≡ first ∷ rest → 48 ≤ first → first ≤ 57 → bytes ≡ decimal (first - 48) ++ rest
one_digit first bytes rest is low high =
    is ∙ ap (λ x. x ∷ rest) (omega (arith, low)) ∙ ap (λ ds. ds ++ rest) (sym (decimal_digit (first - 48) (omega (arith, low, high))))

pub more_digits : (n next : ℕ) (bytes rest more : List ℕ) → bytes ≡ decimal n ++ rest → rest ≡ next ∷ more → 0 < n → 48 ≤ next → next ≤ 57 → 10 * n + (next - 48) < 2 ^ 64
    → bytes ≡ decimal (10 * n + (next - 48)) ++ more
more_digits n next bytes rest more front is some low high fits =
    front ∙ ap (λ r. decimal n ++ r) (is ∙ ap (λ x. x ∷ more) (omega (arith, low)))
    ∙ sym (append_assoc (decimal n) ((48 + (next - 48)) ∷ []) more)
    ∙ ap (λ ds. ds ++ more) (sym (digit_more n (next - 48) some (omega (arith, low, high)) fits))

-- ---- texts

-- the bytes up to a place are written without escapes
abbrev pub AreUnescaped : List ℕ → ℕ → Type 0
AreUnescaped bytes at = escape (take at bytes) ≡ take at bytes

escape-append : (xs ys : List ℕ) → escape (xs ++ ys) ≡ escape xs ++ escape ys
escape-append [] ys = refl
escape-append (x ∷ xs) ys = ap (λ l. escape_byte x ++ l) (escape-append xs ys) ∙ sym (append_assoc (escape_byte x) (escape xs) (escape ys))

pub unescaped_more : (bytes : List ℕ) (at : ℕ) → at < length bytes → (get_or bytes at 0 ≡ 34 → ⊥) → (get_or bytes at 0 ≡ 92 → ⊥) → 32 ≤ get_or bytes at 0 → AreUnescaped bytes at → AreUnescaped bytes (at + 1)
unescaped_more bytes at there quote backslash visible front =
    let more : take (at + 1) bytes ≡ take at bytes ++ get_or bytes at 0 ∷ [] = ap (λ n. take n bytes) (add-one at) ∙ take-suc bytes at 0 there in
    ap escape more ∙ escape-append (take at bytes) (get_or bytes at 0 ∷ [])
    ∙ ap (λ e. e ++ escape (get_or bytes at 0 ∷ [])) front
    ∙ ap (λ e. take at bytes ++ (e ++ [])) (escape_byte_plain (get_or bytes at 0) quote backslash visible)
    ∙ sym more

pub split_text : (bytes rest : List ℕ) (at : ℕ) → drop at bytes ≡ codes "\"" ++ rest → bytes ≡ take at bytes ++ 34 ∷ rest
split_text bytes rest at is = sym (take-append-drop at bytes) ∙ ap (λ r. take at bytes ++ r) is

-- ---- the event of an object's text

told : (e : Event) (ms : Members) (line : List ℕ) → line ≡ compact_text (object ms) → ArePlain ms → put_onto ms no_members ≡ ms → object ms ≡ event_object forms.Event e → is_writable e ≡ true
    → event_at line ≡ Some e
unfolding event_at
told e ms line written plain ordered of_event writable =
    ap event_at written ∙ ap (λ o. o >>= event_shape) (object_back ms plain ordered) ∙ ap event_shape of_event ∙ journal_shape_back e writable

-- an answer to the bytes after this text is one to the whole
pub told_after : (line text rest : List ℕ) (answer : Option Event) → line ≡ text ++ rest → Tells (text ++ rest) answer → Tells line answer
told_after line text rest answer is tells = subst (λ b. Tells b answer) (sym is) tells

pub told_some : (line : List ℕ) (answer : Option Event) (e : Event) → answer ≡ Some e → event_at line ≡ Some e → Tells line answer
told_some line answer e is tells = subst (λ o. Tells line o) (sym is) tells

-- the same of an event that the bytes after this text are
pub told_some_after : (front bytes text rest : List ℕ) (answer : Option Event) (e : Event) → bytes ≡ text ++ rest → answer ≡ Some e → event_at (front ++ (text ++ rest)) ≡ Some e → Tells (front ++ bytes) answer
told_some_after front bytes text rest answer e is some tells = told_some (front ++ bytes) answer e some (ap (λ b. event_at (front ++ b)) is ∙ tells)

-- a text without escapes is written as itself
in_quotes : (front bytes s rest : List ℕ) → IsTextThen bytes s rest → front ++ 34 ∷ bytes ≡ front ++ (quoted s ++ rest)
in_quotes front bytes s rest h =
    ap (λ b. front ++ 34 ∷ b) (h.0 ∙ sym (append_assoc s (34 ∷ []) rest) ∙ ap (λ t. (t ++ 34 ∷ []) ++ rest) (sym h.1))

ascii : (s : List ℕ) → are_ascii s ≡ true → IsUtf8 s
ascii s is = IsUtf8-are_ascii s is

both : (a b : Bool) → a ≡ true → b ≡ true → (a && b) ≡ true
both a b p q = rw (p, q) refl

below : (a b : ℕ) → a < b → nat_lt a b ≡ true
below a b h = grind (arith, nat_tests, h)

-- ---- members

abbrev of_event : List ℕ → Members → Members
of_event name ms = member (codes "ev") (string name) ms

abbrev of_job : List ℕ → Members → Members
of_job job ms = member (codes "job") (string job) ms

abbrev of_count : List ℕ → ℕ → Members → Members
of_count key n ms = member key (number (unsigned n)) ms

abbrev of_flag : List ℕ → Bool → Members → Members
of_flag key set ms = member key (boolean set) ms

-- ---- clock

abbrev clock_members : ℕ → ℕ → Members
clock_members up wall = of_event (codes "clock") (of_count (codes "up") up (of_count (codes "wall") wall no_members))

clock_text : (up wall : ℕ) → codes "{\"ev\":\"clock\",\"up\":" ++ (decimal up ++ (codes ",\"wall\":" ++ (decimal wall ++ codes "}"))) ≡ compact_text (object (clock_members up wall))
unfolding serde_json_on_literals
clock_text up wall = refl

pub clock_told : (bytes rest : List ℕ) (up wall : ℕ) → IsNumberAfter [] bytes up rest → IsNumberAfter (codes ",\"wall\":") rest wall (codes "}")
    → event_at (codes "{\"ev\":\"clock\",\"up\":" ++ bytes) ≡ Some (events.Clock (record { up = up; wall = wall }))
clock_told bytes rest up wall u w =
    told (events.Clock (record { up = up; wall = wall })) (clock_members up wall) (codes "{\"ev\":\"clock\",\"up\":" ++ bytes)
    (ap (λ b. codes "{\"ev\":\"clock\",\"up\":" ++ b) (u.0 ∙ ap (λ r. decimal up ++ r) w.0) ∙ clock_text up wall)
    (refl, ascii (codes "clock") refl, (refl, u.1, (refl, w.1, tt))) refl refl refl

-- ---- saw

abbrev saw_members : Bool → Bool → List ℕ → ℕ → Members
saw_members present nonempty path stamp =
    of_event (codes "saw") (of_flag (codes "exists") present (of_flag (codes "nonempty") nonempty (member (codes "path") (string path) (of_count (codes "stamp") stamp no_members))))

saw_text : (present nonempty : Bool) (path : List ℕ) (stamp : ℕ)
    → codes "{\"ev\":\"saw\",\"exists\":" ++ (compact_text (boolean present) ++ (codes ",\"nonempty\":" ++ (compact_text (boolean nonempty) ++ (codes ",\"path\":" ++ (quoted path ++ (codes ",\"stamp\":" ++ (decimal stamp ++ codes "}")))))))
    ≡ compact_text (object (saw_members present nonempty path stamp))
unfolding serde_json_on_literals
saw_text present nonempty path stamp = refl

pub saw_told : (bytes more rest named last path : List ℕ) (present nonempty : Bool) (stamp : ℕ) → IsFlagAfter (codes ",\"exists\":") bytes present more → IsFlagAfter (codes ",\"nonempty\":") more nonempty rest
    → rest ≡ codes ",\"path\":\"" ++ named → IsTextThen named path last → IsNumberAfter (codes ",\"stamp\":") last stamp (codes "}")
    → event_at (codes "{\"ev\":\"saw\"" ++ bytes) ≡ Some (events.Saw path (record { present = present; nonempty_dir = nonempty; stamp = stamp }))
saw_told bytes more rest named last path present nonempty stamp e n is p s =
    told (events.Saw path (record { present = present; nonempty_dir = nonempty; stamp = stamp })) (saw_members present nonempty path stamp) (codes "{\"ev\":\"saw\"" ++ bytes)
    (ap (λ b. codes "{\"ev\":\"saw\"" ++ b)
    (e ∙ ap (λ b. codes ",\"exists\":" ++ (compact_text (boolean present) ++ b))
    (n ∙ ap (λ b. codes ",\"nonempty\":" ++ (compact_text (boolean nonempty) ++ b))
    (is ∙ in_quotes (codes ",\"path\":") named path last p ∙ ap (λ b. codes ",\"path\":" ++ (quoted path ++ b)) s.0)))
    ∙ saw_text present nonempty path stamp)
    (refl, ascii (codes "saw") refl, (refl, tt, (refl, tt, (refl, p.2, (refl, s.1, tt))))) refl refl refl

-- ---- spawned

abbrev spawned_members : List ℕ → ℕ → ℕ → Members
spawned_members job pid run = of_event (codes "spawned") (of_job job (of_count (codes "pid") pid (of_count (codes "run") run no_members)))

spawned_text : (job : List ℕ) (pid run : ℕ)
    → codes "{\"ev\":\"spawned\",\"job\":" ++ (quoted job ++ (codes ",\"pid\":" ++ (decimal pid ++ (codes ",\"run\":" ++ (decimal run ++ codes "}"))))) ≡ compact_text (object (spawned_members job pid run))
unfolding serde_json_on_literals
spawned_text job pid run = refl

pub spawned_told : (bytes rest more job : List ℕ) (pid run : ℕ) → IsLabelThen bytes job rest → IsNumberAfter (codes ",\"pid\":") rest pid more → IsNumberAfter (codes ",\"run\":") more run (codes "}") → 0 < pid → pid < 2 ^ 32
    → event_at (codes "{\"ev\":\"spawned\",\"job\":\"" ++ bytes) ≡ Some (events.OfJob job (happens.Answered (answers.Spawned run pid)))
spawned_told bytes rest more job pid run j p r some small =
    told (events.OfJob job (happens.Answered (answers.Spawned run pid))) (spawned_members job pid run) (codes "{\"ev\":\"spawned\",\"job\":\"" ++ bytes)
    (in_quotes (codes "{\"ev\":\"spawned\",\"job\":") bytes job rest j.0
    ∙ ap (λ b. codes "{\"ev\":\"spawned\",\"job\":" ++ (quoted job ++ b)) (p.0 ∙ ap (λ b. codes ",\"pid\":" ++ (decimal pid ++ b)) r.0)
    ∙ spawned_text job pid run)
    (refl, ascii (codes "spawned") refl, (refl, j.0.2, (refl, p.1, (refl, r.1, tt)))) refl refl
    (both (is_label job) (nat_lt 0 pid && nat_lt pid (2 ^ 32)) j.1 (both (nat_lt 0 pid) (nat_lt pid (2 ^ 32)) (below 0 pid some) (below pid (2 ^ 32) small)))

-- ---- ended

abbrev signal_members : List ℕ → ℕ → ℕ → Members
signal_members job run signal = of_event (codes "ended") (of_job job (of_count (codes "run") run (of_count (codes "signal") signal no_members)))

signal_text : (job : List ℕ) (run signal : ℕ)
    → codes "{\"ev\":\"ended\",\"job\":" ++ (quoted job ++ (codes ",\"run\":" ++ (decimal run ++ (codes ",\"signal\":" ++ (decimal signal ++ codes "}"))))) ≡ compact_text (object (signal_members job run signal))
unfolding serde_json_on_literals
signal_text job run signal = refl

pub signal_told : (bytes rest more job : List ℕ) (run signal : ℕ) → IsLabelThen bytes job rest → IsNumberAfter (codes ",\"run\":") rest run more → IsNumberAfter (codes ",\"signal\":") more signal (codes "}") → signal < 256
    → event_at (codes "{\"ev\":\"ended\",\"job\":\"" ++ bytes) ≡ Some (events.OfJob job (happens.Ended run (Signal signal)))
signal_told bytes rest more job run signal j r s small =
    told (events.OfJob job (happens.Ended run (Signal signal))) (signal_members job run signal) (codes "{\"ev\":\"ended\",\"job\":\"" ++ bytes)
    (in_quotes (codes "{\"ev\":\"ended\",\"job\":") bytes job rest j.0
    ∙ ap (λ b. codes "{\"ev\":\"ended\",\"job\":" ++ (quoted job ++ b)) (r.0 ∙ ap (λ b. codes ",\"run\":" ++ (decimal run ++ b)) s.0)
    ∙ signal_text job run signal)
    (refl, ascii (codes "ended") refl, (refl, j.0.2, (refl, r.1, (refl, s.1, tt)))) refl refl
    (both (is_label job) (nat_lt signal 256) j.1 (below signal 256 small))

abbrev exit_members : ℕ → List ℕ → ℕ → Members
exit_members code job run = of_count (codes "code") code (of_event (codes "ended") (of_job job (of_count (codes "run") run no_members)))

exit_text : (code : ℕ) (job : List ℕ) (run : ℕ)
    → codes "{\"code\":" ++ (decimal code ++ (codes ",\"ev\":\"ended\",\"job\":" ++ (quoted job ++ (codes ",\"run\":" ++ (decimal run ++ codes "}"))))) ≡ compact_text (object (exit_members code job run))
unfolding serde_json_on_literals
exit_text code job run = refl

pub exit_told : (bytes rest more job : List ℕ) (code run : ℕ) → IsNumberAfter [] bytes code rest → rest ≡ codes ",\"ev\":\"ended\",\"job\":\"" ++ more → IsRunOf more job run → code < 256
    → event_at (codes "{\"code\":" ++ bytes) ≡ Some (events.OfJob job (happens.Ended run (Code code)))
exit_told bytes rest more job code run c is j small =
    told (events.OfJob job (happens.Ended run (Code code))) (exit_members code job run) (codes "{\"code\":" ++ bytes)
    (ap (λ b. codes "{\"code\":" ++ b) (c.0 ∙ ap (λ b. decimal code ++ b) (is ∙ in_quotes (codes ",\"ev\":\"ended\",\"job\":") more job _ j.0.0)) ∙ exit_text code job run)
    (refl, c.1, (refl, ascii (codes "ended") refl, (refl, j.0.0.2, (refl, j.1, tt)))) refl refl
    (both (is_label job) (nat_lt code 256) j.0.1 (below code 256 small))

-- ---- connections

abbrev connection_members : ℕ → List ℕ → List ℕ → Members
connection_members conn name job = of_count (codes "conn") conn (of_event name (of_job job no_members))

came_text : (conn : ℕ) (job : List ℕ) → codes "{\"conn\":" ++ (decimal conn ++ (codes ",\"ev\":\"came\",\"job\":" ++ (quoted job ++ codes "}"))) ≡ compact_text (object (connection_members conn (codes "came") job))
unfolding serde_json_on_literals
came_text conn job = refl

left_text : (conn : ℕ) (job : List ℕ) → codes "{\"conn\":" ++ (decimal conn ++ (codes ",\"ev\":\"left\",\"job\":" ++ (quoted job ++ codes "}"))) ≡ compact_text (object (connection_members conn (codes "left") job))
unfolding serde_json_on_literals
left_text conn job = refl

pub came_told : (bytes rest more job : List ℕ) (conn : ℕ) → IsNumberAfter [] bytes conn rest → rest ≡ codes ",\"ev\":\"came\",\"job\":\"" ++ more → IsLabelThen more job (codes "}")
    → event_at (codes "{\"conn\":" ++ bytes) ≡ Some (events.OfJob job (happens.Came conn))
came_told bytes rest more job conn c is j =
    told (events.OfJob job (happens.Came conn)) (connection_members conn (codes "came") job) (codes "{\"conn\":" ++ bytes)
    (ap (λ b. codes "{\"conn\":" ++ b) (c.0 ∙ ap (λ b. decimal conn ++ b) (is ∙ in_quotes (codes ",\"ev\":\"came\",\"job\":") more job (codes "}") j.0)) ∙ came_text conn job)
    (refl, c.1, (refl, ascii (codes "came") refl, (refl, j.0.2, tt))) refl refl (both (is_label job) true j.1 refl)

pub left_told : (bytes rest more job : List ℕ) (conn : ℕ) → IsNumberAfter [] bytes conn rest → rest ≡ codes ",\"ev\":\"left\",\"job\":\"" ++ more → IsLabelThen more job (codes "}")
    → event_at (codes "{\"conn\":" ++ bytes) ≡ Some (events.OfJob job (happens.Left conn))
left_told bytes rest more job conn c is j =
    told (events.OfJob job (happens.Left conn)) (connection_members conn (codes "left") job) (codes "{\"conn\":" ++ bytes)
    (ap (λ b. codes "{\"conn\":" ++ b) (c.0 ∙ ap (λ b. decimal conn ++ b) (is ∙ in_quotes (codes ",\"ev\":\"left\",\"job\":") more job (codes "}") j.0)) ∙ left_text conn job)
    (refl, c.1, (refl, ascii (codes "left") refl, (refl, j.0.2, tt))) refl refl (both (is_label job) true j.1 refl)

-- ---- answers, and events of a run alone

abbrev answer_members : List ℕ → List ℕ → Bool → ℕ → Members
answer_members name job ok run = of_event name (of_job job (of_flag (codes "ok") ok (of_count (codes "run") run no_members)))

abbrev answer_tail : Bool → ℕ → List ℕ
answer_tail ok run = codes ",\"ok\":" ++ (compact_text (boolean ok) ++ (codes ",\"run\":" ++ (decimal run ++ codes "}")))

termed_text : (job : List ℕ) (ok : Bool) (run : ℕ) → codes "{\"ev\":\"termed\",\"job\":" ++ (quoted job ++ answer_tail ok run) ≡ compact_text (object (answer_members (codes "termed") job ok run))
unfolding serde_json_on_literals
termed_text job ok run = refl

killed_text : (job : List ℕ) (ok : Bool) (run : ℕ) → codes "{\"ev\":\"killed\",\"job\":" ++ (quoted job ++ answer_tail ok run) ≡ compact_text (object (answer_members (codes "killed") job ok run))
unfolding serde_json_on_literals
killed_text job ok run = refl

pub termed_told : (bytes job : List ℕ) (ok : Bool) (run : ℕ) → IsAnswerOf bytes job ok run → event_at (codes "{\"ev\":\"termed\",\"job\":\"" ++ bytes) ≡ Some (events.OfJob job (happens.Answered (answers.Termed run ok)))
termed_told bytes job ok run j =
    told (events.OfJob job (happens.Answered (answers.Termed run ok))) (answer_members (codes "termed") job ok run) (codes "{\"ev\":\"termed\",\"job\":\"" ++ bytes)
    (in_quotes (codes "{\"ev\":\"termed\",\"job\":") bytes job (answer_tail ok run) j.0.0 ∙ termed_text job ok run)
    (refl, ascii (codes "termed") refl, (refl, j.0.0.2, (refl, tt, (refl, j.1, tt)))) refl refl (both (is_label job) true j.0.1 refl)

pub killed_told : (bytes job : List ℕ) (ok : Bool) (run : ℕ) → IsAnswerOf bytes job ok run → event_at (codes "{\"ev\":\"killed\",\"job\":\"" ++ bytes) ≡ Some (events.OfJob job (happens.Answered (answers.Killed run ok)))
killed_told bytes job ok run j =
    told (events.OfJob job (happens.Answered (answers.Killed run ok))) (answer_members (codes "killed") job ok run) (codes "{\"ev\":\"killed\",\"job\":\"" ++ bytes)
    (in_quotes (codes "{\"ev\":\"killed\",\"job\":") bytes job (answer_tail ok run) j.0.0 ∙ killed_text job ok run)
    (refl, ascii (codes "killed") refl, (refl, j.0.0.2, (refl, tt, (refl, j.1, tt)))) refl refl (both (is_label job) true j.0.1 refl)

abbrev run_members : List ℕ → List ℕ → ℕ → Members
run_members name job run = of_event name (of_job job (of_count (codes "run") run no_members))

abbrev run_tail : ℕ → List ℕ
run_tail run = codes ",\"run\":" ++ (decimal run ++ codes "}")

spawn_refused_text : (job : List ℕ) (run : ℕ) → codes "{\"ev\":\"spawn_refused\",\"job\":" ++ (quoted job ++ run_tail run) ≡ compact_text (object (run_members (codes "spawn_refused") job run))
unfolding serde_json_on_literals
spawn_refused_text job run = refl

wait_refused_text : (job : List ℕ) (run : ℕ) → codes "{\"ev\":\"wait_refused\",\"job\":" ++ (quoted job ++ run_tail run) ≡ compact_text (object (run_members (codes "wait_refused") job run))
unfolding serde_json_on_literals
wait_refused_text job run = refl

pub spawn_refused_told : (bytes job : List ℕ) (run : ℕ) → IsRunOf bytes job run → event_at (codes "{\"ev\":\"spawn_refused\",\"job\":\"" ++ bytes) ≡ Some (events.OfJob job (happens.Answered (answers.SpawnRefused run)))
spawn_refused_told bytes job run j =
    told (events.OfJob job (happens.Answered (answers.SpawnRefused run))) (run_members (codes "spawn_refused") job run) (codes "{\"ev\":\"spawn_refused\",\"job\":\"" ++ bytes)
    (in_quotes (codes "{\"ev\":\"spawn_refused\",\"job\":") bytes job (run_tail run) j.0.0 ∙ spawn_refused_text job run)
    (refl, ascii (codes "spawn_refused") refl, (refl, j.0.0.2, (refl, j.1, tt))) refl refl (both (is_label job) true j.0.1 refl)

pub wait_refused_told : (bytes job : List ℕ) (run : ℕ) → IsRunOf bytes job run → event_at (codes "{\"ev\":\"wait_refused\",\"job\":\"" ++ bytes) ≡ Some (events.OfJob job (happens.WaitRefused run))
wait_refused_told bytes job run j =
    told (events.OfJob job (happens.WaitRefused run)) (run_members (codes "wait_refused") job run) (codes "{\"ev\":\"wait_refused\",\"job\":\"" ++ bytes)
    (in_quotes (codes "{\"ev\":\"wait_refused\",\"job\":") bytes job (run_tail run) j.0.0 ∙ wait_refused_text job run)
    (refl, ascii (codes "wait_refused") refl, (refl, j.0.0.2, (refl, j.1, tt))) refl refl (both (is_label job) true j.0.1 refl)

-- ---- start and stop

abbrev ask_members : List ℕ → List ℕ → Members
ask_members name job = of_event name (of_job job no_members)

start_text : (job : List ℕ) → codes "{\"ev\":\"start\",\"job\":" ++ (quoted job ++ codes "}") ≡ compact_text (object (ask_members (codes "start") job))
unfolding serde_json_on_literals
start_text job = refl

stop_text : (job : List ℕ) → codes "{\"ev\":\"stop\",\"job\":" ++ (quoted job ++ codes "}") ≡ compact_text (object (ask_members (codes "stop") job))
unfolding serde_json_on_literals
stop_text job = refl

pub start_told : (bytes job : List ℕ) → IsLabelThen bytes job (codes "}") → event_at (codes "{\"ev\":\"start\",\"job\":\"" ++ bytes) ≡ Some (events.OfJob job (happens.Asked asks.Start))
start_told bytes job j =
    told (events.OfJob job (happens.Asked asks.Start)) (ask_members (codes "start") job) (codes "{\"ev\":\"start\",\"job\":\"" ++ bytes)
    (in_quotes (codes "{\"ev\":\"start\",\"job\":") bytes job (codes "}") j.0 ∙ start_text job)
    (refl, ascii (codes "start") refl, (refl, j.0.2, tt)) refl refl (both (is_label job) true j.1 refl)

pub stop_told : (bytes job : List ℕ) → IsLabelThen bytes job (codes "}") → event_at (codes "{\"ev\":\"stop\",\"job\":\"" ++ bytes) ≡ Some (events.OfJob job (happens.Asked asks.Stop))
stop_told bytes job j =
    told (events.OfJob job (happens.Asked asks.Stop)) (ask_members (codes "stop") job) (codes "{\"ev\":\"stop\",\"job\":\"" ++ bytes)
    (in_quotes (codes "{\"ev\":\"stop\",\"job\":") bytes job (codes "}") j.0 ∙ stop_text job)
    (refl, ascii (codes "stop") refl, (refl, j.0.2, tt)) refl refl (both (is_label job) true j.1 refl)
