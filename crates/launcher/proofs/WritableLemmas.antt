-- What comes can be written: what clients ask by the shapes of their lines, all else by its type.
use Rattle.std.proofs.Common.{◌≡◌, ℕ, ◌<◌, ◌^◌, List, [], ◌∷◌, Bool, true, false, nat_lt, Option, Some, None, refl, sym, subst, arith}
use Rattle.std.specs.Prelude.{IfSome, IsUtf8, codes, if◌then◌else◌, option_and_then, option_map}
use Rattle.std.specs.Str.{bytes_eq}
use Rattle.std.proofs.lemmas.Bool.{and_from}
use Rattle.std.proofs.lemmas.Bool.Decides.{nat_tests}
use Rattle.std.specs.Borrow.{Bor}
use Rattle.serde_json.specs.Data.{Data}
use Rattle.history_model.specs.declared.Reading.{Reading}
use Rattle.history_model.specs.declared.Obs.{Obs}
use Rattle.history_model.specs.declared.Ended.TheVariants.{Code, Signal}
use Rattle.history_model.specs.declared.event.Event.{Event}
use Rattle.history_model.specs.declared.event.Event.TheVariants as events
use Rattle.history_model.specs.declared.event.JobItem.TheVariants as happens
use Rattle.history_model.specs.declared.Ask.{Ask}
use Rattle.history_model.specs.declared.Ask.TheVariants as asks
use Rattle.history_model.specs.Labels.{is_label}
use Rattle.json_kinds.specs.Json.{json_in}
use Rattle.ctl_protocol.specs.declared.members.Form.{Form}
use Rattle.ctl_protocol.specs.declared.members.Form.TheVariants as forms
use Rattle.ctl_protocol.specs.Targets.{if_label as label_if, behind_domain, label_named}
use Rattle.ctl_protocol.specs.Members.{◌>>=◌, text_key, flag_or, label_key, target_key, tag_of}
use Rattle.ctl_protocol.specs.EventLines.{has_load_keys, load_shape, unload_shape, job_shape, target_shape, kickstart_shape, bare_shape, asked_shape, request_shape_of, request_at}
use Rattle.ctl_protocol.specs.EventWriter.{is_request}
use Rattle.ctl_protocol.specs.declared.request.Request.{Request}
use Rattle.ctl_protocol.specs.declared.request.Request.TheVariants as requests
use Rattle.ctl_protocol.specs.Requests.{event_with, unasked}
use Rattle.launcher.specs.declared.input.Input.TheVariants as inputs
use Rattle.launcher.specs.Inputs.{asked, event_if_label, happened}
use Rattle.launcher.specs.Writable.{SaysFit, IsWritable, IsWritableIf, IsWritableInput}

-- ---- what is read of a request names a label

bound : {A B : Type 0} (Q : A → Type 0) (P : B → Type 0) (o : Option A) (f : A → Option B) → IfSome o Q → ((x : A) → Q x → IfSome (f x) P) → IfSome (o >>= f) P
bound Q P None f has gives = tt
bound Q P (Some x) f has gives = gives x has

after : {A B : Type 0} (P : B → Type 0) (o : Option A) (f : A → Option B) → ((x : A) → IfSome (f x) P) → IfSome (o >>= f) P
after P None f gives = tt
after P (Some x) f gives = gives x

among : {B : Type 0} (P : B → Type 0) (b : Bool) (o rest : Option B) → IfSome o P → IfSome rest P → IfSome (if b then o else rest) P
among P true o rest has other = has
among P false o rest has other = other

abbrev IsNamed : List ℕ → Type 0
IsNamed job = is_label job ≡ true

abbrev HasLabel : Request → Type 0
HasLabel r = is_request r ≡ true

labelled_if : (text : List ℕ) → IfSome (label_if text) IsNamed
labelled_if text = go (is_label text) refl where
  go : (b : Bool) → is_label text ≡ b → IfSome (if b then Some text else None) IsNamed
  go true is = is
  go false is = tt

labelled_key : (key : List ℕ) (d : Data) → IfSome (label_key key d) IsNamed
unfolding label_key
labelled_key key d = after IsNamed (text_key key d) label_if labelled_if

labelled_named : (text : List ℕ) → IfSome (label_named text) IsNamed
unfolding label_named
labelled_named text = go (behind_domain text) where
  go : (o : Option (List ℕ)) → IfSome (option_and_then label_if o) IsNamed
  go None = tt
  go (Some t) = labelled_if t

labelled_target : (key : List ℕ) (d : Data) → IfSome (target_key key d) IsNamed
unfolding target_key
labelled_target key d = after IsNamed (text_key key d) label_named labelled_named

load_labels : (form : Form) (d : Data) → IfSome (load_shape form d) HasLabel
unfolding load_shape
load_labels form d =
    among HasLabel (has_load_keys form d) _ None
    (after HasLabel (text_key (codes "def") d) _ (λ def. after HasLabel (flag_or (codes "w") false d) _ (λ w. after HasLabel (flag_or (codes "F") false d) _
    (λ force. refl)))) tt

unload_labels : (form : Form) (d : Data) → IfSome (unload_shape form d) HasLabel
unfolding unload_shape
unload_labels form d =
    among HasLabel _ _ None (bound IsNamed HasLabel (label_key (codes "job") d) _ (labelled_key (codes "job") d)
    (λ job is. after HasLabel (flag_or (codes "w") false d) _ (λ w. is))) tt

job_labels : (ask : Ask) (form : Form) (d : Data) → ((job : List ℕ) → IsNamed job → HasLabel (requests.Ask job ask)) → IfSome (job_shape ask form d) HasLabel
unfolding job_shape
job_labels ask form d has = among HasLabel _ _ None (bound IsNamed HasLabel (label_key (codes "job") d) _ (labelled_key (codes "job") d) has) tt

target_labels : (answers : List (List ℕ)) (form : Form) (d : Data) → IfSome (target_shape answers form d) IsNamed
unfolding target_shape
target_labels answers form d = among IsNamed _ _ None (labelled_target (codes "job") d) tt

kickstart_labels : (form : Form) (d : Data) → IfSome (kickstart_shape form d) HasLabel
unfolding kickstart_shape
kickstart_labels form d =
    among HasLabel _ _ None (bound IsNamed HasLabel (target_key (codes "job") d) _ (labelled_target (codes "job") d) (λ job is. after HasLabel (flag_or (codes "k") false d) _ (λ k. and_from (is_label job) true is refl))) tt

bare_labels : (r : Request) (form : Form) (d : Data) → HasLabel r → IfSome (bare_shape r form d) HasLabel
unfolding bare_shape
bare_labels r form d is = among HasLabel _ (Some r) None is tt

asked_labels : (name : List ℕ) (form : Form) (d : Data) → IfSome (asked_shape name form d) HasLabel
unfolding asked_shape
asked_labels name form d =
    among HasLabel (bytes_eq name (codes "load")) _ _ (load_labels form d)
    (among HasLabel (bytes_eq name (codes "unload")) _ _ (unload_labels form d)
    (among HasLabel (bytes_eq name (codes "start")) _ _ (job_labels asks.Start form d (λ job is. and_from (is_label job) true is refl))
    (among HasLabel (bytes_eq name (codes "stop")) _ _ (job_labels asks.Stop form d (λ job is. and_from (is_label job) true is refl))
    (among HasLabel (bytes_eq name (codes "kickstart")) _ _ (kickstart_labels form d)
    (among HasLabel (bytes_eq name (codes "enable")) _ _ (bound IsNamed HasLabel (target_shape (codes "store" ∷ []) form d) _ (target_labels (codes "store" ∷ []) form d) (λ job is. is))
    (among HasLabel (bytes_eq name (codes "disable")) _ _ (bound IsNamed HasLabel (target_shape (codes "store" ∷ []) form d) _ (target_labels (codes "store" ∷ []) form d) (λ job is. is))
    (among HasLabel (bytes_eq name (codes "list")) _ _ (bare_labels requests.List form d refl)
    (among HasLabel (bytes_eq name (codes "print")) _ _ (bound IsNamed HasLabel (target_shape [] form d) _ (target_labels [] form d) (λ job is. is))
    (among HasLabel (bytes_eq name (codes "shutdown")) _ _ (bare_labels requests.Shutdown form d refl) tt)))))))))

request_labels : (line : List ℕ) → IfSome (request_at line) HasLabel
unfolding request_at request_shape_of
request_labels line = after HasLabel (json_in line) request_shape_of (λ d. after HasLabel (text_key (tag_of forms.Request) d) _ (λ name. asked_labels name forms.Request d))

-- what a client asks of a job says no more than its label, and a flag
pub ask_fits : (job : List ℕ) (ask : Ask) → IsUtf8 job → SaysFit (events.OfJob job (happens.Asked ask))
ask_fits job asks.Start text = (text, tt)
ask_fits job asks.Stop text = (text, tt)
ask_fits job (asks.Kickstart kills_first) text = (text, (tt, tt))
ask_fits job asks.Unload text = (text, tt)
ask_fits job asks.Shutdown text = (text, tt)

-- a line that asks for this can be written
pub line_writable : (line : List ℕ) (r : Request) → request_at line ≡ Some r → SaysFit (event_with unasked r) → IsWritableIf (option_map asked (request_at line))
line_writable line r is fit =
    subst (λ (o : Option Request). IsWritableIf (option_map asked o)) (sym is) (record { writable = subst (λ (o : Option Request). IfSome o HasLabel) is (request_labels line); fit = fit })

-- and so can one that asks for nothing
pub no_line_writable : (line : List ℕ) → request_at line ≡ None → IsWritableIf (option_map asked (request_at line))
no_line_writable line is = subst (λ (o : Option Request). IsWritableIf (option_map asked o)) (sym is) tt

-- ---- all else by its type

-- under a name that is not a label nothing is heard
if_writable : (job : List ℕ) (e : Event) → (is_label job ≡ true → IsWritable e) → IsWritableIf (event_if_label job e)
if_writable job e says = go (is_label job) refl where
  go : (b : Bool) → is_label job ≡ b → IsWritableIf (if b then Some (happened e) else None)
  go true is = says is
  go false is = tt

pub clock_writable : (at : Reading) → at.up < 2 ^ 64 → at.wall < 2 ^ 64 → IsWritableInput (inputs.Clock at)
clock_writable at up wall = record { writable = refl; fit = (up, (wall, tt)) }

pub saw_writable : (path : Bor (List ℕ)) (obs : Obs) → IsUtf8 path.now → obs.stamp < 2 ^ 64 → IsWritableInput (inputs.Saw path obs)
saw_writable path obs text stamp = record { writable = refl; fit = (tt, (tt, (text, (stamp, tt)))) }

pub came_writable : (job : Bor (List ℕ)) (conn : ℕ) → IsUtf8 job.now → conn < 2 ^ 64 → IsWritableInput (inputs.Came job conn)
came_writable job conn text number = if_writable job.now (events.OfJob job.now (happens.Came conn)) (λ is. record { writable = and_from (is_label job.now) true is refl; fit = (number, (text, tt)) })

pub left_writable : (job : Bor (List ℕ)) (conn : ℕ) → IsUtf8 job.now → conn < 2 ^ 64 → IsWritableInput (inputs.Left job conn)
left_writable job conn text number = if_writable job.now (events.OfJob job.now (happens.Left conn)) (λ is. record { writable = and_from (is_label job.now) true is refl; fit = (number, (text, tt)) })

pub refused_writable : (job : Bor (List ℕ)) (run : ℕ) → IsUtf8 job.now → run < 2 ^ 64 → IsWritableInput (inputs.WaitRefused job run)
refused_writable job run text number = if_writable job.now (events.OfJob job.now (happens.WaitRefused run)) (λ is. record { writable = and_from (is_label job.now) true is refl; fit = (text, (number, tt)) })

byte_is : (n : ℕ) → n < 2 ^ 8 → nat_lt n 256 ≡ true
byte_is n few = grind (arith, nat_tests, few)

byte_fits : (n : ℕ) → n < 2 ^ 8 → n < 2 ^ 64
byte_fits n few = omega (arith, few)

pub code_writable : (job : Bor (List ℕ)) (run n : ℕ) → IsUtf8 job.now → run < 2 ^ 64 → n < 2 ^ 8 → IsWritableInput (inputs.Ended job run (Code n))
code_writable job run n text number few =
    if_writable job.now (events.OfJob job.now (happens.Ended run (Code n))) (λ is. record { writable = and_from (is_label job.now) (nat_lt n 256) is (byte_is n few); fit = (byte_fits n few, (text, (number, tt))) })

pub signal_writable : (job : Bor (List ℕ)) (run n : ℕ) → IsUtf8 job.now → run < 2 ^ 64 → n < 2 ^ 8 → IsWritableInput (inputs.Ended job run (Signal n))
signal_writable job run n text number few =
    if_writable job.now (events.OfJob job.now (happens.Ended run (Signal n))) (λ is. record { writable = and_from (is_label job.now) (nat_lt n 256) is (byte_is n few); fit = (byte_fits n few, (text, (number, tt))) })
