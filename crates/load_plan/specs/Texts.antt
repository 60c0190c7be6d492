-- What is printed for a step: what is done, and why a job is left.
use Rattle.std.specs.Prelude.{ℕ, Bool, true, false, List, [], ◌∷◌, Option, find, codes}
use Rattle.std.specs.Str.{bytes_eq}
use Rattle.load_plan.specs.declared.Reason.{Reason}
use Rattle.load_plan.specs.declared.Reason.TheVariants.{Runs, Goes, Several, Refused, Unread, LeftAtBoot, Disabled, Orphan, UnreadBeside, Warned, ShutsDown, Meanwhile}
use Rattle.load_plan.specs.declared.Operation.{Operation}
use Rattle.load_plan.specs.declared.Operation.TheVariants.{Load, Replace, Unload, Leave}

-- why a job is left as it is
abbrev pub reason_text : Reason → List ℕ
reason_text Runs = codes "its run would be ended"
reason_text Goes = codes "it is still being removed"
reason_text Several = codes "several files name it, and not one alone is named for it"
reason_text Refused = codes "its definition would be refused"
reason_text Unread = codes "its file can't be read"
reason_text LeftAtBoot = codes "a boot would leave its file out"
reason_text Disabled = codes "its label is disabled"
reason_text Orphan = codes "no file names it any more"
reason_text UnreadBeside = codes "no file names it any more, but one of them can't be read"
reason_text Warned = codes "there is a warning (--strict)"
reason_text ShutsDown = codes "the launcher shuts down"
reason_text Meanwhile = codes "it was loaded meanwhile"

abbrev pub reasons : List Reason
reasons = Runs ∷ Goes ∷ Several ∷ Refused ∷ Unread ∷ LeftAtBoot ∷ Disabled ∷ Orphan ∷ UnreadBeside ∷ Warned ∷ ShutsDown ∷ Meanwhile ∷ []

-- the reason that a text names
abbrev pub reason_named : List ℕ → Option Reason
reason_named text = find (λ reason. bytes_eq (reason_text reason) text) reasons

-- what is printed for a job that is left
abbrev pub left_word : Reason → List ℕ
left_word Runs = codes "running"
left_word Goes = codes "waits"
left_word Several = codes "twice"
left_word Refused = codes "refused"
left_word Unread = codes "unread"
left_word LeftAtBoot = codes "at boot"
left_word Disabled = codes "disabled"
left_word Orphan = codes "orphan"
left_word UnreadBeside = codes "orphan"
left_word Warned = codes "warned"
left_word ShutsDown = codes "shutdown"
left_word Meanwhile = codes "loaded"

-- what is printed for what is done at a label; if it is unloaded, it says whether its file has another label now
abbrev pub operation_word : Operation → Bool → List ℕ
operation_word (Load file) renamed = codes "new"
operation_word (Replace file) renamed = codes "changed"
operation_word Unload true = codes "renamed"
operation_word Unload false = codes "orphan"
operation_word (Leave why) renamed = left_word why
