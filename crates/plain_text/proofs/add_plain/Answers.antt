use Rattle.std.proofs.Common.{string_bytes, ◌≡◌, ◌++◌, chars, ◌∙◌, ap, sym, map-id}
use Rattle.std.proofs.lemmas.Iterator.{YieldsList-from_chars}
use Rattle.std.proofs.lemmas.Iterator.Consumers.{YieldsList-end}
use Rattle.plain_text.specs.Plain.{plain_text}
use Rattle.plain_text.proofs.add_plain.Goals as goal

pub returns : goal.returns
returns c =
    let done = YieldsList-end (YieldsList-from_chars c.args.text.now c.utf8.text cc) c.loop-c.yielded _ c.loop-c.yielded_by _ _ c.in-None.is c.next.ensures.steps in
    let bytes : string_bytes c.loop-c.to ≡ string_bytes c.args.to.now ++ plain_text (chars c.args.text.now) =
    c.loop-c.invariant ∙ ap (λ cs. string_bytes c.args.to.now ++ plain_text cs) (sym (map-id c.loop-c.yielded) ∙ done.0) in
    bytes
