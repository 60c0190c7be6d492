use Rattle.std.proofs.Common.{string_bytes, ◌≡◌, ◌++◌, ◌∷◌, [], chars, ◌∙◌, ap, sym, map-id, append-nil}
use Rattle.std.proofs.lemmas.Grind.{flat_map-append}
use Rattle.std.proofs.lemmas.Iterator.{YieldsList-from_chars}
use Rattle.std.proofs.lemmas.Iterator.Consumers.{YieldsList-end}
use Rattle.run_times.specs.Escape.{escaped, escaped_text}
use Rattle.run_times.proofs.escape.escaped.Goals as goal

pub loop-c-preserved : goal.loop-c-preserved
loop-c-preserved c =
    c.in_ok-add_char.ensures ∙ ap (λ bytes. bytes ++ escaped c.in-Some.c) c.loop-c.invariant
    ∙ ap (λ bytes. escaped_text c.loop-c.yielded ++ bytes) (sym (append-nil (escaped c.in-Some.c)))
    ∙ sym (flat_map-append escaped c.loop-c.yielded (c.in-Some.c ∷ []))

pub returns : goal.returns
returns c =
    let done = YieldsList-end (YieldsList-from_chars c.args.text.now c.utf8.text cc) c.loop-c.yielded _ c.loop-c.yielded_by _ _ c.in-None.is c.next.ensures.steps in
    let bytes : string_bytes c.loop-c.written ≡ escaped_text (chars c.args.text.now) =
    c.loop-c.invariant ∙ ap escaped_text (sym (map-id c.loop-c.yielded) ∙ done.0) in
    bytes
