use Rattle.std.proofs.Common.{◌≡◌, chars, ◌∙◌, sym, subst, map-id}
use Rattle.std.specs.List.{flat_map}
use Rattle.std.proofs.lemmas.Iterator.{YieldsList-from_chars}
use Rattle.std.proofs.lemmas.Iterator.Consumers.{YieldsList-end}
use Rattle.run_times.specs.Written.{Adds}
use Rattle.run_times.proofs.GrowingLemmas.{adds_none}
use Rattle.json_lines.specs.Objects.{text_char}
use Rattle.json_lines.proofs.MembersLemmas.{adds_more}
use Rattle.json_lines.proofs.put_chars.Goals as goal

pub loop-c-init : goal.loop-c-init
loop-c-init c = adds_none c.args.writer.now

pub loop-c-preserved : goal.loop-c-preserved
loop-c-preserved c =
    adds_more text_char c.loop-c.yielded c.in-Some.c c.args.writer.now c.loop-c.writer c.put_text_char.new.writer c.loop-c.invariant c.put_text_char.ensures

pub returns : goal.returns
returns c =
    let done = YieldsList-end (YieldsList-from_chars c.args.text.now c.utf8.text cc) c.loop-c.yielded _ c.loop-c.yielded_by _ _ c.in-None.is c.next.ensures.steps in
    let all : c.loop-c.yielded ≡ chars c.args.text.now = sym (map-id c.loop-c.yielded) ∙ done.0 in
    subst (λ cs. Adds (flat_map text_char cs) c.args.writer.now c.loop-c.writer) all c.loop-c.invariant
