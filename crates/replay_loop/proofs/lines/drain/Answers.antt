-- What the check of `lines::drain` does not find by itself.
use Rattle.std.proofs.Common.{[], ◌∷◌, ◌++◌, true, false, refl, sym, ap, ◌∙◌, subst, append_assoc, append-nil}
use Rattle.replay_loop.specs.Handling.{HandlesNext, Leads}
use Rattle.replay_loop.proofs.HandlingLemmas.{nothing_leads, leads_more, ends_later}
use Rattle.replay_loop.proofs.lines.drain.Goals as goal

pub lines-preserved : goal.lines-preserved
lines-preserved g c =
    let (done, split, same, handled) = c.lines.invariant in
    let l = c.lines in
    let k = c.handle_next.new in
    let output = g.M.LineMachine.output in
    let will_write = g.M.LineMachine.will_write in
    let next : HandlesNext output will_write true l.feed k.feed (record { old = l.stage; new = k.stage; held = (g.W.Write.contents l.writer); holds = (g.W.Write.contents k.writer) }) = rw c.in-Ok-true.field-0-test at c.in-Ok-true.ensures.ok in
    let (line, first, kept, now) = next in (
      done ++ line ∷ [],
      split ∙ ap (λ ls. done ++ ls) first ∙ sym (append_assoc done (line ∷ []) k.feed.lines),
      kept ∙ same,
      leads_more output will_write c.args.stage.now l.stage k.stage (g.W.Write.contents c.args.writer.now) (g.W.Write.contents l.writer) (g.W.Write.contents k.writer) done (line ∷ []) handled now,
    )

pub returns-in-Err-clause-err : goal.returns-in-Err-clause-err
returns-in-Err-clause-err g c =
    let (done, split, same, handled) = c.lines.invariant in
    let l = c.lines in
    ends_later g.M.LineMachine.output g.M.LineMachine.will_write c.in-Err.e c.args.stage.now l.stage (g.W.Write.contents c.args.writer.now) (g.W.Write.contents l.writer) (g.W.Write.contents c.handle_next.new.writer)
    done l.feed.lines [] c.args.feed.now.lines (split ∙ ap (λ ls. done ++ ls) (sym (append-nil l.feed.lines))) handled c.in-Err.ensures.err

pub lines-init : goal.lines-init
lines-init g c = ([], refl, refl, nothing_leads g.M.LineMachine.output g.M.LineMachine.will_write c.args.stage.now (g.W.Write.contents c.args.writer.now))

pub returns-in-Ok-false-clause-ok : goal.returns-in-Ok-false-clause-ok
returns-in-Ok-false-clause-ok g c =
    let (done, split, same, handled) = c.lines.invariant in
    let l = c.lines in
    let k = c.handle_next.new in
    let output = g.M.LineMachine.output in
    let will_write = g.M.LineMachine.will_write in
    let held = g.W.Write.contents c.args.writer.now in
    let holds = g.W.Write.contents k.writer in
    let next : HandlesNext output will_write false l.feed k.feed (record { old = l.stage; new = k.stage; held = (g.W.Write.contents l.writer); holds = holds }) = rw c.in-Ok-false.field-0-test at c.in-Ok-false.ensures.ok in
    let (none, as_it_was, now) = next in
    subst (Leads output will_write (record { old = c.args.stage.now; new = k.stage; held = held; holds = holds })) (sym (split ∙ ap (λ ls. done ++ ls) none))
    (leads_more output will_write c.args.stage.now l.stage k.stage held (g.W.Write.contents l.writer) holds done [] handled now)
