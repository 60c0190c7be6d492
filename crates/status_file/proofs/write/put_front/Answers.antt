use Rattle.std.proofs.Common.{◌++◌, subst}
use Rattle.status_file.specs.Lines.{Puts}
use Rattle.status_file.specs.States.{state_by_reasons}
use Rattle.status_file.specs.Tokens.{child_pid, counts_tokens, loaded_tokens, name_tokens}
use Rattle.status_file.proofs.LinesLemmas.{followed}
use Rattle.status_file.proofs.write.put_front.Goals as goal

pub returns : goal.returns
returns c =
    let j = c.args.job.now in
    let a = c.args.line.now in
    let b = c.put_name.new.line in
    let d = c.put_counts.new.line in
    let e = c.put_loaded.new.line in
    let name = name_tokens j.label.now (state_by_reasons j.facts.reasons) in
    let counts = counts_tokens (child_pid j.facts.reasons.child) j.note.run j.note.starts j.note.unsuccessful j.note.refusals j.facts.reasons.wants.connections in
    let last = loaded_tokens j.disabled j.note.definition in
    followed name (counts ++ last) a b e (subst (λ s. Puts (name_tokens j.label.now s) a b) c.state_of.ensures c.put_name.ensures)
    (followed counts last b d e
    (subst (λ p. Puts (counts_tokens p j.note.run j.note.starts j.note.unsuccessful j.note.refusals j.facts.reasons.wants.connections) b d) c.child_pid.ensures c.put_counts.ensures)
    c.put_loaded.ensures)
