use Rattle.std.proofs.Common.{◌++◌}
use Rattle.status_file.specs.Tokens.{calendar_tokens, front_tokens, job_tokens, keys_tokens, moments_tokens, note_tokens, reasons_tokens}
use Rattle.status_file.proofs.LinesLemmas.{ended, followed}
use Rattle.status_file.proofs.write.add_job.Goals as goal

pub returns : goal.returns
returns c =
    let j = c.args.job.now in
    let a = c.begin-line.result in
    let b = c.put_front.new.line in
    let d = c.put_note.new.line in
    let e = c.put_reasons.new.line in
    let f = c.put_moments.new.line in
    let g = c.put_keys.new.line in
    let h = c.put_calendar.new.line in
    let front = front_tokens j in
    let note = note_tokens j.note in
    let reasons = reasons_tokens j.facts.reasons in
    let moments = moments_tokens j.facts in
    let keys = keys_tokens j.keys in
    let calendar = calendar_tokens c.args.calendar.now in
    ended (job_tokens j c.args.calendar.now) c.args.text.now c.end.new.self a h
    c.begin-line.ensures.refused c.begin-line.ensures.before c.begin-line.ensures.empty
    (followed front (note ++ (reasons ++ (moments ++ (keys ++ calendar)))) a b h c.put_front.ensures
    (followed note (reasons ++ (moments ++ (keys ++ calendar))) b d h c.put_note.ensures
    (followed reasons (moments ++ (keys ++ calendar)) d e h c.put_reasons.ensures
    (followed moments (keys ++ calendar) e f h c.put_moments.ensures
    (followed keys calendar f g h c.put_keys.ensures c.put_calendar.ensures)))))
    c.end.ensures.taken c.end.ensures.kept
