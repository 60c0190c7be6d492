use Rattle.std.proofs.Common.{◌++◌, codes, Some}
use Rattle.status_file.specs.Tokens.{binds_tokens, journal_tokens, launcher_tokens, moment_tokens, process_tokens, tallies_tokens}
use Rattle.status_file.proofs.LinesLemmas.{ended, followed}
use Rattle.status_file.proofs.write.add_launcher.Goals as goal

pub returns : goal.returns
returns c =
    let l = c.args.launcher.now in
    let a = c.begin-line.result in
    let b = c.put_process.new.line in
    let d = c.put_moment.new.line in
    let e = c.put_journal.new.line in
    let f = c.put_binds.new.line in
    let g = c.put_tallies.new.line in
    let process = process_tokens l in
    let at = moment_tokens (codes "at") (Some l.at) in
    let journal = journal_tokens l.journal in
    let binds = binds_tokens c.args.binds.now in
    let last = tallies_tokens l in
    ended (launcher_tokens l c.args.binds.now) c.args.text.now c.end.new.self a g
    c.begin-line.ensures.refused c.begin-line.ensures.before c.begin-line.ensures.empty
    (followed process (at ++ (journal ++ (binds ++ last))) a b g c.put_process.ensures
    (followed at (journal ++ (binds ++ last)) b d g c.put_moment.ensures
    (followed journal (binds ++ last) d e g c.put_journal.ensures
    (followed binds last e f g c.put_binds.ensures c.put_tallies.ensures))))
    c.end.ensures.taken c.end.ensures.kept
