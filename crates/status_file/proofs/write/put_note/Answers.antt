use Rattle.std.proofs.Common.{◌++◌, codes, Some}
use Rattle.status_file.specs.Tokens.{end_tokens, moment_tokens, refused_tokens}
use Rattle.status_file.proofs.LinesLemmas.{followed}
use Rattle.status_file.proofs.write.put_note.Goals as goal

pub returns : goal.returns
returns c =
    let note = c.args.note.now in
    let a = c.args.line.now in
    let b = c.put_moment.new.line in
    let d = c.put_moment-2.new.line in
    let e = c.put_moment-3.new.line in
    let f = c.put_moment-4.new.line in
    let g = c.put_end.new.line in
    let h = c.put_refused.new.line in
    let i = c.put_moment-5.new.line in
    let k = c.put_moment-6.new.line in
    let since = moment_tokens (codes "since") (Some note.since) in
    let started = moment_tokens (codes "started") note.started in
    let term = moment_tokens (codes "term") note.term in
    let kill = moment_tokens (codes "kill") note.kill in
    let end = end_tokens note.last_end in
    let refused = refused_tokens note.refused in
    let succeeded = moment_tokens (codes "succeeded") note.succeeded in
    let disabled = moment_tokens (codes "disabled_at") note.disabled_at in
    followed since (started ++ (term ++ (kill ++ (end ++ (refused ++ (succeeded ++ disabled)))))) a b k c.put_moment.ensures
    (followed started (term ++ (kill ++ (end ++ (refused ++ (succeeded ++ disabled))))) b d k c.put_moment-2.ensures
    (followed term (kill ++ (end ++ (refused ++ (succeeded ++ disabled)))) d e k c.put_moment-3.ensures
    (followed kill (end ++ (refused ++ (succeeded ++ disabled))) e f k c.put_moment-4.ensures
    (followed end (refused ++ (succeeded ++ disabled)) f g k c.put_end.ensures
    (followed refused (succeeded ++ disabled) g h k c.put_refused.ensures
    (followed succeeded disabled h i k c.put_moment-5.ensures c.put_moment-6.ensures))))))
