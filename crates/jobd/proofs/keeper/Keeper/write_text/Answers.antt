-- What comes before the lines of jobs is the launcher's.
use Rattle.jobd.proofs.keeper.Keeper.write_text.Goals as goal

pub returns : goal.returns
returns c = λ whole.
    let (lines, is, all) = c.add_jobs.ensures.added (c.is_whole.ensures whole) in
    (c.add_launcher.new.text.bytes.items, lines, is, all)
