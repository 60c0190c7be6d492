-- A medium stays frozen if the one that it is does.
use Rattle.startup.proofs.MediumLemmas.{plain-stays, copied-stays}
use Rattle.startup.proofs.medium.MediumDisk.set_len.Goals as goal

pub returns-in-Plain-clause-frozen : goal.returns-in-Plain-clause-frozen
returns-in-Plain-clause-frozen g c =
    plain-stays g.F.Disk.seen g.C.Disk.seen g.F.Disk.may_leave g.C.Disk.may_leave g.F.Disk.is_clean g.C.Disk.is_clean g.F.Disk.is_frozen g.C.Disk.is_frozen c.args.self.now c.in-Plain.file c.set_len.new.self c.set_len.result c.in-Plain.is c.set_len.ensures.frozen

pub returns-in-Copied-clause-frozen : goal.returns-in-Copied-clause-frozen
returns-in-Copied-clause-frozen g c =
    copied-stays g.F.Disk.seen g.C.Disk.seen g.F.Disk.may_leave g.C.Disk.may_leave g.F.Disk.is_clean g.C.Disk.is_clean g.F.Disk.is_frozen g.C.Disk.is_frozen c.args.self.now c.in-Copied.copy c.set_len-in-Copied.new.self c.set_len-in-Copied.result c.in-Copied.is c.set_len-in-Copied.ensures.frozen
