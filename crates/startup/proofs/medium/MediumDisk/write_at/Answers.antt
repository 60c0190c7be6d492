-- A medium stays frozen if the one that it is does.
use Rattle.startup.proofs.MediumLemmas.{plain-stays, copied-stays}
use Rattle.startup.proofs.medium.MediumDisk.write_at.Goals as goal

pub returns-in-Plain-clause-frozen : goal.returns-in-Plain-clause-frozen
returns-in-Plain-clause-frozen g c =
    plain-stays g.F.Disk.seen g.C.Disk.seen g.F.Disk.may_leave g.C.Disk.may_leave g.F.Disk.is_clean g.C.Disk.is_clean g.F.Disk.is_frozen g.C.Disk.is_frozen c.args.self.now c.in-Plain.file c.write_at.new.self c.write_at.result c.in-Plain.is c.write_at.ensures.frozen

pub returns-in-Copied-clause-frozen : goal.returns-in-Copied-clause-frozen
returns-in-Copied-clause-frozen g c =
    copied-stays g.F.Disk.seen g.C.Disk.seen g.F.Disk.may_leave g.C.Disk.may_leave g.F.Disk.is_clean g.C.Disk.is_clean g.F.Disk.is_frozen g.C.Disk.is_frozen c.args.self.now c.in-Copied.copy c.write_at-in-Copied.new.self c.write_at-in-Copied.result c.in-Copied.is c.write_at-in-Copied.ensures.frozen
