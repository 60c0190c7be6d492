-- The bytes that were read are the file's, whichever of the two it is.
use Rattle.std.proofs.Common.{◌≡◌, ◌<◌, length, sym, subst}
use Rattle.std.specs.Prelude.{OnOk, IsTrue}
use Rattle.sqlite_disk.specs.Disk.{Holds}
use Rattle.startup.specs.Medium.{told}
use Rattle.startup.proofs.medium.MediumDisk.read_at.Goals as goal

pub returns-in-Plain-clause-read : goal.returns-in-Plain-clause-read
returns-in-Plain-clause-read g c =
    subst (λ medium. OnOk c.read_at.result (IsTrue (g.F.Disk.is_clean c.read_at.new.self) → 0 < length c.args.buf.now → Holds (told g.F.Disk.seen g.C.Disk.seen medium) c.args.at c.read_at.new.buf))
    (sym c.in-Plain.is) c.read_at.ensures.read

pub returns-in-Copied-clause-read : goal.returns-in-Copied-clause-read
returns-in-Copied-clause-read g c =
    subst (λ medium. OnOk c.read_at-in-Copied.result (IsTrue (g.C.Disk.is_clean c.read_at-in-Copied.new.self) → 0 < length c.args.buf.now → Holds (told g.F.Disk.seen g.C.Disk.seen medium) c.args.at c.read_at-in-Copied.new.buf))
    (sym c.in-Copied.is) c.read_at-in-Copied.ensures.read
