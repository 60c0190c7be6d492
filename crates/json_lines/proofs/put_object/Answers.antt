use Rattle.std.proofs.Common.{◌++◌, refl, codes}
use Rattle.run_times.proofs.GrowingLemmas.{adds, adds_on}
use Rattle.json_lines.specs.Objects.{quoted}
use Rattle.json_lines.proofs.put_object.Goals as goal

pub returns : goal.returns
returns c =
    let a = c.args.page.now.writer in
    let b = c.put_front.new.writer in
    let d = c.put_quoted.new.writer in
    let e = c.put_members.new.page.writer in
    let f = c.put.new.self in
    let front = codes "{\"" ++ (c.args.key.now ++ codes "\":") in
    let name = quoted c.args.name.now in
    let (members, are, added) = c.put_members.ensures in (
      front ++ (name ++ (members ++ codes "}")),
      (members, are, refl),
      adds_on front (name ++ (members ++ codes "}")) a b f c.put_front.ensures
          (adds_on name (members ++ codes "}") b d f c.put_quoted.ensures (adds_on members (codes "}") d e f added (adds (codes "}") e f c.put.ensures.added c.put.ensures.kept))),
    )
