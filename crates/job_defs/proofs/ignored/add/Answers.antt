-- What the check of `ignored::add` does not find by itself.
use Rattle.std.proofs.Common.{◌≡◌, ◌∙◌, ◌++◌, map, string_bytes, ap, rules}
use Rattle.std.specs.Ordering.{nat_cmp}
use Rattle.std.specs.Cmp.Lexicographic.{slice_cmp}
use Rattle.std.specs.BTreeSet.{insert_key}
use Rattle.job_defs.specs.GatheredNames.{names_of}
use Rattle.job_defs.proofs.IgnoredLemmas.{inserted}
use Rattle.job_defs.proofs.ignored.add.Goals as goal

pub returns : goal.returns
returns c =
    let name = c.push_str-2.new.self in
    let bytes : string_bytes name ≡ c.args.prefix.now ++ c.args.key.now = search rules in
    ap (map string_bytes) c.in_ok-insert.ensures.keys ∙ inserted name c.args.names.now.keys ∙ ap (insert_key (slice_cmp nat_cmp) (names_of c.args.names.now)) bytes
