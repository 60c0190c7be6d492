-- What stays true in the loop of `ignored::add_others`.
use Rattle.std.proofs.Common.{◌≡◌}
use Rattle.serde_json.specs.View.{members_view}
use Rattle.json_kinds.specs.JsonKinds.{texts_in}
use Rattle.job_defs.specs.Ignored.{with_names, others}
use Rattle.job_defs.specs.GatheredNames.{names_of}
use Rattle.job_defs.proofs.ignored.add_others.Given as goal

abbrev pub invariant-loop-name : goal.invariant-loop-name
invariant-loop-name l =
    with_names (names_of l.names) (others l.prefix (texts_in l.known) (members_view l.name-iterator))
    ≡ with_names (names_of l.fn.names) (others l.prefix (texts_in l.known) (members_view l.members.entries))
