-- What stays true in the loop of `ignored::add_others_in_names`.
use Rattle.std.proofs.Common.{◌≡◌}
use Rattle.serde_json.specs.View.{members_view}
use Rattle.job_defs.specs.Ignored.{with_names, others_in_sockets}
use Rattle.job_defs.specs.GatheredNames.{names_of}
use Rattle.job_defs.proofs.ignored.add_others_in_names.Given as goal

abbrev pub invariant-loop-name : goal.invariant-loop-name
invariant-loop-name l =
    with_names (names_of l.names) (others_in_sockets (members_view l.name-iterator)) ≡ with_names (names_of l.fn.names) (others_in_sockets (members_view l.members.entries))
