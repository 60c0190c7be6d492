-- What stays true in the loop of `sockets::each_name`.
use Rattle.std.proofs.Common.{◌≡◌}
use Rattle.serde_json.specs.View.{members_view}
use Rattle.json_kinds.specs.JsonKinds.{each_member}
use Rattle.job_defs.specs.Sockets.{sockets_in}
use Rattle.json_kinds.proofs.KindsLemmas.{with_front}
use Rattle.job_defs.proofs.sockets.each_name.Given as goal

abbrev pub invariant-loop-found : goal.invariant-loop-found
invariant-loop-found l = with_front l.sockets.items (each_member sockets_in (members_view l.found-iterator)) ≡ each_member sockets_in (members_view l.members.entries)
