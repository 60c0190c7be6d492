-- What stays true in the loop of `sockets::has_too_many`.
use Rattle.std.proofs.Common.{◌≡◌, ◌+◌, ◌≤◌}
use Rattle.serde_json.specs.View.{members_view}
use Rattle.job_defs.specs.Sockets.{socket_count}
use Rattle.job_defs.proofs.sockets.has_too_many.Given as goal

abbrev pub invariant-loop-found : goal.invariant-loop-found
invariant-loop-found l = (l.room ≤ 8) × (socket_count (members_view l.members.entries) + l.room ≡ 8 + socket_count (members_view l.found-iterator))
