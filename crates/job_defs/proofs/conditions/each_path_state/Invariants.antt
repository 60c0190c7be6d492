-- What stays true in the loop of `conditions::each_path_state`.
use Rattle.std.proofs.Common.{◌≡◌, ◌+◌, length, vec_len}
use Rattle.serde_json.specs.View.{members_view}
use Rattle.json_kinds.specs.JsonKinds.{each_member}
use Rattle.job_defs.specs.Conditions.{path_state_in}
use Rattle.json_kinds.proofs.KindsLemmas.{with_front}
use Rattle.job_defs.proofs.conditions.each_path_state.Given as goal

abbrev pub invariant-loop-path : goal.invariant-loop-path
invariant-loop-path l =
    (vec_len l.paths + length l.path-iterator ≡ length l.members.entries)
    × (with_front l.paths.items (each_member path_state_in (members_view l.path-iterator)) ≡ each_member path_state_in (members_view l.members.entries))
