-- What stays true in the loop of `surroundings::each_variable`.
use Rattle.std.proofs.Common.{◌≡◌}
use Rattle.serde_json.specs.View.{members_view}
use Rattle.json_kinds.specs.JsonKinds.{each_member}
use Rattle.job_defs.specs.Variables.{variable_in}
use Rattle.json_kinds.proofs.KindsLemmas.{with_front}
use Rattle.job_defs.proofs.surroundings.each_variable.Given as goal

abbrev pub invariant-loop-name : goal.invariant-loop-name
invariant-loop-name l = with_front l.variables.items (each_member variable_in (members_view l.name-iterator)) ≡ each_member variable_in (members_view l.members.entries)
