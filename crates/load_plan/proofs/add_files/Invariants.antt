use Rattle.std.proofs.Common.{◌≡◌, map, take}
use Rattle.load_plan.specs.Plan.{operation_of, with_operations}
use Rattle.load_plan.proofs.add_files.Given as goal

abbrev pub invariant-loop-file : goal.invariant-loop-file
invariant-loop-file l = l.steps.items ≡ with_operations (operation_of l.files l.loaded l.flags) (map (λ file. file.label) (take l.file-index l.files)) l.fn.steps.items
