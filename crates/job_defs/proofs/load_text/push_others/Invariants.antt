-- What stays true in the loop of `load_text::push_others`.
use Rattle.std.proofs.Common.{◌≡◌, ◌++◌, codes, drop, string_bytes}
use Rattle.std.specs.List.{flat_map}
use Rattle.job_defs.proofs.load_text.push_others.Given as goal

abbrev pub invariant-loop-name : goal.invariant-loop-name
invariant-loop-name l =
    string_bytes l.text ++ flat_map (λ name. codes ", " ++ name) (drop l.name-index l.others)
    ≡ string_bytes l.fn.text ++ flat_map (λ name. codes ", " ++ name) l.others
