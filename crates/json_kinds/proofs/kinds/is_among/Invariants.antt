-- What stays true in the loop of `kinds::is_among`.
use Rattle.std.proofs.Common.{◌≡◌, drop, map}
use Rattle.std.specs.List.{list_any}
use Rattle.std.specs.Str.{bytes_eq}
use Rattle.json_kinds.proofs.kinds.is_among.Given as goal

abbrev pub invariant-loop-known : goal.invariant-loop-known
invariant-loop-known l =
    list_any (λ known. bytes_eq known l.text) (map (λ known. known.now) (drop l.known-index l.texts))
    ≡ list_any (λ known. bytes_eq known l.text) (map (λ known. known.now) l.texts)
