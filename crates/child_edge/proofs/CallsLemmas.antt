-- What is recorded of no call, and of calls one after another.
use Rattle.std.proofs.Common.{List, [], ◌++◌, Option, sym, ap, ◌∙◌, append_assoc}
use Rattle.std.proofs.lemmas.List.{append-nil}
use Rattle.child_edge.specs.Calls.{ToldCall, Tells}

pub tells_nothing : (a : Option (List ToldCall)) → Tells a [] a
tells_nothing a = λ after is. (after, is, sym (append-nil after))

-- what is recorded one after another is recorded together
pub tells_append : (a b c : Option (List ToldCall)) (p q : List ToldCall) → Tells a p b → Tells b q c → Tells a (p ++ q) c
tells_append a b c p q first second = λ after is.
    let s = second after is in
    let f = first s.0 s.1 in
    (f.0, f.1, s.2 ∙ ap (λ xs. xs ++ q) f.2 ∙ append_assoc f.0 p q)
