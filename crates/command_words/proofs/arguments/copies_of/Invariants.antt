-- What stays true in the loop of `arguments::copies_of`.
use Rattle.std.proofs.Common.{◌≡◌, map, take}
use Rattle.command_words.proofs.arguments.copies_of.Given as goal

abbrev pub invariant-loop-text : goal.invariant-loop-text
invariant-loop-text l = l.items.items ≡ map (λ t. t.now) (take l.text-index l.texts)
