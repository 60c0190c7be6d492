-- The answers to the goals of `command::add_variables`.
use Rattle.std.proofs.Common.{◌≡◌, ◌+◌, [], ◌∷◌, ◌++◌, take, rules, sym, ap, ◌∙◌}
use Rattle.std.proofs.lemmas.List.{take_more}
use Rattle.std.specs.Process.{command_var}
use Rattle.child_edge.specs.Command.{said_after}
use Rattle.child_edge.proofs.VariableLemmas.{said_after-snoc}
use Rattle.child_edge.proofs.command.add_variables.Goals as goal

pub loop-variable-preserved : goal.loop-variable-preserved
loop-variable-preserved c =
    let at = c.loop-variable.variable-index in
    let xs = c.args.variables.now in
    let x = c.variable-item.result in
    let more : take (at + 1) xs ≡ take at xs ++ x ∷ [] = take_more xs at x c.loop-variable-test.true ∙ ap (λ v. take at xs ++ v ∷ []) (sym c.variable-item.is) in (
      search rules,
      search rules,
      λ name. said_after-snoc name _ (take at xs) x _ _
          (λ e. ap (command_var c.set_variable.new.command) e ∙ c.in_ok-set_variable.ensures.set)
          (c.in_ok-set_variable.ensures.others name)
          (c.loop-variable.invariant.2 name) ∙ ap (said_after name _) (sym more),
    )
