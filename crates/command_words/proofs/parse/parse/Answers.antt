-- What the check of `parse::parse` does not find by itself.
use Rattle.std.proofs.Common.{inl, inr}
use Rattle.history_model.proofs.BooleanLemmas.{and-left}
use Rattle.command_words.proofs.MeaningLemmas.{none_more, some_more}
use Rattle.command_words.proofs.parse.parse.Goals as goal

pub returns-in-Ok-clause-found : goal.returns-in-Ok-clause-found
returns-in-Ok-clause-found c = λ simple.
    let found = c.in-Ok.ensures.matches (and-left _ _ simple) in
    record { none = none_more _ (c.in-Ok.ensures.kinds simple); rows = found.0; subcommand = found.1 }

pub returns-in-Err-clause-usage : goal.returns-in-Err-clause-usage
returns-in-Err-clause-usage c = λ simple is_usage. elim (c.in-Err.ensures.kinds simple) [
  | inl memory ↦ absurd (c.fault_in-fault.ensures is_usage memory)
  | inr among ↦ some_more _ _ among
]
