-- What the check of `target::split_at_slash` does not find by itself.
use Rattle.std.proofs.Common.{◌≡◌, ℕ, List, Option, Some, None, length, ◌<◌, arith}
use Rattle.std.specs.Borrow.{Bor}
use Rattle.std.specs.Prelude.{MatchOption}
use Rattle.std.specs.List.{position_or_len, before_first, after_first}
use Rattle.std.proofs.lemmas.Str.Pattern.{split_once_first}
use Rattle.ctl_protocol.specs.Targets.{is_slash, SplitsAtSlash}
use Rattle.ctl_protocol.proofs.TargetsLemmas.{none_there, one_there}
use Rattle.ctl_protocol.proofs.target.split_at_slash.Goals as goal

parted : (text : List ℕ) (r : Option (Bor (List ℕ) × Bor (List ℕ)))
    → MatchOption r (position_or_len is_slash text ≡ length text) (λ x. (position_or_len is_slash text < length text) × (x.0.now ≡ before_first is_slash text) × (x.1.now ≡ after_first is_slash text))
    → SplitsAtSlash text r
parted text None h = none_there text h
parted text (Some x) h = (one_there text h.0, h.1, h.2)

pub returns : goal.returns
returns c = parted c.args.text.now c.split_once.result (split_once_first 47 c.args.text.now c.split_once.result c.split_once.ensures.cases (omega arith))
