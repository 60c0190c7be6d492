-- What the texts say of a job by its facts, as plain values.
use Rattle.std.specs.Prelude.{◌≡◌, ℕ, ◌<◌, Bool, true, false, nat_le, is_none, is_some, if◌then◌else◌}
use Rattle.history_model.specs.declared.Ask.TheVariants.{Start, Kickstart}
use Rattle.history_model.specs.declared.reasons.Reasons.{Reasons}
use Rattle.history_model.specs.Items.{Item, Asked, History}
use Rattle.history_model.specs.Demands.{fires}
use Rattle.history_model.specs.Reasons.{reasons_of}
use Rattle.scope.specs.declared.texts.by_facts.OrderWhen.{OrderWhen}
use Rattle.scope.specs.declared.texts.by_facts.OrderWhen.TheVariants.{Never, AtOnce, At}
use Rattle.scope.specs.declared.texts.by_facts.StartWord.{StartWord}
use Rattle.scope.specs.declared.texts.by_facts.StartWord.TheVariants as words

-- an order that may be given at these values of `up` comes so, if only clock readings happen:
-- never; now already; or from a later `up` on, and not before
abbrev pub ComesSo : (ℕ → Bool) → ℕ → OrderWhen → Type 0
ComesSo may now Never = (up : ℕ) → may up ≡ false
ComesSo may now AtOnce = may now ≡ true
ComesSo may now (At at) = (now < at) × ((up : ℕ) → may up ≡ nat_le at up)

-- what the command of `jobctl` asks
abbrev pub item_asked : StartWord → Item
item_asked words.Start = Asked Start
item_asked words.Kickstart = Asked (Kickstart true)

abbrev pub is_start : StartWord → Bool
is_start words.Start = true
is_start words.Kickstart = false

-- it has a child, or no answer is awaited: the reasons say then whether a stop was asked
abbrev pub tells_stop : Reasons → Bool
tells_stop r = if is_some r.child then true else is_none r.awaited

-- what the command asks makes a start request, and the command is `start` wherever that makes one,
-- as far as the reasons say
pub record AsksBy (past : History) (word : StartWord) : Type 0 where
  pub demands : fires (item_asked word) past ≡ true
  pub plain : tells_stop (reasons_of past) ≡ true → is_start word ≡ fires (Asked Start) past
