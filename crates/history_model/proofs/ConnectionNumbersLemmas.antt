-- The numbers of the connections that came rise, so the last one that came is the greatest.
use Rattle.std.proofs.Common.{◌≡◌, ℕ, ◌<◌, false, List, [], ◌∷◌, refl, arith}
use Rattle.std.specs.List.{filter_map, AllByRecursion}
use Rattle.history_model.specs.Items.{Loaded, Read, Saw, Asked, Came, Left, Ordered, Answered, RunEnded, WaitRefused, History}
use Rattle.history_model.specs.Search.{first, latest}
use Rattle.history_model.specs.Demands.{came_in}
use Rattle.history_model.specs.Refusals.{IsLawful, is_number_used}
use Rattle.history_model.specs.MachineLaws.{IsFalling}
use Rattle.history_model.proofs.ConnectionLemmas.{IsNew-from}
use Rattle.history_model.proofs.CarriedLemmas.{used-above}

-- the last one that came is the first of them
last-came : (t : History) → latest came_in t ≡ first (filter_map came_in t)
last-came [] = refl
last-came (Came conn ∷ t) = refl
last-came (Ordered act ∷ t) = last-came t
last-came (Answered answer ∷ t) = last-came t
last-came (RunEnded run how ∷ t) = last-came t
last-came (Loaded d at ∷ t) = last-came t
last-came (Read at calendar ∷ t) = last-came t
last-came (Saw path obs ∷ t) = last-came t
last-came (Asked ask ∷ t) = last-came t
last-came (Left conn ∷ t) = last-came t
last-came (WaitRefused run ∷ t) = last-came t

-- who is above the first of falling numbers is above all
above-all : (conn : ℕ) (cs : List ℕ) → IsFalling cs → is_number_used (first cs) conn ≡ false → AllByRecursion (λ d. d < conn) cs
above-all conn [] falls free = tt
above-all conn (c ∷ cs) falls free = (above, lower cs falls.0) where
  above : c < conn
  above = used-above c conn free

  lower : (ds : List ℕ) → AllByRecursion (λ d. d < c) ds → AllByRecursion (λ d. d < conn) ds
  lower [] all = tt
  lower (d ∷ ds) all = (let less : d < c = all.0 in let more : c < conn = above in omega (arith, less, more), lower ds all.1)

pub numbers : (t : History) → IsLawful t → IsFalling (filter_map came_in t)
numbers [] lawful = tt
numbers (Came conn ∷ t) (follows, lawful) =
    let falls = numbers t lawful in
    (above-all conn (filter_map came_in t) falls (rw (← last-came t) (IsNew-from t conn follows.1)), falls)
numbers (Ordered act ∷ t) (follows, lawful) = numbers t lawful
numbers (Answered answer ∷ t) (follows, lawful) = numbers t lawful
numbers (RunEnded run how ∷ t) (follows, lawful) = numbers t lawful
numbers (Loaded d at ∷ t) (follows, lawful) = numbers t lawful
numbers (Read at calendar ∷ t) (follows, lawful) = numbers t lawful
numbers (Saw path obs ∷ t) (follows, lawful) = numbers t lawful
numbers (Asked ask ∷ t) (follows, lawful) = numbers t lawful
numbers (Left conn ∷ t) (follows, lawful) = numbers t lawful
numbers (WaitRefused run ∷ t) (follows, lawful) = numbers t lawful
