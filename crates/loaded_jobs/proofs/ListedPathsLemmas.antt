-- The paths that a definition lists.
use Rattle.std.proofs.Common.{◌≡◌, ℕ, Bool, ◌||◌, List}
use Rattle.std.specs.List.{list_any}
use Rattle.history_model.specs.Demands.{is_same_path}
use Rattle.history_model.specs.Step.{lists}
use Rattle.history_model.specs.Described.{Described}
use Rattle.history_model.specs.Definitions.{definition}

pub listed : (d : Described) (path : List ℕ) (a b c : Bool) → a ≡ list_any (λ wish. is_same_path path wish.path) d.path_state →
    b ≡ list_any (is_same_path path) d.watch_paths → c ≡ list_any (is_same_path path) d.queue_directories → (a || b || c) ≡ lists (definition d) path
listed d path a b c in_states watched queued = λ i. in_states i || watched i || queued i
