-- The tree of matches in which the heap keeps the timers of jobs: each node has the sooner of the
-- two below it.
use Rattle.std.specs.Prelude.{◌≡◌, ◌≢◌, ℕ, ◌+◌, ◌*◌, ◌<◌, ◌≤◌, ◌==◌, nat_lt, Bool, ◌&&◌, ◌||◌, List, length, map, drop, Option, Some, None, slice_index_or, if◌then◌else◌}
use Rattle.std.specs.Option.{ForSome, option_map}
use Rattle.timer_heap.specs.Timers.{Timers}
use Rattle.timer_heap.specs.declared.tree.Timer.{Timer}
use Rattle.timer_heap.specs.declared.tree.Tree.{Tree}

-- the timer is before the other: by moments, and equal ones by job numbers
abbrev pub is_timer_before : Timer → Timer → Bool
is_timer_before timer other =
    nat_lt timer.moment other.moment
    || ((timer.moment == other.moment) && nat_lt timer.job other.job)

-- the winner of a match
abbrev pub sooner_timer : Option Timer → Option Timer → Option Timer
sooner_timer None right = right
sooner_timer (Some one) None = Some one
sooner_timer (Some one) (Some other) = if is_timer_before other one then Some other else Some one

-- the timer of the node at a place
abbrev pub node : List (Option Timer) → ℕ → Option Timer
node nodes place = slice_index_or nodes place None

-- the timer of a job
abbrev pub leaf : Tree → ℕ → Option Timer
leaf tree job = node tree.nodes.items (tree.leaves + job)

-- the timer's moment, if there is one
abbrev pub moment_of : Option Timer → Option ℕ
moment_of timer = option_map (λ (some : Timer). some.moment) timer

-- what a contract sees of the tree: the moments of its leaves
abbrev pub timers_of : Tree → Timers
timers_of tree = record { moments = map moment_of (drop tree.leaves tree.nodes.items) }

-- each node above two others has the winner of their match, but for the node at the gap; and each
-- leaf has its own job's timer
pub record IsTreeBut (nodes : List (Option Timer)) (leaves gap : ℕ) : Type 0 where
  pub size : length nodes ≡ leaves + leaves
  pub played : (place : ℕ) → 1 ≤ place → place < leaves → place ≢ gap →
      node nodes place ≡ sooner_timer (node nodes (2 * place)) (node nodes (2 * place + 1))
  pub own : (job : ℕ) → job < leaves →
      ForSome (node nodes (leaves + job)) (λ timer. timer.job ≡ job)

-- the node at 0 is not used, so all matches are played
abbrev pub IsTree : Tree → Type 0
IsTree tree = IsTreeBut tree.nodes.items tree.leaves 0

-- no job has a timer
abbrev pub HasNoTimer : Tree → Type 0
HasNoTimer tree = (job : ℕ) → leaf tree job ≡ None

-- the job's leaf has this, and each other leaf what it had
pub record IsPut (old new : Tree) (job : ℕ) (timer : Option Timer) : Type 0 where
  pub changed : leaf new job ≡ timer
  pub others : (other : ℕ) → other ≢ job → leaf new other ≡ leaf old other
  pub leaves : new.leaves ≡ old.leaves
