-- The watched paths and queue directories of a job, with what was seen there last: searches and observations.
use Rattle.std.proofs.Common.{◌≡◌, ℕ, ◌+◌, ◌<◌, Bool, true, false, ◌||◌, ◌&&◌, cond, Option, Some, List, [], ◌∷◌, ◌++◌, map, take, get_or, length, refl, ap, ◌∙◌}
use Rattle.std.specs.List.{find, list_any, filter}
use Rattle.std.specs.Option.{option_map}
use Rattle.std.proofs.lemmas.List.{take_more}
use Rattle.history_model.specs.declared.Obs.{Obs}
use Rattle.history_model.specs.Demands.{is_same_path, differs}
use Rattle.history_model.specs.Levels.{queue_holds}
use Rattle.history_model.specs.ByFacts.{seen_after}
use Rattle.history_model.specs.DueByFacts.{any_seen, first_seen}
use Rattle.history_model.proofs.WrittenLemmas.{newer}
use Rattle.job_core.specs.declared.paths.Watched.{Watched}
use Rattle.job_core.specs.declared.paths.QueueDirectory.{QueueDirectory}
use Rattle.job_core.specs.ListedPaths.{watched_path, watched_observation, watched_after_observation, queue_path, queue_observation, queue_after}
use Rattle.history_model.proofs.BooleanLemmas.{or-false-right, or-assoc}

-- the watched path makes a demand
abbrev pub fires_at : List ℕ → Obs → Watched → Bool
fires_at path obs w = is_same_path w.path path && differs obs w.watch

pub any-fires : (path : List ℕ) (obs : Obs) (ws : List Watched) →
    list_any (fires_at path obs) ws ≡ any_seen (λ (watched : List ℕ) (before : Option Obs). is_same_path watched path && differs obs before) (map watched_path ws) (map watched_observation ws)
any-fires path obs [] = refl
any-fires path obs (w ∷ ws) = ap (λ b. fires_at path obs w || b) (any-fires path obs ws)

pub watched-after : (path : List ℕ) (obs : Obs) (ws : List Watched) →
    map watched_observation (map (watched_after_observation path obs) ws) ≡ seen_after (λ p. p) (map watched_path ws) path obs (map watched_observation ws)
watched-after path obs [] = refl
watched-after path obs (w ∷ ws) = λ i. newer (is_same_path w.path path) obs w.watch i ∷ watched-after path obs ws i

pub watched-paths : (path : List ℕ) (obs : Obs) (ws : List Watched) → map watched_path (map (watched_after_observation path obs) ws) ≡ map watched_path ws
watched-paths path obs [] = refl
watched-paths path obs (w ∷ ws) = ap (λ l. watched_path w ∷ l) (watched-paths path obs ws)

pub queues-after : (path : List ℕ) (obs : Obs) (qs : List QueueDirectory) →
    map queue_observation (map (queue_after path obs) qs) ≡ seen_after (λ p. p) (map queue_path qs) path obs (map queue_observation qs)
queues-after path obs [] = refl
queues-after path obs (q ∷ qs) = λ i. newer (is_same_path q.path path) obs q.queue i ∷ queues-after path obs qs i

pub queue-paths : (path : List ℕ) (obs : Obs) (qs : List QueueDirectory) → map queue_path (map (queue_after path obs) qs) ≡ map queue_path qs
queue-paths path obs [] = refl
queue-paths path obs (q ∷ qs) = ap (λ l. queue_path q ∷ l) (queue-paths path obs qs)

pub any-queues : (qs : List QueueDirectory) → list_any (λ (q : QueueDirectory). queue_holds q.queue) qs ≡ any_seen (λ (path : List ℕ). queue_holds) (map queue_path qs) (map queue_observation qs)
any-queues [] = refl
any-queues (q ∷ qs) = ap (λ b. queue_holds q.queue || b) (any-queues qs)

pub first-queue : (qs : List QueueDirectory) → option_map queue_path (find (λ (q : QueueDirectory). queue_holds q.queue) qs)
    ≡ first_seen (λ (path : List ℕ). queue_holds) (map queue_path qs) (map queue_observation qs)
first-queue [] = refl
first-queue (q ∷ qs) = go (queue_holds q.queue) (first-queue qs)
  where
    go : (b : Bool) → option_map queue_path (find (λ (q : QueueDirectory). queue_holds q.queue) qs) ≡ first_seen (λ (path : List ℕ). queue_holds) (map queue_path qs) (map queue_observation qs) →
        option_map queue_path (cond b (Some q) (find (λ (q : QueueDirectory). queue_holds q.queue) qs))
        ≡ cond b (Some (queue_path q)) (first_seen (λ (path : List ℕ). queue_holds) (map queue_path qs) (map queue_observation qs))
    go true rest = refl
    go false rest = rest

pub filter-all : (xs : List ℕ) → xs ≡ filter (λ _. true) xs
filter-all [] = refl
filter-all (x ∷ xs) = ap (λ l. x ∷ l) (filter-all xs)

list_any_push : {X : Type 0} (p : X → Bool) (xs : List X) (x : X) → list_any p (xs ++ x ∷ []) ≡ (list_any p xs || p x)
list_any_push p [] x = or-false-right (p x)
list_any_push p (y ∷ ys) x = ap (λ b. p y || b) (list_any_push p ys x) ∙ or-assoc (p y) (list_any p ys) (p x)

-- one more element is tested
pub any_more : {X : Type 0} (p : X → Bool) (xs : List X) (i : ℕ) (d : X) → i < length xs → list_any p (take (i + 1) xs) ≡ (list_any p (take i xs) || p (get_or xs i d))
any_more p xs i d lt = ap (list_any p) (take_more xs i d lt) ∙ list_any_push p (take i xs) (get_or xs i d)
