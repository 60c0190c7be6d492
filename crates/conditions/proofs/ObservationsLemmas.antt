-- Paths with what was seen there last, and what a past says of them.
use Rattle.std.proofs.Common.{◌≡◌, ℕ, Bool, true, false, ◌||◌, cond, Option, Some, None, List, [], ◌∷◌, map, refl, ap}
use Rattle.std.specs.List.{find, list_any}
use Rattle.std.specs.Option.{option_map}
use Rattle.history_model.specs.declared.Obs.{Obs}
use Rattle.history_model.specs.declared.Reading.{Reading}
use Rattle.history_model.specs.Items.{Definition, History, Loaded, Saw}
use Rattle.history_model.specs.declared.definition.parts.PathState.{PathState}
use Rattle.history_model.specs.Clock.{definition_of}
use Rattle.history_model.specs.Demands.{is_same_path, last_seen}
use Rattle.history_model.specs.Levels.{presence_holds}
use Rattle.history_model.specs.Reasons.{state_that_holds}
use Rattle.history_model.specs.ByFacts.{seen_after}
use Rattle.history_model.specs.DueByFacts.{any_seen, first_seen}
use Rattle.history_model.proofs.SeenLemmas.{any-seen, first-seen}
use Rattle.history_model.proofs.WrittenLemmas.{newer}
use Rattle.history_model.proofs.ConnectionLemmas.{seen-more}
use Rattle.conditions.specs.ConditionFacts.{ConditionFacts, kept_of, conditions_hold, holds_by}
use Rattle.conditions.specs.States.{wanted_of, last_observation, after_observation}
use Rattle.conditions.specs.declared.levels.State.{State}

pub any-holds : (ss : List State) → list_any (λ (s : State). presence_holds s.present s.last) ss ≡ any_seen (λ (state : PathState). presence_holds state.present) (map wanted_of ss) (map last_observation ss)
any-holds [] = refl
any-holds (s ∷ ss) = ap (λ b. presence_holds s.present s.last || b) (any-holds ss)

pub seen-after : (path : List ℕ) (obs : Obs) (ss : List State) →
    map last_observation (map (after_observation path obs) ss) ≡ seen_after (λ (state : PathState). state.path) (map wanted_of ss) path obs (map last_observation ss)
seen-after path obs [] = refl
seen-after path obs (s ∷ ss) = λ i. newer (is_same_path s.path path) obs s.last i ∷ seen-after path obs ss i

pub wanted-after : (path : List ℕ) (obs : Obs) (ss : List State) → map wanted_of (map (after_observation path obs) ss) ≡ map wanted_of ss
wanted-after path obs [] = refl
wanted-after path obs (s ∷ ss) = ap (λ l. wanted_of s ∷ l) (wanted-after path obs ss)

pub holds-by : (t : History) → conditions_hold t ≡ holds_by (kept_of t)
holds-by t =
    rw (any-seen (λ (state : PathState). presence_holds state.present) (λ state. last_seen state.path t) (definition_of t).path_state) refl

pub kept-Saw : (t : History) (path : List ℕ) (obs : Obs) →
    kept_of (Saw path obs ∷ t) ≡ record (kept_of t) { seen = seen_after (λ (state : PathState). state.path) (kept_of t).path_state path obs (kept_of t).seen }
kept-Saw t path obs = λ i. record (kept_of t) { seen = seen-more (λ (state : PathState). state.path) (definition_of t).path_state t path obs i }

pub unseen : (d : Definition) (at : Reading) (ps : List PathState) → map (λ _. None) ps ≡ map (λ (state : PathState). last_seen state.path (Loaded d at ∷ [])) ps
unseen d at [] = refl
unseen d at (p ∷ ps) = ap (λ l. None ∷ l) (unseen d at ps)

pub first-state : (ss : List State) → option_map (λ (s : State). s.path) (find (λ (s : State). presence_holds s.present s.last) ss)
    ≡ option_map (λ (state : PathState). state.path) (first_seen (λ (state : PathState). presence_holds state.present) (map wanted_of ss) (map last_observation ss))
first-state [] = refl
first-state (s ∷ ss) = go (presence_holds s.present s.last) (first-state ss) where
  found : Option (List ℕ)
  found = option_map (λ (s : State). s.path) (find (λ (s : State). presence_holds s.present s.last) ss)

  go : (b : Bool) → option_map (λ (s : State). s.path) (find (λ (s : State). presence_holds s.present s.last) ss)
      ≡ option_map (λ (state : PathState). state.path) (first_seen (λ (state : PathState). presence_holds state.present) (map wanted_of ss) (map last_observation ss)) →
      option_map (λ (s : State). s.path) (cond b (Some s) (find (λ (s : State). presence_holds s.present s.last) ss))
      ≡ option_map (λ (state : PathState). state.path) (cond b (Some (wanted_of s)) (first_seen (λ (state : PathState). presence_holds state.present) (map wanted_of ss) (map last_observation ss)))
  go true rest = refl
  go false rest = rest

-- the first path that holds, of what is kept, and of a past
abbrev pub path_in : ConditionFacts → Option (List ℕ)
path_in k = option_map (λ (state : PathState). state.path) (first_seen (λ (state : PathState). presence_holds state.present) k.path_state k.seen)

pub kept-path : (past : History) → state_that_holds past ≡ path_in (kept_of past)
kept-path past = ap (option_map (λ (state : PathState). state.path)) (first-seen (λ (state : PathState). presence_holds state.present) (λ state. last_seen state.path past) (definition_of past).path_state)
