-- What a clock reading, or an observation, does to two jobs of whose pasts the same is known, if only the one hears of it; and what the next clock reading does to
-- both.
use Rattle.std.proofs.Common.{◌≡◌, inl, inr, ℕ, ◌≤◌, Bool, true, false, ◌||◌, ◌&&◌, cond, Option, Some, None, List, [], ◌∷◌, map, refl, sym, ap, subst, ◌∙◌}
use Rattle.std.specs.List.{AllByRecursion}
use Rattle.std.specs.Cmp.Lexicographic.{same_text}
use Rattle.history_model.specs.declared.Reading.{Reading}
use Rattle.history_model.specs.declared.Entry.{Entry}
use Rattle.history_model.specs.declared.Obs.{Obs}
use Rattle.history_model.specs.declared.reasons.DemandKind.TheVariants as kinds
use Rattle.history_model.specs.Items.{Item, Read, Saw, History}
use Rattle.history_model.specs.Search.{or_else}
use Rattle.history_model.specs.Clock.{now, definition_of, crosses_interval}
use Rattle.history_model.specs.Kinds.{is_spawn_order}
use Rattle.history_model.specs.Demands.{is_same_path, is_same_bool, differs, last_seen, watch_fires, fired_since, is_pending, kind_since, latest_demand}
use Rattle.history_model.specs.Calendar.{Zone, calendar_fires}
use Rattle.history_model.specs.Facts.{Facts, facts_of}
use Rattle.history_model.specs.ByFacts.{fired_by, facts_after}
use Rattle.history_model.specs.DueByFacts.{due_by}
use Rattle.history_model.specs.Machine.{Job}
use Rattle.history_model.specs.Step.{with_item, received, lists, observation_of}
use Rattle.history_model.specs.LeftOut.{HaveSeen}
use Rattle.history_model.proofs.UntouchedLemmas.{list_any-none}
use Rattle.history_model.proofs.ByFactsLemmas.{due-by, facts-after}
use Rattle.history_model.proofs.ConnectionLemmas.{facts-Saw}
use Rattle.history_model.proofs.LawfulLemmas.{eqb-self}
use Rattle.history_model.proofs.DueByFactsLemmas.{due-same, crosses-none}
use Rattle.history_model.proofs.StepLemmas.{Stands, Rests}
use Rattle.history_model.proofs.TwinLemmas.{IsTwin, AreTwins, definition-twin}
use Rattle.history_model.proofs.NewsLemmas.{AreOneMinute, IsQuietFor, IsNear, fires-alike, fires-none}
use Rattle.history_model.specs.declared.definition.parts.PathState.{PathState}

-- ---- an observation that is equal to the last

same_bool-self : (b : Bool) → is_same_bool b b ≡ true
same_bool-self true = refl
same_bool-self false = refl

differs-self : (obs : Obs) → differs obs (Some obs) ≡ false
differs-self obs = rw (same_bool-self obs.present, eqb-self obs.stamp) refl

module _ (t : History) (path : List ℕ) (obs : Obs) (seen : last_seen path t ≡ Some obs) where
  seen-at : (other : List ℕ) → is_same_path other path ≡ true → last_seen other t ≡ Some obs
  seen-at other same = subst (λ (p : List ℕ). last_seen p t ≡ Some obs) (sym (same_text other path (sym same))) seen

  last-same : (other : List ℕ) → last_seen other (Saw path obs ∷ t) ≡ last_seen other t
  last-same other = go (is_same_path other path) refl where
    go : (b : Bool) → is_same_path other path ≡ b → or_else (cond b (Some obs) None) (last_seen other t) ≡ last_seen other t
    go true same = sym (seen-at other same)
    go false same = refl

  no_watch : watch_fires t path obs ≡ false
  no_watch = list_any-none (λ watched. is_same_path watched path && differs obs (last_seen watched t)) (λ watched. go watched (is_same_path watched path) refl) (definition_of t).watch_paths where
    go : (watched : List ℕ) (b : Bool) → is_same_path watched path ≡ b → (b && differs obs (last_seen watched t)) ≡ false
    go watched true same = ap (differs obs) (seen-at watched same) ∙ differs-self obs
    go watched false same = refl

  pub facts-seen : facts_of (Saw path obs ∷ t) ≡ facts_of t
  facts-seen = λ i. record (facts_of t) {
    has_demand = no_watch i || is_pending t;
    has_new_demand = no_watch i || fired_since is_spawn_order t;
    demand = cond (no_watch i) (Some kinds.Path) (latest_demand t);
    new_demand = cond (no_watch i) (Some kinds.Path) (kind_since is_spawn_order t);
    seen_watched = map (λ (p : List ℕ). last-same p i) (definition_of t).watch_paths;
    seen_states = map (λ (state : PathState). last-same state.path i) (definition_of t).path_state;
    seen_queues = map (λ (p : List ℕ). last-same p i) (definition_of t).queue_directories;
  }

-- the one job hears of the observation, the other saw it so last
seen-twin : (path : List ℕ) (obs : Obs) (a b : Job) → IsTwin a b → (lists (definition_of b.past) path ≡ true → last_seen path b.past ≡ Some obs) → IsTwin (with_item a (observation_of path (Saw path obs) a)) b
seen-twin path obs a b twin seen = go (lists (definition_of a.past) path) refl where
  go : (v : Bool) → lists (definition_of a.past) path ≡ v → IsTwin (with_item a (cond v (Some (Saw path obs)) None)) b
  go true listed = record {
    label = twin.label;
    facts =
        facts-Saw a.past path obs 0 ∙ ap (facts_after (Saw path obs) 0) twin.facts ∙ sym (facts-Saw b.past path obs 0)
        ∙ facts-seen b.past path obs (seen (ap (λ d. lists d path) (sym (definition-twin a b twin)) ∙ listed));
  }
  go false listed = twin

seen-rests : (at : Reading) (path : List ℕ) (obs : Obs) (a b : Job) → IsTwin (with_item a (observation_of path (Saw path obs) a)) b → IsTwin a b → Rests at a → Stands at (with_item a (observation_of path (Saw path obs) a)) → Rests at (with_item a (observation_of path (Saw path obs) a))
seen-rests at path obs a b after twin rests stands = go (lists (definition_of a.past) path) after stands where
  go : (v : Bool) → IsTwin (with_item a (cond v (Some (Saw path obs)) None)) b → Stands at (with_item a (cond v (Some (Saw path obs)) None)) → Rests at (with_item a (cond v (Some (Saw path obs)) None))
  go true after stands = record {
    stands = stands;
    idle =
        due-by (Saw path obs ∷ a.past) stands.lawful ∙ ap (λ (f : Facts). due_by f (now a.past).up) (after.facts ∙ sym twin.facts)
        ∙ sym (due-by a.past rests.stands.lawful) ∙ rests.idle;
    staying = rests.staying;
  }
  go false after stands = rests

module _ (at : Reading) (path : List ℕ) (obs : Obs) where
  pub twins-seen : (xs ys : List Job) → AreTwins xs ys → HaveSeen path obs ys → AreTwins (received (observation_of path (Saw path obs)) xs) ys
  twins-seen [] [] twins seen = tt
  twins-seen [] (b ∷ ys) twins seen = absurd twins
  twins-seen (a ∷ xs) [] twins seen = absurd twins
  twins-seen (a ∷ xs) (b ∷ ys) twins seen = (seen-twin path obs a b twins.0 seen.0, twins-seen xs ys twins.1 seen.1)

  pub rests-seen : (xs ys : List Job) → AreTwins xs ys → AreTwins (received (observation_of path (Saw path obs)) xs) ys → AllByRecursion (Rests at) xs →
      AllByRecursion (Stands at) (received (observation_of path (Saw path obs)) xs) → AllByRecursion (Rests at) (received (observation_of path (Saw path obs)) xs)
  rests-seen [] [] twins after rests stands = tt
  rests-seen [] (b ∷ ys) twins after rests stands = absurd twins
  rests-seen (a ∷ xs) [] twins after rests stands = absurd twins
  rests-seen (a ∷ xs) (b ∷ ys) twins after rests stands =
      (seen-rests at path obs a b after.0 twins.0 rests.0 stands.0, rests-seen xs ys twins.1 after.1 rests.1 stands.1)

-- ---- clock readings

-- the item that a clock reading is, for a job
abbrev pub read_as : Zone → Reading → Reading → Job → Option Item
read_as zone last at job = Some (Read at (calendar_fires zone (definition_of job.past).calendar last.wall at.wall))

one-minute : (entries : List Entry) (before last at : ℕ) → AreOneMinute entries before last → AreOneMinute entries before at → AreOneMinute entries last at
one-minute entries before last at (inl none) second = inl none
one-minute entries before last at (inr same) (inl none) = inl none
one-minute entries before last at (inr same) (inr other) = inr (sym same ∙ other)

module _ (zone : Zone) (before last at : Reading) where
  -- the one job hears of a clock reading that changes nothing for the other
  left-twin : (a b : Job) → IsTwin a b → Stands last a → Stands before b → before.up ≤ at.up → IsNear before last b → IsQuietFor before at b → Stands at (with_item a (read_as zone last at a)) → IsTwin (with_item a (read_as zone last at a)) b
  left-twin a b twin sa sb order near quiet ta = record {
    label = twin.label;
    facts =
        facts-after (Read at (calendar_fires zone (definition_of a.past).calendar last.wall at.wall)) a.past ta.lawful sa.loaded
        ∙ (λ i. facts_after (Read at (fires i)) (sa.present i).up (twin.facts i))
        ∙ (λ i. fired_by (false || crosses i) kinds.Interval (facts_of b.past));
  } where
    fires : calendar_fires zone (definition_of a.past).calendar last.wall at.wall ≡ false
    fires =
        ap (λ d. calendar_fires zone d.calendar last.wall at.wall) (definition-twin a b twin)
        ∙ fires-none zone (definition_of b.past).calendar last.wall at.wall (one-minute (definition_of b.past).calendar before.wall last.wall at.wall near.minutes quiet.minutes)

    crosses : crosses_interval (definition_of b.past).start_interval (facts_of b.past).load_up last.up at.up ≡ false
    crosses = near.crosses at.up ∙ crosses-none before.up at.up order (facts_of b.past) quiet.later

  left-rests : (a b : Job) → IsTwin (with_item a (read_as zone last at a)) b → Rests last a → Rests before b → before.up ≤ at.up → IsQuietFor before at b → Stands at (with_item a (read_as zone last at a)) → Rests at (with_item a (read_as zone last at a))
  left-rests a b after ra rb order quiet ta = record {
    stands = ta;
    idle =
        due-by (with_item a (read_as zone last at a)).past ta.lawful ∙ ap (λ (f : Facts). due_by f at.up) after.facts
        ∙ due-same before.up at.up order (facts_of b.past) quiet.later
        ∙ ap (λ (r : Reading). due_by (facts_of b.past) r.up) (sym rb.stands.present) ∙ sym (due-by b.past rb.stands.lawful) ∙ rb.idle;
    staying = ra.staying;
  }

  -- both hear of the next clock reading
  read-twin : (a b : Job) → IsTwin a b → Stands last a → Stands before b → IsNear before last b → Stands at (with_item a (read_as zone last at a)) → Stands at (with_item b (read_as zone before at b)) →
      IsTwin (with_item a (read_as zone last at a)) (with_item b (read_as zone before at b))
  read-twin a b twin sa sb near ta tb = record {
    label = twin.label;
    facts =
        facts-after (Read at (calendar_fires zone (definition_of a.past).calendar last.wall at.wall)) a.past ta.lawful sa.loaded
        ∙ (λ i. facts_after (Read at (fires i)) (sa.present i).up (twin.facts i))
        ∙ (λ i. fired_by (mine || near.crosses at.up i) (cond mine kinds.Calendar kinds.Interval) (facts_of b.past))
        ∙ (λ i. facts_after (Read at mine) (sym sb.present i).up (facts_of b.past))
        ∙ sym (facts-after (Read at mine) b.past tb.lawful sb.loaded);
  } where
    mine : Bool
    mine = calendar_fires zone (definition_of b.past).calendar before.wall at.wall

    fires : calendar_fires zone (definition_of a.past).calendar last.wall at.wall ≡ calendar_fires zone (definition_of b.past).calendar before.wall at.wall
    fires =
        ap (λ d. calendar_fires zone d.calendar last.wall at.wall) (definition-twin a b twin)
        ∙ fires-alike zone (definition_of b.past).calendar before.wall last.wall at.wall near.minutes

  pub twins-left : (xs ys : List Job) → AreTwins xs ys → AllByRecursion (Stands last) xs → AllByRecursion (Stands before) ys → before.up ≤ at.up → AllByRecursion (IsNear before last) ys →
      AllByRecursion (IsQuietFor before at) ys → AllByRecursion (Stands at) (received (read_as zone last at) xs) → AreTwins (received (read_as zone last at) xs) ys
  twins-left [] [] twins sx sy order near quiet tx = tt
  twins-left [] (b ∷ ys) twins sx sy order near quiet tx = absurd twins
  twins-left (a ∷ xs) [] twins sx sy order near quiet tx = absurd twins
  twins-left (a ∷ xs) (b ∷ ys) twins sx sy order near quiet tx =
      (left-twin a b twins.0 sx.0 sy.0 order near.0 quiet.0 tx.0, twins-left xs ys twins.1 sx.1 sy.1 order near.1 quiet.1 tx.1)

  pub rests-left : (xs ys : List Job) → AreTwins (received (read_as zone last at) xs) ys → AllByRecursion (Rests last) xs → AllByRecursion (Rests before) ys → before.up ≤ at.up →
      AllByRecursion (IsQuietFor before at) ys → AllByRecursion (Stands at) (received (read_as zone last at) xs) → AllByRecursion (Rests at) (received (read_as zone last at) xs)
  rests-left [] [] after rx ry order quiet tx = tt
  rests-left [] (b ∷ ys) after rx ry order quiet tx = absurd after
  rests-left (a ∷ xs) [] after rx ry order quiet tx = absurd after
  rests-left (a ∷ xs) (b ∷ ys) after rx ry order quiet tx =
      (left-rests a b after.0 rx.0 ry.0 order quiet.0 tx.0, rests-left xs ys after.1 rx.1 ry.1 order quiet.1 tx.1)

  pub twins-read : (xs ys : List Job) → AreTwins xs ys → AllByRecursion (Stands last) xs → AllByRecursion (Stands before) ys → AllByRecursion (IsNear before last) ys →
      AllByRecursion (Stands at) (received (read_as zone last at) xs) → AllByRecursion (Stands at) (received (read_as zone before at) ys) → AreTwins (received (read_as zone last at) xs) (received (read_as zone before at) ys)
  twins-read [] [] twins sx sy near tx ty = tt
  twins-read [] (b ∷ ys) twins sx sy near tx ty = absurd twins
  twins-read (a ∷ xs) [] twins sx sy near tx ty = absurd twins
  twins-read (a ∷ xs) (b ∷ ys) twins sx sy near tx ty =
      (read-twin a b twins.0 sx.0 sy.0 near.0 tx.0 ty.0, twins-read xs ys twins.1 sx.1 sy.1 near.1 tx.1 ty.1)
