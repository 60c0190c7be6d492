-- Two jobs of one label of whose pasts the same is known: at one clock reading they are refused the same, order the same and show the same, and the
-- same is known of them afterwards.
use Rattle.std.proofs.Common.{◌≡◌, Bool, true, false, not, ◌||◌, ◌&&◌, cond, Option, Some, None, is_some, List, [], ◌∷◌, ◌++◌, refl, sym, ap, subst, ◌∙◌, map, length, suc}
use Rattle.std.specs.Prelude.{⊤}
use Rattle.std.specs.List.{filter, filter_map, flat_map, cons_option, AllByRecursion}
use Rattle.history_model.specs.declared.Reading.{Reading}
use Rattle.history_model.specs.declared.Act.{Act}
use Rattle.history_model.specs.declared.Act.TheVariants.{Close, Gone}
use Rattle.history_model.specs.Items.{Item, Ordered, History}
use Rattle.history_model.specs.Search.{first}
use Rattle.history_model.specs.Clock.{now, definition_of}
use Rattle.history_model.specs.Runs.{is_removed, is_gone}
use Rattle.history_model.specs.Kinds.{is_some_spawn}
use Rattle.history_model.specs.Demands.{waiting}
use Rattle.history_model.specs.Due.{due}
use Rattle.history_model.specs.Refusals.{refusal_of, IsLawful}
use Rattle.history_model.specs.Facts.{Facts, facts_of}
use Rattle.history_model.specs.ByFacts.{facts_after}
use Rattle.history_model.specs.DueByFacts.{due_by, refusal_by}
use Rattle.history_model.specs.FactsOfPast.{ordered}
use Rattle.history_model.specs.Shown.{shown_of, shown_by}
use Rattle.history_model.specs.Texts.{line_text, shown_text}
use Rattle.history_model.specs.Labels.{Label, is_same, is_before}
use Rattle.history_model.specs.Machine.{Job, is_of, past_in}
use Rattle.history_model.specs.Step.{with_item, received, received_one, with_job, listed, orders_of, stays}
use Rattle.history_model.proofs.ByFactsLemmas.{refusal-by, due-by, facts-after}
use Rattle.history_model.proofs.StepLemmas.{Stands}

pub record IsTwin (a b : Job) : Type 0 where
  pub label : a.label ≡ b.label
  pub facts : facts_of a.past ≡ facts_of b.past

-- one for one
abbrev pub AreTwins : List Job → List Job → Type 0
AreTwins [] [] = ⊤
AreTwins [] (b ∷ bs) = ⊥
AreTwins (a ∷ xs) [] = ⊥
AreTwins (a ∷ xs) (b ∷ ys) = IsTwin a b × AreTwins xs ys

-- ---- one job

module _ (a b : Job) (twin : IsTwin a b) where
  pub definition-twin : definition_of a.past ≡ definition_of b.past
  definition-twin = ap (λ (f : Facts). f.definition) twin.facts

  pub removed-twin : is_removed a.past ≡ is_removed b.past
  removed-twin = ap (λ (f : Facts). f.is_removing) twin.facts

  pub gone-twin : is_gone a.past ≡ is_gone b.past
  gone-twin = ap (λ (f : Facts). f.is_removing && not (is_some f.living_child || is_some_spawn f.awaited_act)) twin.facts

  pub waiting-twin : waiting a.past ≡ waiting b.past
  waiting-twin = ap (λ (f : Facts). f.queue) twin.facts

  pub shown-twin : shown_of a.past ≡ shown_of b.past
  shown-twin = ap shown_by twin.facts

  pub line-twin : shown_text a ≡ shown_text b
  line-twin = λ i. line_text (shown-twin i) (twin.label i)

  -- each at a clock reading of its own
  module _ (before at : Reading) (sa : Stands before a) (sb : Stands at b) (same : before ≡ at) where
    abbrev nows : now a.past ≡ now b.past
    nows = sa.present ∙ same ∙ sym sb.present

    pub refusal-twin : (x : Item) → refusal_of x a.past ≡ refusal_of x b.past
    refusal-twin x = refusal-by x a.past ∙ (λ i. refusal_by x (nows i) (twin.facts i)) ∙ sym (refusal-by x b.past)

    pub due-twin : due a.past ≡ due b.past
    due-twin = due-by a.past sa.lawful ∙ (λ i. due_by (twin.facts i) (nows i).up) ∙ sym (due-by b.past sb.lawful)

    pub item-twin : (x : Item) → IsLawful (x ∷ a.past) → IsLawful (x ∷ b.past) → IsTwin (with_item a (Some x)) (with_item b (Some x))
    item-twin x la lb = record {
      label = twin.label;
      facts = facts-after x a.past la sa.loaded ∙ (λ i. facts_after x (nows i).up (twin.facts i)) ∙ sym (facts-after x b.past lb sb.loaded);
    }

-- ---- at one clock reading

module _ (at : Reading) where
  -- what happens to one, if something does
  some-twin : (a b : Job) → IsTwin a b → Stands at a → Stands at b → (o : Option Item) → Stands at (with_item a o) → Stands at (with_item b o) → IsTwin (with_item a o) (with_item b o)
  some-twin a b twin sa sb None ta tb = twin
  some-twin a b twin sa sb (Some x) ta tb = item-twin a b twin at at sa sb refl x ta.lawful tb.lawful

  -- after the order
  ordered-twin : (a b : Job) → IsTwin a b → Stands at a → Stands at b → IsTwin (record a { past = ordered (due a.past) a.past }) (record b { past = ordered (due b.past) b.past })
  ordered-twin a b twin sa sb =
      subst (λ (o : Option Act). IsTwin (record a { past = ordered (due a.past) a.past }) (record b { past = ordered o b.past })) same (go (due a.past) refl) where
        same : due a.past ≡ due b.past
        same = due-twin a b twin at at sa sb refl

        go : (o : Option Act) → due a.past ≡ o → IsTwin (record a { past = ordered o a.past }) (record b { past = ordered o b.past })
        go None e = twin
        go (Some act) e = item-twin a b twin at at sa sb refl (Ordered act) ((sa.loaded, e), sa.lawful) ((sb.loaded, sym same ∙ e), sb.lawful)

  orders-twin : (a b : Job) → IsTwin a b → Stands at a → Stands at b → orders_of a ≡ orders_of b
  orders-twin a b twin sa sb =
      λ i. map (λ act. (twin.label i, act)) (cond (gone-twin a b twin i) (map Close (waiting-twin a b twin i) ++ Gone ∷ []) (listed (due-twin a b twin at at sa sb refl i)))

  -- ---- all of them

  abbrev pub AreStanding : List Job → Type 0
  AreStanding jobs = AllByRecursion (Stands at) jobs

  pub twins-orders : (xs ys : List Job) → AreTwins xs ys → AreStanding xs → AreStanding ys → flat_map orders_of xs ≡ flat_map orders_of ys
  twins-orders [] [] twins sx sy = refl
  twins-orders [] (b ∷ ys) twins sx sy = absurd twins
  twins-orders (a ∷ xs) [] twins sx sy = absurd twins
  twins-orders (a ∷ xs) (b ∷ ys) twins sx sy = λ i. orders-twin a b twins.0 sx.0 sy.0 i ++ twins-orders xs ys twins.1 sx.1 sy.1 i

  pub twins-stay : (xs ys : List Job) → AreTwins xs ys → AreStanding xs → AreStanding ys → AreTwins (filter_map stays xs) (filter_map stays ys)
  twins-stay [] [] twins sx sy = tt
  twins-stay [] (b ∷ ys) twins sx sy = absurd twins
  twins-stay (a ∷ xs) [] twins sx sy = absurd twins
  twins-stay (a ∷ xs) (b ∷ ys) twins sx sy =
      subst (λ (g : Bool). AreTwins (filter_map stays (a ∷ xs)) (cons_option (cond g None (Some (record b { past = ordered (due b.past) b.past }))) (filter_map stays ys)))
      (gone-twin a b twins.0) (go (is_gone a.past) (twins-stay xs ys twins.1 sx.1 sy.1)) where
        go : (g : Bool) → AreTwins (filter_map stays xs) (filter_map stays ys) →
            AreTwins (cons_option (cond g None (Some (record a { past = ordered (due a.past) a.past }))) (filter_map stays xs))
            (cons_option (cond g None (Some (record b { past = ordered (due b.past) b.past }))) (filter_map stays ys))
        go true rest = rest
        go false rest = (ordered-twin a b twins.0 sx.0 sy.0, rest)

  -- the same happens to both of each two
  pub twins-received : (p q : Job → Option Item) → ((a b : Job) → IsTwin a b → p a ≡ q b) → (xs ys : List Job) → AreTwins xs ys → AreStanding xs → AreStanding ys →
      AreStanding (received p xs) → AreStanding (received q ys) → AreTwins (received p xs) (received q ys)
  twins-received p q same [] [] twins sx sy tx ty = tt
  twins-received p q same [] (b ∷ ys) twins sx sy tx ty = absurd twins
  twins-received p q same (a ∷ xs) [] twins sx sy tx ty = absurd twins
  twins-received p q same (a ∷ xs) (b ∷ ys) twins sx sy tx ty = (
    subst (λ (o : Option Item). Stands at (with_item b o) → IsTwin (with_item a (p a)) (with_item b o)) (same a b twins.0) (some-twin a b twins.0 sx.0 sy.0 (p a) tx.0) ty.0,
    twins-received p q same xs ys twins.1 sx.1 sy.1 tx.1 ty.1,
  )

  pub twins-received_one : (l : Label) (x : Item) (xs ys : List Job) → AreTwins xs ys → AreStanding xs → AreStanding ys →
      AreStanding (received_one l x xs) → AreStanding (received_one l x ys) → AreTwins (received_one l x xs) (received_one l x ys)
  twins-received_one l x [] [] twins sx sy tx ty = tt
  twins-received_one l x [] (b ∷ ys) twins sx sy tx ty = absurd twins
  twins-received_one l x (a ∷ xs) [] twins sx sy tx ty = absurd twins
  twins-received_one l x (a ∷ xs) (b ∷ ys) twins sx sy tx ty =
      subst (λ (v : Bool). AreStanding (cond v (with_item b (Some x) ∷ ys) (b ∷ received_one l x ys)) → AreTwins (received_one l x (a ∷ xs)) (cond v (with_item b (Some x) ∷ ys) (b ∷ received_one l x ys)))
      (ap (is_same l) twins.0.label) (go (twins-received_one l x xs ys twins.1 sx.1 sy.1) (is_same l a.label) tx) ty where
        go : (AreStanding (received_one l x xs) → AreStanding (received_one l x ys) → AreTwins (received_one l x xs) (received_one l x ys)) →
            (v : Bool) → AreStanding (cond v (with_item a (Some x) ∷ xs) (a ∷ received_one l x xs)) → AreStanding (cond v (with_item b (Some x) ∷ ys) (b ∷ received_one l x ys)) →
            AreTwins (cond v (with_item a (Some x) ∷ xs) (a ∷ received_one l x xs)) (cond v (with_item b (Some x) ∷ ys) (b ∷ received_one l x ys))
        go rest true ta tb = (some-twin a b twins.0 sx.0 sy.0 (Some x) ta.0 tb.0, twins.1)
        go rest false ta tb = (twins.0, rest ta.1 tb.1)

  -- what is looked up of a label is the same
  pub twins-past : {C : Type 0} (f : Option History → C) → ((a b : Job) → IsTwin a b → Stands at a → Stands at b → f (Some a.past) ≡ f (Some b.past)) → (l : Label) →
      (xs ys : List Job) → AreTwins xs ys → AreStanding xs → AreStanding ys → f (past_in (first (filter (is_of l) xs))) ≡ f (past_in (first (filter (is_of l) ys)))
  twins-past f same l [] [] twins sx sy = refl
  twins-past f same l [] (b ∷ ys) twins sx sy = absurd twins
  twins-past f same l (a ∷ xs) [] twins sx sy = absurd twins
  twins-past {C} f same l (a ∷ xs) (b ∷ ys) twins sx sy =
      go (is_same l a.label) (twins-past f same l xs ys twins.1 sx.1 sy.1)
      ∙ ap (λ v. f (past_in (first (cond v (b ∷ filter (is_of l) ys) (filter (is_of l) ys))))) (ap (is_same l) twins.0.label) where
        go : (v : Bool) → f (past_in (first (filter (is_of l) xs))) ≡ f (past_in (first (filter (is_of l) ys))) →
            f (past_in (first (cond v (a ∷ filter (is_of l) xs) (filter (is_of l) xs)))) ≡ f (past_in (first (cond v (b ∷ filter (is_of l) ys) (filter (is_of l) ys))))
        go true rest = same a b twins.0 sx.0 sy.0
        go false rest = rest

-- a new job at its place
pub twins-with_job : (new : Job) (xs ys : List Job) → AreTwins xs ys → AreTwins (with_job new xs) (with_job new ys)
twins-with_job new [] [] twins = (record { label = refl; facts = refl }, tt)
twins-with_job new [] (b ∷ ys) twins = absurd twins
twins-with_job new (a ∷ xs) [] twins = absurd twins
twins-with_job new (a ∷ xs) (b ∷ ys) twins =
    subst (λ (v : Bool). AreTwins (with_job new (a ∷ xs)) (cond v (new ∷ b ∷ ys) (b ∷ with_job new ys))) (ap (is_before new.label) twins.0.label)
    (go (is_before new.label a.label) (twins-with_job new xs ys twins.1)) where
      go : (v : Bool) → AreTwins (with_job new xs) (with_job new ys) → AreTwins (cond v (new ∷ a ∷ xs) (a ∷ with_job new xs)) (cond v (new ∷ b ∷ ys) (b ∷ with_job new ys))
      go true rest = (record { label = refl; facts = refl }, twins)
      go false rest = (twins.0, rest)

pub twins-length : (xs ys : List Job) → AreTwins xs ys → length xs ≡ length ys
twins-length [] [] twins = refl
twins-length [] (b ∷ ys) twins = absurd twins
twins-length (a ∷ xs) [] twins = absurd twins
twins-length (a ∷ xs) (b ∷ ys) twins = ap suc (twins-length xs ys twins.1)

pub twins-lines : (xs ys : List Job) → AreTwins xs ys → flat_map shown_text xs ≡ flat_map shown_text ys
twins-lines [] [] twins = refl
twins-lines [] (b ∷ ys) twins = absurd twins
twins-lines (a ∷ xs) [] twins = absurd twins
twins-lines (a ∷ xs) (b ∷ ys) twins = λ i. line-twin a b twins.0 i ++ twins-lines xs ys twins.1 i

pub twins-self : (xs : List Job) → AreTwins xs xs
twins-self [] = tt
twins-self (a ∷ xs) = (record { label = refl; facts = refl }, twins-self xs)
