-- The orders that wait for an answer were each given last of all that happened to their jobs.
use Rattle.std.proofs.Common.{◌≡◌, ℕ, Bool, true, false, cond, Option, Some, None, List, [], ◌∷◌, ◌++◌, map, refl, sym, ap, ◌∙◌}
use Rattle.std.specs.List.{filter, filter_map, flat_map, cons_option, AllByRecursion}
use Rattle.std.specs.Ordering.{nat_cmp, is_eq}
use Rattle.std.specs.Cmp.Lexicographic.{slice_cmp, texts_ties, same_text}
use Rattle.std.proofs.lemmas.List.Elements.{filter-append}
use Rattle.std.proofs.lemmas.Bool.{false≢true}
use Rattle.history_model.specs.declared.Act.{Act}
use Rattle.history_model.specs.declared.Act.TheVariants.{Spawn, Term, Kill, Close, Gone}
use Rattle.history_model.specs.Items.{History, Ordered}
use Rattle.history_model.specs.Search.{first}
use Rattle.history_model.specs.Runs.{is_gone}
use Rattle.history_model.specs.Demands.{waiting}
use Rattle.history_model.specs.Due.{due}
use Rattle.history_model.specs.FactsOfPast.{ordered}
use Rattle.history_model.specs.Labels.{Label, is_same, is_before}
use Rattle.history_model.specs.Machine.{Job, is_of, past_in}
use Rattle.history_model.specs.Step.{acts_of, listed, orders_of, stays}
use Rattle.history_model.specs.MachineLaws.{AreInOrder, labels_of}
use Rattle.history_model.specs.Turns.{JobOrder, wanting, wants_answer}
use Rattle.history_model.specs.AwaitedOrders.{AreFresh}
use Rattle.history_model.proofs.LawfulLemmas.{due-rest}
use Rattle.history_model.proofs.OneLabelLemmas.{apart}
use Rattle.history_model.proofs.LabelOrderLemmas.{same_self, is_less-Less}

-- ---- labels

pub before-differ : (a b : Label) → is_before a b ≡ true → is_same a b ≡ false
before-differ a b e = texts_ties a b ∙ ap is_eq (is_less-Less (slice_cmp nat_cmp a b) e)

pub differ-sym : (a b : Label) → is_same a b ≡ false → is_same b a ≡ false
differ-sym a b e = go (is_same b a) refl where
  go : (v : Bool) → is_same b a ≡ v → is_same b a ≡ false
  go false is = is
  go true is =
      let same : b ≡ a = same_text b a (sym is) in
      let self : is_same a b ≡ true = rw same (same_self a) in
      absurd (false≢true (sym e ∙ self))

-- ---- lists

pub all-append : {X : Type 0} (P : X → Type 0) (xs ys : List X) → AllByRecursion P xs → AllByRecursion P ys → AllByRecursion P (xs ++ ys)
all-append P [] ys a b = b
all-append P (x ∷ xs) ys a b = (a.0, all-append P xs ys a.1 b)

-- what each job gives goes by its label
pub all-orders : (P : Label → Type 0) (jobs : List Job) → AllByRecursion P (labels_of jobs) → AllByRecursion (λ (job_order : JobOrder). P job_order.0) (wanting (flat_map orders_of jobs))
all-orders P [] all = tt
all-orders P (job ∷ jobs) all =
    rw (filter-append wants_answer (orders_of job) (flat_map orders_of jobs))
    (all-append (λ (job_order : JobOrder). P job_order.0) (wanting (orders_of job)) (wanting (flat_map orders_of jobs)) (own (acts_of job.past)) (all-orders P jobs all.1)) where
      own : (acts : List Act) → AllByRecursion (λ (job_order : JobOrder). P job_order.0) (wanting (map (λ act. (job.label, act)) acts))
      own [] = tt
      own (act ∷ acts) = go (wants_answer (job.label, act)) (own acts) where
        go : (b : Bool) → AllByRecursion (λ (job_order : JobOrder). P job_order.0) (wanting (map (λ act. (job.label, act)) acts)) →
            AllByRecursion (λ (job_order : JobOrder). P job_order.0) (cond b ((job.label, act) ∷ wanting (map (λ act. (job.label, act)) acts)) (wanting (map (λ act. (job.label, act)) acts)))
        go true rest = (all.0, rest)
        go false rest = rest

pub none-closes : (label : Label) (conns : List ℕ) → wanting (map (λ act. (label, act)) (map Close conns ++ Gone ∷ [])) ≡ []
none-closes label [] = refl
none-closes label (c ∷ conns) = none-closes label conns

-- ---- one more job

fresh-more : (job : Job) (jobs : List Job) (job_order : List JobOrder) → AllByRecursion (λ other. is_same other.0 job.label ≡ false) job_order → AreFresh jobs job_order → AreFresh (job ∷ jobs) job_order
fresh-more job jobs [] differ fresh = tt
fresh-more job jobs (one ∷ rest) differ fresh =
    ((fresh.0.0, rw differ.0 fresh.0.1), fresh.1, fresh-more job jobs rest differ.1 fresh.2)

-- what was ordered is fresh once all jobs were asked
pub fresh-with_orders : (jobs : List Job) → AreInOrder (labels_of jobs) → AreFresh (filter_map stays jobs) (wanting (flat_map orders_of jobs))
fresh-with_orders [] order = tt
fresh-with_orders (job ∷ jobs) order =
    rw (filter-append wants_answer (orders_of job) (flat_map orders_of jobs)) (go (fresh-with_orders jobs order.1) (is_gone job.past) (due job.past) refl) where
      others : AllByRecursion (λ (job_order : JobOrder). is_before job.label job_order.0 ≡ true) (wanting (flat_map orders_of jobs))
      others = all-orders (λ label. is_before job.label label ≡ true) jobs order.0

      after : (job_order : List JobOrder) → AllByRecursion (λ (job_order : JobOrder). is_before job.label job_order.0 ≡ true) job_order → AllByRecursion (λ (job_order : JobOrder). is_same job.label job_order.0 ≡ false) job_order
      after [] all = tt
      after (one ∷ rest) all = (before-differ job.label one.0 all.0, after rest all.1)

      back : (job_order : List JobOrder) → AllByRecursion (λ (job_order : JobOrder). is_same job.label job_order.0 ≡ false) job_order → AllByRecursion (λ (job_order : JobOrder). is_same job_order.0 job.label ≡ false) job_order
      back [] all = tt
      back (one ∷ rest) all = (differ-sym job.label one.0 all.0, back rest all.1)

      with_job : AreFresh (filter_map stays jobs) (wanting (flat_map orders_of jobs)) → (past : History) → AreFresh (record job { past = past } ∷ filter_map stays jobs) (wanting (flat_map orders_of jobs))
      with_job rest past = fresh-more (record job { past = past }) (filter_map stays jobs) (wanting (flat_map orders_of jobs)) (back _ (after _ others)) rest

      job_order : AreFresh (filter_map stays jobs) (wanting (flat_map orders_of jobs)) → (act : Act) → wants_answer (job.label, act) ≡ true →
          AreFresh (record job { past = Ordered act ∷ job.past } ∷ filter_map stays jobs) (wanting ((job.label, act) ∷ []) ++ wanting (flat_map orders_of jobs))
      job_order rest act wants = rw wants ((job.past, rw (same_self job.label) refl), after _ others, with_job rest (Ordered act ∷ job.past))

      go : AreFresh (filter_map stays jobs) (wanting (flat_map orders_of jobs)) → (g : Bool) (o : Option Act) → due job.past ≡ o →
          AreFresh (cons_option (cond g None (Some (record job { past = ordered o job.past }))) (filter_map stays jobs))
          (wanting (map (λ act. (job.label, act)) (cond g (map Close (waiting job.past) ++ Gone ∷ []) (listed o))) ++ wanting (flat_map orders_of jobs))
      go rest true o e = rw (none-closes job.label (waiting job.past)) rest
      go rest false None e = with_job rest job.past
      go rest false (Some (Spawn run conn)) e = job_order rest (Spawn run conn) refl
      go rest false (Some (Term run)) e = job_order rest (Term run) refl
      go rest false (Some (Kill run)) e = job_order rest (Kill run) refl
      go rest false (Some (Close conn)) e = absurd (due-rest job.past (Close conn) e (λ r c h. cc) (λ r h. cc) (λ r h. cc))
      go rest false (Some Gone) e = absurd (due-rest job.past Gone e (λ r c h. cc) (λ r h. cc) (λ r h. cc))

-- ---- lists of orders

pub fresh-same : (before after : List Job) (job_order : List JobOrder) → AllByRecursion (λ (one : JobOrder). filter (is_of one.0) after ≡ filter (is_of one.0) before) job_order → AreFresh before job_order → AreFresh after job_order
fresh-same before after [] same fresh = tt
fresh-same before after (one ∷ rest) same fresh =
    ((fresh.0.0, ap (λ (jobs : List Job). past_in (first jobs)) same.0 ∙ fresh.0.1), fresh.1, fresh-same before after rest same.1 fresh.2)

pub fresh-append : (jobs : List Job) (xs ys : List JobOrder) → AllByRecursion (λ (x : JobOrder). AllByRecursion (λ (y : JobOrder). is_same x.0 y.0 ≡ false) ys) xs → AreFresh jobs xs → AreFresh jobs ys → AreFresh jobs (xs ++ ys)
fresh-append jobs [] ys apart fx fy = fy
fresh-append jobs (x ∷ xs) ys apart fx fy = (fx.0, all-append (λ other. is_same x.0 other.0 ≡ false) xs ys fx.1 apart.0, fresh-append jobs xs ys apart.1 fx.2 fy)
