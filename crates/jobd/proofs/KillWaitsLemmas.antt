-- Of the jobs that were passed none waits for its KILL.
use Rattle.std.proofs.Common.{◌≡◌, ℕ, ◌-◌, ◌^◌, Bool, true, false, not, ◌&&◌, ◌||◌, cond, List, [], ◌∷◌, Option, Some, None, is_some, refl, sym, ap, subst, ◌∙◌}
use Rattle.std.specs.List.{list_any, filter, cons_option}
use Rattle.std.specs.Option.{option_map}
use Rattle.history_model.specs.declared.Child.{Child}
use Rattle.history_model.specs.Items.{History}
use Rattle.history_model.specs.Search.{first}
use Rattle.history_model.specs.Runs.{child}
use Rattle.history_model.specs.Labels.{Label, is_same, is_before}
use Rattle.history_model.specs.Machine.{Job, State, is_of, past_in, past_of}
use Rattle.history_model.specs.NextMomentByFacts.{has_come}
use Rattle.history_model.proofs.BooleanLemmas.{or-second, and-both}
use Rattle.history_model.proofs.LabelOrderLemmas.{after, same_self}
use Rattle.job_core.specs.JobMoments.{may_kill_when, AreMoments}
use Rattle.job_core.specs.declared.job.moments.Moments.{Moments}
use Rattle.loaded_jobs.specs.Nearest.{IsNearest, with_child, run_in}
use Rattle.loaded_jobs.specs.Waking.{HasMoments}
use Rattle.loaded_jobs.proofs.SettingLemmas.{is-label}
use Rattle.jobd.specs.KillWaits.{waits_for_kill, is_waiting, NoneWaits, SomeWaits}

-- of the jobs up to this label none waits
abbrev pub Passed : ℕ → List ℕ → State → Type 0
Passed up behind s = (label : List ℕ) → is_before [] label ≡ true → is_before behind label ≡ false → is_waiting up (past_of s label) ≡ false

pub passed-none : (up : ℕ) (s : State) → Passed up [] s
passed-none up s label some late = let clash : true ≡ false = sym some ∙ late in absurd (cc clash)

-- who waits has a child
child-waits : (up : ℕ) (past : History) → child past ≡ None → waits_for_kill up past ≡ false
child-waits up past none = ap (λ (o : Option Child). is_some o && (may_kill_when (2 ^ 64 - 1) past && not (may_kill_when up past))) none

-- so it is among those that have one
among : (up : ℕ) (label : Label) (jobs : List Job) → is_waiting up (past_in (first (filter (is_of label) jobs))) ≡ true → list_any (is_same label) (with_child jobs) ≡ true
among up label [] waits = cc
among up label (job ∷ jobs) waits = pick (is_same label job.label) refl (child job.past) refl waits (among up label jobs)
  where
    pick : (b : Bool) → is_same label job.label ≡ b → (o : Option Child) → child job.past ≡ o →
        is_waiting up (past_in (first (cond b (job ∷ filter (is_of label) jobs) (filter (is_of label) jobs)))) ≡ true →
        (is_waiting up (past_in (first (filter (is_of label) jobs))) ≡ true → list_any (is_same label) (with_child jobs) ≡ true) →
        list_any (is_same label) (cons_option (option_map (λ c. job.label) o) (with_child jobs)) ≡ true
    pick true is None none waits later = let clash : true ≡ false = sym waits ∙ child-waits up job.past none in absurd (cc clash)
    pick true is (Some c) has waits later = ap (λ b. b || list_any (is_same label) (with_child jobs)) is
    pick false is None none waits later = later waits
    pick false is (Some c) has waits later = or-second (is_same label job.label) (list_any (is_same label) (with_child jobs)) (later waits)

-- what holds of one of the texts holds of some
some-text : (f : List ℕ → Bool) (label : List ℕ) (texts : List (List ℕ)) → list_any (is_same label) texts ≡ true → f label ≡ true → list_any f texts ≡ true
some-text f label [] there holds = cc
some-text f label (text ∷ texts) there holds = pick (is_same label text) refl there (some-text f label texts)
  where
    pick : (b : Bool) → is_same label text ≡ b → (b || list_any (is_same label) texts) ≡ true → (list_any (is_same label) texts ≡ true → f label ≡ true → list_any f texts ≡ true) →
        (f text || list_any f texts) ≡ true
    pick true is there later = ap (λ b. b || list_any f texts) (ap f (sym (is-label label text is)) ∙ holds)
    pick false is there later = or-second (f text) (list_any f texts) (later there holds)

-- who waits, and none of those with a child is where it would be
no-waiter : (up : ℕ) (s : State) (f : List ℕ → Bool) (label : List ℕ) → list_any f (with_child s.jobs) ≡ false → f label ≡ true → is_waiting up (past_of s label) ≡ false
no-waiter up s f label none holds = go (is_waiting up (past_of s label)) refl
  where
    go : (b : Bool) → is_waiting up (past_of s label) ≡ b → is_waiting up (past_of s label) ≡ false
    go true waits = let clash : true ≡ false = sym (some-text f label (with_child s.jobs) (among up label s.jobs waits) holds) ∙ none in absurd (cc clash)
    go false waits = waits

both : (a b : Bool) → a ≡ true → b ≡ true → (a && b) ≡ true
both a b first second = ap (λ x. x && b) first ∙ second

-- the next job with a child does not wait: it is passed
pub passed-more : (up : ℕ) (s : State) (behind found : List ℕ) → Passed up behind s → IsNearest behind (with_child s.jobs) found → is_waiting up (past_of s found) ≡ false → Passed up found s
passed-more up s behind found passed nearest own label some late = go (is_before behind label) refl (is_same found label) refl
  where
    go : (b : Bool) → is_before behind label ≡ b → (same : Bool) → is_same found label ≡ same → is_waiting up (past_of s label) ≡ false
    go false before same is = passed label some before
    go true before true is = subst (λ l. is_waiting up (past_of s l) ≡ false) (is-label found label is) own
    go true before false is = no-waiter up s (λ other. is_before behind other && is_before other found) label nearest.nearest
        (both (is_before behind label) (is_before label found) before (after found label late is))

-- no job has a child after those that were passed
pub passed-all : (up : ℕ) (s : State) (behind : List ℕ) → Passed up behind s → list_any (is_before behind) (with_child s.jobs) ≡ false → NoneWaits up s
passed-all up s behind passed none label some = go (is_before behind label) refl
  where
    go : (b : Bool) → is_before behind label ≡ b → is_waiting up (past_of s label) ≡ false
    go false before = passed label some before
    go true before = no-waiter up s (is_before behind) label none before

-- ---- by its times

-- the job with a child waits exactly if the time of its KILL is to come
pub waits-by : (up : ℕ) (past : Option History) (moments : Moments) (run : ℕ) → HasMoments past (Some moments) → run_in past ≡ Some run →
    is_waiting up past ≡ (has_come moments.kill (2 ^ 64 - 1) && not (has_come moments.kill up))
waits-by up None moments run has child_has = absurd has
waits-by up (Some past) moments run has child_has =
    ap (λ b. b && (may_kill_when (2 ^ 64 - 1) past && not (may_kill_when up past))) (stands (child past) child_has)
    ∙ (λ i. sym (has.kill (2 ^ 64 - 1)) i && not (sym (has.kill up) i))
  where
    stands : (o : Option Child) → option_map (λ c. c.run) o ≡ Some run → is_some o ≡ true
    stands None is = cc
    stands (Some c) is = refl

-- a job without times is not loaded
pub waits-none : (up : ℕ) (past : Option History) → HasMoments past None → is_waiting up past ≡ false
waits-none up None has = refl
waits-none up (Some past) has = absurd has
