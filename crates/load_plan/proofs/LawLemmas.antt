-- The laws over the operation of one label, case by case.
use Rattle.std.proofs.Common.{◌||◌, ◌≡◌, ◌&&◌, Bool, true, false, Option, Some, None, cond, refl, sym, ap, subst, arith}
use Rattle.std.specs.Str.{bytes_eq}
use Rattle.load_plan.proofs.PlanLemmas.{test_of_equal}
use Rattle.load_plan.specs.declared.FileState.{FileState}
use Rattle.load_plan.specs.declared.FileState.TheVariants.{Good, Refused, Unread, LeftAtBoot, Disabled}
use Rattle.load_plan.specs.declared.Reason.{Reason}
use Rattle.load_plan.specs.declared.Reason.TheVariants as reason
use Rattle.load_plan.specs.declared.FileVerdict.{FileVerdict}
use Rattle.load_plan.specs.declared.LoadedJob.{LoadedJob}
use Rattle.load_plan.specs.declared.Flags.{Flags}
use Rattle.load_plan.specs.declared.Choice.{Choice}
use Rattle.load_plan.specs.declared.Choice.TheVariants.{Nobody, One, Several}
use Rattle.load_plan.specs.declared.Operation.{Operation}
use Rattle.load_plan.specs.declared.Operation.TheVariants.{Load, Replace, Unload, Leave}
use Rattle.load_plan.specs.Plan.{is_good, fault, bar, held, may_unload, orphan_operation, change_operation, file_operation, free_operation, decided}
use Rattle.load_plan.specs.Laws.{ends, acts}

held_ends : (why : Option Reason) (operation : Option Operation) → ends operation ≡ false → ends (held why operation) ≡ false
held_ends None operation none = none
held_ends (Some why) None none = refl
held_ends (Some why) (Some (Leave other)) none = refl
held_ends (Some why) (Some (Load file)) none = refl
held_ends (Some why) (Some (Replace file)) none = refl
held_ends (Some why) (Some Unload) none = refl

pub held_acts : (why : Option Reason) (operation : Option Operation) → acts operation ≡ false → acts (held why operation) ≡ false
held_acts None operation none = none
held_acts (Some why) None none = refl
held_acts (Some why) (Some (Leave other)) none = refl
held_acts (Some why) (Some (Load file)) none = refl
held_acts (Some why) (Some (Replace file)) none = refl
held_acts (Some why) (Some Unload) none = refl

pub barred_acts : (why : Option Reason) (operation : Option Operation) (reason : Reason) → why ≡ Some reason → acts (held why operation) ≡ false
barred_acts None operation reason e = let f : None ≡ Some reason = e in cc
barred_acts (Some why) None reason e = refl
barred_acts (Some why) (Some (Leave other)) reason e = refl
barred_acts (Some why) (Some (Load file)) reason e = refl
barred_acts (Some why) (Some (Replace file)) reason e = refl
barred_acts (Some why) (Some Unload) reason e = refl

not_free : (flags : Flags) (job : LoadedJob) → job.is_running ≡ true → flags.at_once ≡ false → job.is_kept_alive ≡ false → may_unload flags job ≡ false
not_free flags job running at_once kept = grind arith

orphan_ends : (flags : Flags) (unread renamed : Bool) (job : LoadedJob) → may_unload flags job ≡ false → ends (orphan_operation flags unread renamed job) ≡ false
orphan_ends flags unread renamed job bound = grind arith

change_ends : (flags : Flags) (file : FileVerdict) (job : LoadedJob) → may_unload flags job ≡ false → ends (change_operation flags file job) ≡ false
change_ends flags file job bound = grind arith

file_ends : (flags : Flags) (file : FileVerdict) (why block : Option Reason) (job : LoadedJob) → may_unload flags job ≡ false → ends (file_operation flags file why block (Some job)) ≡ false
file_ends flags file (Some why) block job bound = refl
file_ends flags file None block job bound = change_ends flags file job bound

free_ends : (flags : Flags) (unread renamed : Bool) (block : Option Reason) (choice : Choice) (job : LoadedJob) → may_unload flags job ≡ false → ends (free_operation flags unread renamed block choice (Some job)) ≡ false
free_ends flags unread renamed block Nobody job bound = orphan_ends flags unread renamed job bound
free_ends flags unread renamed block Several job bound = refl
free_ends flags unread renamed block (One file) job bound = file_ends flags file (fault file.standing) block job bound

pub ends_no_run : (flags : Flags) (unread renamed : Bool) (block : Option Reason) (choice : Choice) (found : Option LoadedJob) (job : LoadedJob) → found ≡ Some job →
    job.is_running ≡ true → flags.at_once ≡ false → job.is_kept_alive ≡ false → ends (decided flags unread renamed block choice found) ≡ false
ends_no_run flags unread renamed block choice found job is running at_once kept =
    subst (λ o. ends (decided flags unread renamed block choice o) ≡ false) (sym is)
    (held_ends (bar flags) (free_operation flags unread renamed block choice (Some job)) (free_ends flags unread renamed block choice job (not_free flags job running at_once kept)))

pub leaves_unclear : (flags : Flags) (unread renamed : Bool) (block : Option Reason) (choice : Choice) (found : Option LoadedJob) → choice ≡ Several →
    acts (decided flags unread renamed block choice found) ≡ false
leaves_unclear flags unread renamed block choice found is =
    subst (λ o. acts (decided flags unread renamed block o found) ≡ false) (sym is) (held_acts (bar flags) (free_operation flags unread renamed block Several found) refl)

not_good : (flags : Flags) (file : FileVerdict) (standing : FileState) (block : Option Reason) (found : Option LoadedJob) → is_good standing ≡ false →
    acts (file_operation flags file (fault standing) block found) ≡ false
not_good flags file Good block found bad = let e : true ≡ false = bad in cc
not_good flags file Refused block found bad = refl
not_good flags file Unread block found bad = refl
not_good flags file LeftAtBoot block found bad = refl
not_good flags file Disabled block found bad = refl

pub leaves_faulty : (flags : Flags) (unread renamed : Bool) (block : Option Reason) (choice : Choice) (found : Option LoadedJob) (file : FileVerdict) →
    choice ≡ One file → is_good file.standing ≡ false → acts (decided flags unread renamed block choice found) ≡ false
leaves_faulty flags unread renamed block choice found file is bad =
    subst (λ o. acts (decided flags unread renamed block o found) ≡ false) (sym is)
    (held_acts (bar flags) (free_operation flags unread renamed block (One file) found) (not_good flags file file.standing block found bad))

orphan_unread : (flags : Flags) (unread renamed : Bool) (job : LoadedJob) → unread ≡ true → renamed ≡ false → acts (orphan_operation flags unread renamed job) ≡ false
orphan_unread flags unread renamed job is alone = grind arith

nobody_unread : (flags : Flags) (unread renamed : Bool) (block : Option Reason) (found : Option LoadedJob) → unread ≡ true → renamed ≡ false → acts (free_operation flags unread renamed block Nobody found) ≡ false
nobody_unread flags unread renamed block None is alone = refl
nobody_unread flags unread renamed block (Some job) is alone = orphan_unread flags unread renamed job is alone

pub keeps_beside_unread : (flags : Flags) (unread renamed : Bool) (block : Option Reason) (choice : Choice) (found : Option LoadedJob) → unread ≡ true → choice ≡ Nobody → renamed ≡ false →
    acts (decided flags unread renamed block choice found) ≡ false
keeps_beside_unread flags unread renamed block choice found is nobody alone =
    subst (λ o. acts (decided flags unread renamed block o found) ≡ false) (sym nobody)
    (held_acts (bar flags) (free_operation flags unread renamed block Nobody found) (nobody_unread flags unread renamed block found is alone))

orphan_acts : (flags : Flags) (unread renamed : Bool) (job : LoadedJob) → acts (orphan_operation flags unread renamed job) ≡ true → ((flags.prune || renamed) ≡ true) × (job.was_applied_here ≡ true)
orphan_acts flags unread renamed job act = (grind arith, grind arith)

held_free : (why : Option Reason) (operation : Option Operation) → acts (held why operation) ≡ true → acts operation ≡ true
held_free None operation act = act
held_free (Some why) None act = act
held_free (Some why) (Some (Leave other)) act = act
held_free (Some why) (Some (Load file)) act = refl
held_free (Some why) (Some (Replace file)) act = refl
held_free (Some why) (Some Unload) act = refl

pub prunes_own : (flags : Flags) (unread renamed : Bool) (block : Option Reason) (choice : Choice) (found : Option LoadedJob) (job : LoadedJob) → choice ≡ Nobody → found ≡ Some job →
    acts (decided flags unread renamed block choice found) ≡ true → ((flags.prune || renamed) ≡ true) × (job.was_applied_here ≡ true)
prunes_own flags unread renamed block choice found job nobody is act =
    let at_nobody : acts (decided flags unread renamed block Nobody found) ≡ true = subst (λ o. acts (decided flags unread renamed block o found) ≡ true) nobody act in
    let at_job : acts (decided flags unread renamed block Nobody (Some job)) ≡ true = subst (λ o. acts (decided flags unread renamed block Nobody o) ≡ true) is at_nobody in
    orphan_acts flags unread renamed job (held_free (bar flags) (orphan_operation flags unread renamed job) at_job)

change_acts : (flags : Flags) (file : FileVerdict) (job : LoadedJob) → file.digest.now ≡ job.digest.now → acts (change_operation flags file job) ≡ false
change_acts flags file job same =
    let is : bytes_eq file.digest.now job.digest.now ≡ true = test_of_equal file.digest.now job.digest.now same in
    grind arith

pub change_same : (flags : Flags) (file : FileVerdict) (job : LoadedJob) → job.is_going ≡ false → file.digest.now ≡ job.digest.now → change_operation flags file job ≡ None
change_same flags file job stays same =
    let is : bytes_eq file.digest.now job.digest.now ≡ true = test_of_equal file.digest.now job.digest.now same in
    grind arith

file_same : (flags : Flags) (file : FileVerdict) (why block : Option Reason) (job : LoadedJob) → file.digest.now ≡ job.digest.now → acts (file_operation flags file why block (Some job)) ≡ false
file_same flags file (Some why) block job same = refl
file_same flags file None block job same = change_acts flags file job same

pub keeps_same : (flags : Flags) (unread renamed : Bool) (block : Option Reason) (choice : Choice) (found : Option LoadedJob) (file : FileVerdict) (job : LoadedJob) →
    choice ≡ One file → found ≡ Some job → file.digest.now ≡ job.digest.now → acts (decided flags unread renamed block choice found) ≡ false
keeps_same flags unread renamed block choice found file job one is same =
    let at_job : acts (decided flags unread renamed block (One file) (Some job)) ≡ false =
    held_acts (bar flags) (free_operation flags unread renamed block (One file) (Some job)) (file_same flags file (fault file.standing) block job same) in
    let at_file : acts (decided flags unread renamed block (One file) found) ≡ false = subst (λ o. acts (decided flags unread renamed block (One file) o) ≡ false) (sym is) at_job in
    subst (λ o. acts (decided flags unread renamed block o found) ≡ false) (sym one) at_file

bar_ends : (flags : Flags) → flags.shuts_down ≡ true → bar flags ≡ Some reason.ShutsDown
bar_ends flags is = grind arith

pub waits_for_no_end : (flags : Flags) (unread renamed : Bool) (block : Option Reason) (choice : Choice) (found : Option LoadedJob) → flags.shuts_down ≡ true →
    acts (decided flags unread renamed block choice found) ≡ false
waits_for_no_end flags unread renamed block choice found is = barred_acts (bar flags) (free_operation flags unread renamed block choice found) reason.ShutsDown (bar_ends flags is)

held_bar : (ends strict : Bool) (operation : Option Operation) → strict ≡ true →
    acts (held (cond ends (Some reason.ShutsDown) (cond strict (Some reason.Warned) None)) operation) ≡ false
held_bar true strict operation is = barred_acts (Some reason.ShutsDown) operation reason.ShutsDown refl
held_bar false true operation is = barred_acts (Some reason.Warned) operation reason.Warned refl
held_bar false false operation is = let e : false ≡ true = is in cc

both_true : (a b : Bool) → a ≡ true → b ≡ true → (a && b) ≡ true
both_true true b first second = second
both_true false b first second = first

pub heeds_warning : (flags : Flags) (unread renamed : Bool) (block : Option Reason) (choice : Choice) (found : Option LoadedJob) → flags.strict ≡ true → flags.has_warning ≡ true →
    acts (decided flags unread renamed block choice found) ≡ false
heeds_warning flags unread renamed block choice found strict warning =
    held_bar flags.shuts_down (flags.strict && flags.has_warning) (free_operation flags unread renamed block choice found) (both_true flags.strict flags.has_warning strict warning)

-- the operation leaves the job, for a reason
pub record IsLeft (operation : Option Operation) : Type 0 where
  pub why : Reason
  pub is : operation ≡ Some (Leave why)

held_is_left : (bar : Option Reason) (operation : Option Operation) (why : Reason) → operation ≡ Some (Leave why) → IsLeft (held bar operation)
held_is_left None operation why is = record { why = why; is = is }
held_is_left (Some w) operation why is = record { why = why; is = ap (held (Some w)) is }

change_goes : (flags : Flags) (file : FileVerdict) (job : LoadedJob) → job.is_going ≡ true → change_operation flags file job ≡ Some (Leave reason.Goes)
change_goes flags file job goes = grind arith

file_goes : (bar : Option Reason) (flags : Flags) (file : FileVerdict) (why block : Option Reason) (job : LoadedJob) → job.is_going ≡ true →
    IsLeft (held bar (file_operation flags file why block (Some job)))
file_goes bar flags file (Some why) block job goes = held_is_left bar (Some (Leave why)) why refl
file_goes bar flags file None block job goes = held_is_left bar (change_operation flags file job) reason.Goes (change_goes flags file job goes)

pub waits_for_going : (flags : Flags) (unread renamed : Bool) (block : Option Reason) (choice : Choice) (found : Option LoadedJob) (file : FileVerdict) (job : LoadedJob) →
    choice ≡ One file → found ≡ Some job → job.is_going ≡ true → IsLeft (decided flags unread renamed block choice found)
waits_for_going flags unread renamed block choice found file job one is goes =
    let at_job : IsLeft (decided flags unread renamed block (One file) (Some job)) = file_goes (bar flags) flags file (fault file.standing) block job goes in
    let at_file : IsLeft (decided flags unread renamed block (One file) found) = subst (λ o. IsLeft (decided flags unread renamed block (One file) o)) (sym is) at_job in
    subst (λ o. IsLeft (decided flags unread renamed block o found)) (sym one) at_file
