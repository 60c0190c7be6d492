-- The laws of one load of a job: one run is running at a time, spawns are apart, and a KILL waits for its timeout.
use Rattle.std.proofs.Common.{◌≡◌, inl, inr, ℕ, ◌*◌, ◌≤◌, Bool, true, false, ◌||◌, ◌&&◌, ◌∷◌, Option, refl, arith, nat_lt, length}
use Rattle.std.specs.List.{list_any}
use Rattle.std.proofs.lemmas.Bool.Decides.{nat_tests}
use Rattle.history_model.specs.declared.Act.TheVariants.{Spawn, Kill}
use Rattle.history_model.specs.Items.{History, Ordered}
use Rattle.history_model.specs.Search.{last}
use Rattle.history_model.specs.Clock.{now, definition_of, moments}
use Rattle.history_model.specs.Runs.{living, is_stopped, is_struck}
use Rattle.history_model.specs.Kinds.{is_spawn_order, is_spawn_refusal, is_term_order, is_kill_answer}
use Rattle.history_model.specs.Due.{is_within, is_over, may_retry}
use Rattle.history_model.specs.Refusals.{IsLawful}
use Rattle.history_model.specs.MachineLaws.{AreOver, IsOverdue}
use Rattle.history_model.proofs.BooleanLemmas.{and-both, or-false}
use Rattle.history_model.proofs.LawfulLemmas.{due-Spawn, due-Kill-may, unthrottled}
use Rattle.history_model.proofs.RunsLemmas.{IsAlone, sound}
use Rattle.history_model.proofs.SpacedLemmas.{none-within, over-some}
use Rattle.history_model.specs.declared.TheConstants.{SECOND}

few : (t : History) → IsAlone t → length (living t) ≤ 1
few t (inl none) = rw none (omega arith)
few t (inr (pid, one)) = rw one (omega arith)

pub one-lives : (t : History) → IsLawful t → length (living t) ≤ 1
one-lives t lawful = few t (sound t lawful).0

-- a spawn that is due comes after the waits
pub far : (t : History) (run : ℕ) (conn : Option ℕ) → IsLawful (Ordered (Spawn run conn) ∷ t) →
    AreOver (SECOND * (definition_of t).throttle_interval) (moments is_spawn_order t) t × AreOver SECOND (moments is_spawn_refusal t) t
far t run conn lawful =
    let free = or-false (list_any (is_within (SECOND * (definition_of t).throttle_interval) (now t).up) (moments is_spawn_order t)) (list_any (is_within SECOND (now t).up) (moments is_spawn_refusal t))
    (unthrottled t (due-Spawn t run conn lawful.0.1).may) in
    (none-within (SECOND * (definition_of t).throttle_interval) (now t).up (moments is_spawn_order t) free.0, none-within SECOND (now t).up (moments is_spawn_refusal t) free.1)

unstruck : (a b c : Bool) → a ≡ false → ((a || b) && c) ≡ true → b ≡ true
unstruck true b c e h = cc
unstruck false true c e h = refl
unstruck false false c e h = h

-- a KILL that is due, and that no kickstart asked for
pub overdue : (t : History) (run : ℕ) → IsLawful (Ordered (Kill run) ∷ t) → is_struck t ≡ false → IsOverdue run t
overdue t run lawful quiet =
    let allowed : Bool = is_stopped t && nat_lt 0 (definition_of t).exit_timeout in
    let over : Bool = is_over (SECOND * (definition_of t).exit_timeout) (now t).up (last (moments (is_term_order run) t)) in
    let second = and-both allowed over (unstruck (is_struck t) (allowed && over) (may_retry is_kill_answer run t) quiet (due-Kill-may t run lawful.0.1)) in
    let third = and-both (is_stopped t) (nat_lt 0 (definition_of t).exit_timeout) second.0 in
    let above : nat_lt 0 (definition_of t).exit_timeout ≡ true = third.1 in
    (grind (arith, nat_tests, above), over-some (SECOND * (definition_of t).exit_timeout) (now t).up (last (moments (is_term_order run) t)) second.1)
