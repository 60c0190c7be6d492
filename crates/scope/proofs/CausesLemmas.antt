-- The list of causes has each that the reasons say, and none besides, in the order of their places.
use Rattle.std.proofs.Common.{◌≡◌, ◌⊎◌, inl, inr, ◌≤◌, ◌<◌, ◌+◌, ℕ, Bool, true, false, not, List, [], ◌∷◌, ◌++◌, nat_lt, Option, Some, None, refl, sym, ap, ◌∙◌, subst, true≢false, append_assoc, arith}
use Rattle.std.proofs.lemmas.Bool.Decides.{nat_tests}
use Rattle.history_model.specs.declared.Act.{Act}
use Rattle.history_model.specs.declared.reasons.Wants.{Wants}
use Rattle.history_model.specs.declared.reasons.StandingChild.{StandingChild}
use Rattle.history_model.specs.declared.reasons.Reasons.{Reasons}
use Rattle.history_model.specs.Reasons.{some_want}
use Rattle.scope.specs.declared.journal.telling.JobCause.{JobCause}
use Rattle.scope.specs.declared.journal.telling.JobCause.TheVariants.{Removing, Child, Awaited, LaunchSpent, RunsSpent, Throttled, NotWanted, Demand, Connections, KeepAlive, SuccessfulExit, Crashed, PathState, QueueDirectories}
use Rattle.scope.specs.Causes.{Says, place, IsAmong, SaysEach, RisesFrom, AreCauses}
use Rattle.scope.specs.CauseLists.{when, child_in, awaited_in, throttle_in, causes_holding, causes_wanting}

-- ---- a cause among two lists

in_front : (c : JobCause) (xs ys : List JobCause) → IsAmong c xs → IsAmong c (xs ++ ys)
in_front c [] ys at = absurd at
in_front c (x ∷ xs) ys (inl here) = inl here
in_front c (x ∷ xs) ys (inr there) = inr (in_front c xs ys there)

behind : (c : JobCause) (xs ys : List JobCause) → IsAmong c ys → IsAmong c (xs ++ ys)
behind c [] ys at = at
behind c (x ∷ xs) ys at = inr (behind c xs ys at)

of_when : (b : Bool) (c : JobCause) → b ≡ true → IsAmong c (when b c)
of_when true c holds = inl refl
of_when false c holds = absurd (true≢false (sym holds))

of_child : (o : Option StandingChild) (child : StandingChild) → o ≡ Some child → IsAmong (Child child) (child_in o)
of_child o child is = subst (λ o. IsAmong (Child child) (child_in o)) (sym is) (inl refl)

of_awaited : (o : Option Act) (act : Act) → o ≡ Some act → IsAmong (Awaited act) (awaited_in o)
of_awaited o act is = subst (λ o. IsAmong (Awaited act) (awaited_in o)) (sym is) (inl refl)

of_throttle : (o : Option ℕ) (up : ℕ) → o ≡ Some up → IsAmong (Throttled up) (throttle_in o)
of_throttle o up is = subst (λ o. IsAmong (Throttled up) (throttle_in o)) (sym is) (inl refl)

of_connections : (has count : ℕ) → has ≡ count → 0 < count → IsAmong (Connections count) (when (nat_lt 0 has) (Connections has))
of_connections has count is some =
    subst (λ n. IsAmong (Connections count) (when (nat_lt 0 n) (Connections n))) (sym is) (of_when (nat_lt 0 count) (Connections count) (grind (arith, nat_tests, some)))

of_none : (w : Wants) → some_want w ≡ false → IsAmong NotWanted (when (not (some_want w)) NotWanted)
of_none w none = of_when (not (some_want w)) NotWanted (ap not none)

-- ---- what the reasons say of each

says_both : (r : Reasons) (xs ys : List JobCause) → SaysEach r xs → SaysEach r ys → SaysEach r (xs ++ ys)
says_both r [] ys first second = second
says_both r (x ∷ xs) ys first second = (first.0, says_both r xs ys first.1 second)

says_when : (r : Reasons) (b : Bool) (c : JobCause) → (b ≡ true → Says r c) → SaysEach r (when b c)
says_when r true c says = (says refl, tt)
says_when r false c says = tt

says_child : (r : Reasons) (o : Option StandingChild) → r.child ≡ o → SaysEach r (child_in o)
says_child r None is = tt
says_child r (Some child) is = (is, tt)

says_awaited : (r : Reasons) (o : Option Act) → r.awaited ≡ o → SaysEach r (awaited_in o)
says_awaited r None is = tt
says_awaited r (Some act) is = (is, tt)

says_throttle : (r : Reasons) (o : Option ℕ) → r.throttled_until ≡ o → SaysEach r (throttle_in o)
says_throttle r None is = tt
says_throttle r (Some up) is = (is, tt)

some_wait : (n : ℕ) → nat_lt 0 n ≡ true → 0 < n
some_wait n some = grind (arith, nat_tests, some)

no_want : (b : Bool) → not b ≡ true → b ≡ false
no_want true none = absurd (true≢false (sym none))
no_want false none = refl

-- ---- places that rise

rises_earlier : (a b : ℕ) (cs : List JobCause) → a ≤ b → RisesFrom b cs → RisesFrom a cs
rises_earlier a b [] less rises = tt
rises_earlier a b (c ∷ cs) less rises = (omega (arith, less, rises.0), rises.1)

rises_when : (b : Bool) (c : JobCause) (least : ℕ) (cs : List JobCause) → least ≤ place c → RisesFrom (place c + 1) cs → RisesFrom least (when b c ++ cs)
rises_when true c least cs less rises = (less, rises)
rises_when false c least cs less rises = rises_earlier least (place c + 1) cs (omega (arith, less)) rises

rises_child : (o : Option StandingChild) (cs : List JobCause) → RisesFrom 2 cs → RisesFrom 1 (child_in o ++ cs)
rises_child None cs rises = rises_earlier 1 2 cs (omega arith) rises
rises_child (Some child) cs rises = (omega arith, rises)

rises_awaited : (o : Option Act) (cs : List JobCause) → RisesFrom 3 cs → RisesFrom 2 (awaited_in o ++ cs)
rises_awaited None cs rises = rises_earlier 2 3 cs (omega arith) rises
rises_awaited (Some act) cs rises = (omega arith, rises)

rises_throttle : (o : Option ℕ) (cs : List JobCause) → RisesFrom 6 cs → RisesFrom 5 (throttle_in o ++ cs)
rises_throttle None cs rises = rises_earlier 5 6 cs (omega arith) rises
rises_throttle (Some up) cs rises = (omega arith, rises)

rises_last : (b : Bool) → RisesFrom 13 (when b NotWanted)
rises_last true = (omega arith, tt)
rises_last false = tt

-- ---- the lists one after the other, from the right

right6 : (a b c d e f : List JobCause) → ((((a ++ b) ++ c) ++ d) ++ e) ++ f ≡ a ++ (b ++ (c ++ (d ++ (e ++ (f)))))
right6 a b c d e f =
    append_assoc (((a ++ b) ++ c) ++ d) e (f)
    ∙ append_assoc ((a ++ b) ++ c) d (e ++ (f))
    ∙ append_assoc (a ++ b) c (d ++ (e ++ (f)))
    ∙ append_assoc (a) b (c ++ (d ++ (e ++ (f))))

right8 : (a b c d e f g h : List JobCause) → ((((((a ++ b) ++ c) ++ d) ++ e) ++ f) ++ g) ++ h ≡ a ++ (b ++ (c ++ (d ++ (e ++ (f ++ (g ++ (h)))))))
right8 a b c d e f g h =
    append_assoc (((((a ++ b) ++ c) ++ d) ++ e) ++ f) g (h)
    ∙ append_assoc ((((a ++ b) ++ c) ++ d) ++ e) f (g ++ (h))
    ∙ append_assoc (((a ++ b) ++ c) ++ d) e (f ++ (g ++ (h)))
    ∙ append_assoc ((a ++ b) ++ c) d (e ++ (f ++ (g ++ (h))))
    ∙ append_assoc (a ++ b) c (d ++ (e ++ (f ++ (g ++ (h)))))
    ∙ append_assoc (a) b (c ++ (d ++ (e ++ (f ++ (g ++ (h))))))

abbrev holding : Reasons → List JobCause
holding r = when r.is_removing Removing ++ (child_in r.child ++ (awaited_in r.awaited ++ (when r.is_launch_spent LaunchSpent ++ (when r.are_runs_spent RunsSpent ++ (throttle_in r.throttled_until)))))

abbrev wanting : Wants → List JobCause
wanting w =
    when w.demand Demand ++ (when (nat_lt 0 w.connections) (Connections w.connections) ++ (when w.keep_alive KeepAlive ++ (when w.successful_exit SuccessfulExit ++ (when w.crashed Crashed ++ (when w.path_state PathState ++ (when w.queue_directories QueueDirectories ++ (when (not (some_want w)) NotWanted)))))))

holding_is : (r : Reasons) → causes_holding r ≡ holding r
holding_is r = right6 (when r.is_removing Removing) (child_in r.child) (awaited_in r.awaited) (when r.is_launch_spent LaunchSpent) (when r.are_runs_spent RunsSpent) (throttle_in r.throttled_until)

wanting_is : (w : Wants) → causes_wanting w ≡ wanting w
wanting_is w = right8 (when w.demand Demand) (when (nat_lt 0 w.connections) (Connections w.connections)) (when w.keep_alive KeepAlive) (when w.successful_exit SuccessfulExit) (when w.crashed Crashed) (when w.path_state PathState) (when w.queue_directories QueueDirectories) (when (not (some_want w)) NotWanted)

-- ---- of all

each_among : (r : Reasons) (cause : JobCause) → Says r cause → IsAmong cause (holding r ++ wanting r.wants)
each_among r Removing says = in_front Removing (holding r) (wanting r.wants) (in_front Removing (when r.is_removing Removing) (child_in r.child ++ (awaited_in r.awaited ++ (when r.is_launch_spent LaunchSpent ++ (when r.are_runs_spent RunsSpent ++ (throttle_in r.throttled_until))))) (of_when r.is_removing Removing says))
each_among r (Child child) says = in_front (Child child) (holding r) (wanting r.wants) (behind (Child child) (when r.is_removing Removing) (child_in r.child ++ (awaited_in r.awaited ++ (when r.is_launch_spent LaunchSpent ++ (when r.are_runs_spent RunsSpent ++ (throttle_in r.throttled_until))))) (in_front (Child child) (child_in r.child) (awaited_in r.awaited ++ (when r.is_launch_spent LaunchSpent ++ (when r.are_runs_spent RunsSpent ++ (throttle_in r.throttled_until)))) (of_child r.child child says)))
each_among r (Awaited act) says = in_front (Awaited act) (holding r) (wanting r.wants) (behind (Awaited act) (when r.is_removing Removing) (child_in r.child ++ (awaited_in r.awaited ++ (when r.is_launch_spent LaunchSpent ++ (when r.are_runs_spent RunsSpent ++ (throttle_in r.throttled_until))))) (behind (Awaited act) (child_in r.child) (awaited_in r.awaited ++ (when r.is_launch_spent LaunchSpent ++ (when r.are_runs_spent RunsSpent ++ (throttle_in r.throttled_until)))) (in_front (Awaited act) (awaited_in r.awaited) (when r.is_launch_spent LaunchSpent ++ (when r.are_runs_spent RunsSpent ++ (throttle_in r.throttled_until))) (of_awaited r.awaited act says))))
each_among r LaunchSpent says = in_front LaunchSpent (holding r) (wanting r.wants) (behind LaunchSpent (when r.is_removing Removing) (child_in r.child ++ (awaited_in r.awaited ++ (when r.is_launch_spent LaunchSpent ++ (when r.are_runs_spent RunsSpent ++ (throttle_in r.throttled_until))))) (behind LaunchSpent (child_in r.child) (awaited_in r.awaited ++ (when r.is_launch_spent LaunchSpent ++ (when r.are_runs_spent RunsSpent ++ (throttle_in r.throttled_until)))) (behind LaunchSpent (awaited_in r.awaited) (when r.is_launch_spent LaunchSpent ++ (when r.are_runs_spent RunsSpent ++ (throttle_in r.throttled_until))) (in_front LaunchSpent (when r.is_launch_spent LaunchSpent) (when r.are_runs_spent RunsSpent ++ (throttle_in r.throttled_until)) (of_when r.is_launch_spent LaunchSpent says)))))
each_among r RunsSpent says = in_front RunsSpent (holding r) (wanting r.wants) (behind RunsSpent (when r.is_removing Removing) (child_in r.child ++ (awaited_in r.awaited ++ (when r.is_launch_spent LaunchSpent ++ (when r.are_runs_spent RunsSpent ++ (throttle_in r.throttled_until))))) (behind RunsSpent (child_in r.child) (awaited_in r.awaited ++ (when r.is_launch_spent LaunchSpent ++ (when r.are_runs_spent RunsSpent ++ (throttle_in r.throttled_until)))) (behind RunsSpent (awaited_in r.awaited) (when r.is_launch_spent LaunchSpent ++ (when r.are_runs_spent RunsSpent ++ (throttle_in r.throttled_until))) (behind RunsSpent (when r.is_launch_spent LaunchSpent) (when r.are_runs_spent RunsSpent ++ (throttle_in r.throttled_until)) (in_front RunsSpent (when r.are_runs_spent RunsSpent) (throttle_in r.throttled_until) (of_when r.are_runs_spent RunsSpent says))))))
each_among r (Throttled up) says = in_front (Throttled up) (holding r) (wanting r.wants) (behind (Throttled up) (when r.is_removing Removing) (child_in r.child ++ (awaited_in r.awaited ++ (when r.is_launch_spent LaunchSpent ++ (when r.are_runs_spent RunsSpent ++ (throttle_in r.throttled_until))))) (behind (Throttled up) (child_in r.child) (awaited_in r.awaited ++ (when r.is_launch_spent LaunchSpent ++ (when r.are_runs_spent RunsSpent ++ (throttle_in r.throttled_until)))) (behind (Throttled up) (awaited_in r.awaited) (when r.is_launch_spent LaunchSpent ++ (when r.are_runs_spent RunsSpent ++ (throttle_in r.throttled_until))) (behind (Throttled up) (when r.is_launch_spent LaunchSpent) (when r.are_runs_spent RunsSpent ++ (throttle_in r.throttled_until)) (behind (Throttled up) (when r.are_runs_spent RunsSpent) (throttle_in r.throttled_until) (of_throttle r.throttled_until up says))))))
each_among r Demand says = behind Demand (holding r) (wanting r.wants) (in_front Demand (when r.wants.demand Demand) (when (nat_lt 0 r.wants.connections) (Connections r.wants.connections) ++ (when r.wants.keep_alive KeepAlive ++ (when r.wants.successful_exit SuccessfulExit ++ (when r.wants.crashed Crashed ++ (when r.wants.path_state PathState ++ (when r.wants.queue_directories QueueDirectories ++ (when (not (some_want r.wants)) NotWanted))))))) (of_when r.wants.demand Demand says))
each_among r (Connections count) says = behind (Connections count) (holding r) (wanting r.wants) (behind (Connections count) (when r.wants.demand Demand) (when (nat_lt 0 r.wants.connections) (Connections r.wants.connections) ++ (when r.wants.keep_alive KeepAlive ++ (when r.wants.successful_exit SuccessfulExit ++ (when r.wants.crashed Crashed ++ (when r.wants.path_state PathState ++ (when r.wants.queue_directories QueueDirectories ++ (when (not (some_want r.wants)) NotWanted))))))) (in_front (Connections count) (when (nat_lt 0 r.wants.connections) (Connections r.wants.connections)) (when r.wants.keep_alive KeepAlive ++ (when r.wants.successful_exit SuccessfulExit ++ (when r.wants.crashed Crashed ++ (when r.wants.path_state PathState ++ (when r.wants.queue_directories QueueDirectories ++ (when (not (some_want r.wants)) NotWanted)))))) (of_connections r.wants.connections count says.0 says.1)))
each_among r KeepAlive says = behind KeepAlive (holding r) (wanting r.wants) (behind KeepAlive (when r.wants.demand Demand) (when (nat_lt 0 r.wants.connections) (Connections r.wants.connections) ++ (when r.wants.keep_alive KeepAlive ++ (when r.wants.successful_exit SuccessfulExit ++ (when r.wants.crashed Crashed ++ (when r.wants.path_state PathState ++ (when r.wants.queue_directories QueueDirectories ++ (when (not (some_want r.wants)) NotWanted))))))) (behind KeepAlive (when (nat_lt 0 r.wants.connections) (Connections r.wants.connections)) (when r.wants.keep_alive KeepAlive ++ (when r.wants.successful_exit SuccessfulExit ++ (when r.wants.crashed Crashed ++ (when r.wants.path_state PathState ++ (when r.wants.queue_directories QueueDirectories ++ (when (not (some_want r.wants)) NotWanted)))))) (in_front KeepAlive (when r.wants.keep_alive KeepAlive) (when r.wants.successful_exit SuccessfulExit ++ (when r.wants.crashed Crashed ++ (when r.wants.path_state PathState ++ (when r.wants.queue_directories QueueDirectories ++ (when (not (some_want r.wants)) NotWanted))))) (of_when r.wants.keep_alive KeepAlive says))))
each_among r SuccessfulExit says = behind SuccessfulExit (holding r) (wanting r.wants) (behind SuccessfulExit (when r.wants.demand Demand) (when (nat_lt 0 r.wants.connections) (Connections r.wants.connections) ++ (when r.wants.keep_alive KeepAlive ++ (when r.wants.successful_exit SuccessfulExit ++ (when r.wants.crashed Crashed ++ (when r.wants.path_state PathState ++ (when r.wants.queue_directories QueueDirectories ++ (when (not (some_want r.wants)) NotWanted))))))) (behind SuccessfulExit (when (nat_lt 0 r.wants.connections) (Connections r.wants.connections)) (when r.wants.keep_alive KeepAlive ++ (when r.wants.successful_exit SuccessfulExit ++ (when r.wants.crashed Crashed ++ (when r.wants.path_state PathState ++ (when r.wants.queue_directories QueueDirectories ++ (when (not (some_want r.wants)) NotWanted)))))) (behind SuccessfulExit (when r.wants.keep_alive KeepAlive) (when r.wants.successful_exit SuccessfulExit ++ (when r.wants.crashed Crashed ++ (when r.wants.path_state PathState ++ (when r.wants.queue_directories QueueDirectories ++ (when (not (some_want r.wants)) NotWanted))))) (in_front SuccessfulExit (when r.wants.successful_exit SuccessfulExit) (when r.wants.crashed Crashed ++ (when r.wants.path_state PathState ++ (when r.wants.queue_directories QueueDirectories ++ (when (not (some_want r.wants)) NotWanted)))) (of_when r.wants.successful_exit SuccessfulExit says)))))
each_among r Crashed says = behind Crashed (holding r) (wanting r.wants) (behind Crashed (when r.wants.demand Demand) (when (nat_lt 0 r.wants.connections) (Connections r.wants.connections) ++ (when r.wants.keep_alive KeepAlive ++ (when r.wants.successful_exit SuccessfulExit ++ (when r.wants.crashed Crashed ++ (when r.wants.path_state PathState ++ (when r.wants.queue_directories QueueDirectories ++ (when (not (some_want r.wants)) NotWanted))))))) (behind Crashed (when (nat_lt 0 r.wants.connections) (Connections r.wants.connections)) (when r.wants.keep_alive KeepAlive ++ (when r.wants.successful_exit SuccessfulExit ++ (when r.wants.crashed Crashed ++ (when r.wants.path_state PathState ++ (when r.wants.queue_directories QueueDirectories ++ (when (not (some_want r.wants)) NotWanted)))))) (behind Crashed (when r.wants.keep_alive KeepAlive) (when r.wants.successful_exit SuccessfulExit ++ (when r.wants.crashed Crashed ++ (when r.wants.path_state PathState ++ (when r.wants.queue_directories QueueDirectories ++ (when (not (some_want r.wants)) NotWanted))))) (behind Crashed (when r.wants.successful_exit SuccessfulExit) (when r.wants.crashed Crashed ++ (when r.wants.path_state PathState ++ (when r.wants.queue_directories QueueDirectories ++ (when (not (some_want r.wants)) NotWanted)))) (in_front Crashed (when r.wants.crashed Crashed) (when r.wants.path_state PathState ++ (when r.wants.queue_directories QueueDirectories ++ (when (not (some_want r.wants)) NotWanted))) (of_when r.wants.crashed Crashed says))))))
each_among r PathState says = behind PathState (holding r) (wanting r.wants) (behind PathState (when r.wants.demand Demand) (when (nat_lt 0 r.wants.connections) (Connections r.wants.connections) ++ (when r.wants.keep_alive KeepAlive ++ (when r.wants.successful_exit SuccessfulExit ++ (when r.wants.crashed Crashed ++ (when r.wants.path_state PathState ++ (when r.wants.queue_directories QueueDirectories ++ (when (not (some_want r.wants)) NotWanted))))))) (behind PathState (when (nat_lt 0 r.wants.connections) (Connections r.wants.connections)) (when r.wants.keep_alive KeepAlive ++ (when r.wants.successful_exit SuccessfulExit ++ (when r.wants.crashed Crashed ++ (when r.wants.path_state PathState ++ (when r.wants.queue_directories QueueDirectories ++ (when (not (some_want r.wants)) NotWanted)))))) (behind PathState (when r.wants.keep_alive KeepAlive) (when r.wants.successful_exit SuccessfulExit ++ (when r.wants.crashed Crashed ++ (when r.wants.path_state PathState ++ (when r.wants.queue_directories QueueDirectories ++ (when (not (some_want r.wants)) NotWanted))))) (behind PathState (when r.wants.successful_exit SuccessfulExit) (when r.wants.crashed Crashed ++ (when r.wants.path_state PathState ++ (when r.wants.queue_directories QueueDirectories ++ (when (not (some_want r.wants)) NotWanted)))) (behind PathState (when r.wants.crashed Crashed) (when r.wants.path_state PathState ++ (when r.wants.queue_directories QueueDirectories ++ (when (not (some_want r.wants)) NotWanted))) (in_front PathState (when r.wants.path_state PathState) (when r.wants.queue_directories QueueDirectories ++ (when (not (some_want r.wants)) NotWanted)) (of_when r.wants.path_state PathState says)))))))
each_among r QueueDirectories says = behind QueueDirectories (holding r) (wanting r.wants) (behind QueueDirectories (when r.wants.demand Demand) (when (nat_lt 0 r.wants.connections) (Connections r.wants.connections) ++ (when r.wants.keep_alive KeepAlive ++ (when r.wants.successful_exit SuccessfulExit ++ (when r.wants.crashed Crashed ++ (when r.wants.path_state PathState ++ (when r.wants.queue_directories QueueDirectories ++ (when (not (some_want r.wants)) NotWanted))))))) (behind QueueDirectories (when (nat_lt 0 r.wants.connections) (Connections r.wants.connections)) (when r.wants.keep_alive KeepAlive ++ (when r.wants.successful_exit SuccessfulExit ++ (when r.wants.crashed Crashed ++ (when r.wants.path_state PathState ++ (when r.wants.queue_directories QueueDirectories ++ (when (not (some_want r.wants)) NotWanted)))))) (behind QueueDirectories (when r.wants.keep_alive KeepAlive) (when r.wants.successful_exit SuccessfulExit ++ (when r.wants.crashed Crashed ++ (when r.wants.path_state PathState ++ (when r.wants.queue_directories QueueDirectories ++ (when (not (some_want r.wants)) NotWanted))))) (behind QueueDirectories (when r.wants.successful_exit SuccessfulExit) (when r.wants.crashed Crashed ++ (when r.wants.path_state PathState ++ (when r.wants.queue_directories QueueDirectories ++ (when (not (some_want r.wants)) NotWanted)))) (behind QueueDirectories (when r.wants.crashed Crashed) (when r.wants.path_state PathState ++ (when r.wants.queue_directories QueueDirectories ++ (when (not (some_want r.wants)) NotWanted))) (behind QueueDirectories (when r.wants.path_state PathState) (when r.wants.queue_directories QueueDirectories ++ (when (not (some_want r.wants)) NotWanted)) (in_front QueueDirectories (when r.wants.queue_directories QueueDirectories) (when (not (some_want r.wants)) NotWanted) (of_when r.wants.queue_directories QueueDirectories says))))))))
each_among r NotWanted says = behind NotWanted (holding r) (wanting r.wants) (behind NotWanted (when r.wants.demand Demand) (when (nat_lt 0 r.wants.connections) (Connections r.wants.connections) ++ (when r.wants.keep_alive KeepAlive ++ (when r.wants.successful_exit SuccessfulExit ++ (when r.wants.crashed Crashed ++ (when r.wants.path_state PathState ++ (when r.wants.queue_directories QueueDirectories ++ (when (not (some_want r.wants)) NotWanted))))))) (behind NotWanted (when (nat_lt 0 r.wants.connections) (Connections r.wants.connections)) (when r.wants.keep_alive KeepAlive ++ (when r.wants.successful_exit SuccessfulExit ++ (when r.wants.crashed Crashed ++ (when r.wants.path_state PathState ++ (when r.wants.queue_directories QueueDirectories ++ (when (not (some_want r.wants)) NotWanted)))))) (behind NotWanted (when r.wants.keep_alive KeepAlive) (when r.wants.successful_exit SuccessfulExit ++ (when r.wants.crashed Crashed ++ (when r.wants.path_state PathState ++ (when r.wants.queue_directories QueueDirectories ++ (when (not (some_want r.wants)) NotWanted))))) (behind NotWanted (when r.wants.successful_exit SuccessfulExit) (when r.wants.crashed Crashed ++ (when r.wants.path_state PathState ++ (when r.wants.queue_directories QueueDirectories ++ (when (not (some_want r.wants)) NotWanted)))) (behind NotWanted (when r.wants.crashed Crashed) (when r.wants.path_state PathState ++ (when r.wants.queue_directories QueueDirectories ++ (when (not (some_want r.wants)) NotWanted))) (behind NotWanted (when r.wants.path_state PathState) (when r.wants.queue_directories QueueDirectories ++ (when (not (some_want r.wants)) NotWanted)) (behind NotWanted (when r.wants.queue_directories QueueDirectories) (when (not (some_want r.wants)) NotWanted) (of_none r.wants says))))))))

says_all : (r : Reasons) → SaysEach r (holding r ++ wanting r.wants)
says_all r = says_both r (holding r) (wanting r.wants)
    (says_both r _ _ (says_when r r.is_removing Removing (λ is. is)) (says_both r _ _ (says_child r r.child refl) (says_both r _ _ (says_awaited r r.awaited refl) (says_both r _ _ (says_when r r.is_launch_spent LaunchSpent (λ is. is)) (says_both r _ _ (says_when r r.are_runs_spent RunsSpent (λ is. is)) (says_throttle r r.throttled_until refl))))))
    (says_both r _ _ (says_when r r.wants.demand Demand (λ is. is)) (says_both r _ _ (says_when r (nat_lt 0 r.wants.connections) (Connections r.wants.connections) (λ is. (refl, some_wait r.wants.connections is))) (says_both r _ _ (says_when r r.wants.keep_alive KeepAlive (λ is. is)) (says_both r _ _ (says_when r r.wants.successful_exit SuccessfulExit (λ is. is)) (says_both r _ _ (says_when r r.wants.crashed Crashed (λ is. is)) (says_both r _ _ (says_when r r.wants.path_state PathState (λ is. is)) (says_both r _ _ (says_when r r.wants.queue_directories QueueDirectories (λ is. is)) (says_when r (not (some_want r.wants)) NotWanted (λ is. no_want (some_want r.wants) is)))))))))

rises_wanting : (r : Reasons) → RisesFrom 6 (wanting r.wants)
rises_wanting r =
    rises_when r.wants.demand Demand 6 _ (omega arith) (rises_when (nat_lt 0 r.wants.connections) (Connections r.wants.connections) 7 _ (omega arith) (rises_when r.wants.keep_alive KeepAlive 8 _ (omega arith) (rises_when r.wants.successful_exit SuccessfulExit 9 _ (omega arith) (rises_when r.wants.crashed Crashed 10 _ (omega arith) (rises_when r.wants.path_state PathState 11 _ (omega arith) (rises_when r.wants.queue_directories QueueDirectories 12 _ (omega arith) (rises_last (not (some_want r.wants)))))))))

-- six lists and one after them, one after the other
in_a_row : (a b c d e f w : List JobCause) → (a ++ (b ++ (c ++ (d ++ (e ++ f))))) ++ w ≡ a ++ (b ++ (c ++ (d ++ (e ++ (f ++ w)))))
in_a_row a b c d e f w =
    append_assoc a (b ++ (c ++ (d ++ (e ++ f)))) w
    ∙ ap (λ x. a ++ x) (append_assoc b (c ++ (d ++ (e ++ f))) w
    ∙ ap (λ x. b ++ x) (append_assoc c (d ++ (e ++ f)) w
    ∙ ap (λ x. c ++ x) (append_assoc d (e ++ f) w
    ∙ ap (λ x. d ++ x) (append_assoc e f w))))

rises_all : (r : Reasons) → RisesFrom 0 (holding r ++ wanting r.wants)
rises_all r =
    subst (RisesFrom 0) (sym (in_a_row (when r.is_removing Removing) (child_in r.child) (awaited_in r.awaited) (when r.is_launch_spent LaunchSpent) (when r.are_runs_spent RunsSpent) (throttle_in r.throttled_until) (wanting r.wants)))
    (rises_when r.is_removing Removing 0 _ (omega arith) (rises_child r.child _ (rises_awaited r.awaited _
    (rises_when r.is_launch_spent LaunchSpent 3 _ (omega arith) (rises_when r.are_runs_spent RunsSpent 4 _ (omega arith) (rises_throttle r.throttled_until _ (rises_wanting r)))))))

pub are_causes : (r : Reasons) (causes : List JobCause) → causes ≡ causes_holding r ++ causes_wanting r.wants → AreCauses r causes
are_causes r causes is = subst (AreCauses r) (sym (is ∙ (λ i. holding_is r i ++ wanting_is r.wants i))) (record { all = each_among r; only = says_all r; order = rises_all r })
