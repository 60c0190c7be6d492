-- What an item is: tests on one item, an order, an answer (launchctl(1): stop, unload, kickstart
-- -k; launchd(8)).
use Rattle.std.specs.Prelude.{ℕ, ◌==◌, Bool, true, false, not, ◌&&◌, cond, Option, Some, None}
use Rattle.history_model.specs.declared.Act.{Act}
use Rattle.history_model.specs.declared.Act.TheVariants.{Spawn, Term, Kill}
use Rattle.history_model.specs.declared.Ask.TheVariants.{Stop, Unload, Shutdown, Kickstart}
use Rattle.history_model.specs.declared.Answer.{Answer}
use Rattle.history_model.specs.declared.Answer.TheVariants.{Spawned, SpawnRefused, Termed, Killed}
use Rattle.history_model.specs.Items.{Item, Asked, Ordered, Answered, RunEnded}
use Rattle.history_model.specs.declared.Child.{Child}

-- ---- orders

-- the order is a spawn
abbrev pub is_spawn : Act → Bool
is_spawn (Spawn run conn) = true
is_spawn _ = false

-- the item is the order of a spawn
abbrev pub is_spawn_order : Item → Bool
is_spawn_order (Ordered act) = is_spawn act
is_spawn_order _ = false

-- the order that the item is
abbrev pub order_in : Item → Option Act
order_in (Ordered act) = Some act
order_in _ = None

-- the item is an order
abbrev pub is_order : Item → Bool
is_order (Ordered act) = true
is_order _ = false

-- the order is a spawn, if there is one
abbrev pub is_some_spawn : Option Act → Bool
is_some_spawn None = false
is_some_spawn (Some act) = is_spawn act

-- the order is the spawn of the run
abbrev pub is_spawn_of : ℕ → Act → Bool
is_spawn_of r (Spawn run conn) = run == r
is_spawn_of r _ = false

-- the order is a TERM for the run
abbrev pub is_term : ℕ → Act → Bool
is_term r (Term run) = run == r
is_term r _ = false

-- the item is the order of a TERM for the run
abbrev pub is_term_order : ℕ → Item → Bool
is_term_order r (Ordered act) = is_term r act
is_term_order r _ = false

-- the order is a KILL for the run
abbrev pub is_kill : ℕ → Act → Bool
is_kill r (Kill run) = run == r
is_kill r _ = false

-- the order is a TERM or a KILL for the run
abbrev pub is_stopping_act : ℕ → Act → Bool
is_stopping_act r (Term run) = run == r
is_stopping_act r (Kill run) = run == r
is_stopping_act r _ = false

-- the item is the order of a TERM or a KILL for the run
abbrev pub is_stopping_order : ℕ → Item → Bool
is_stopping_order r (Ordered act) = is_stopping_act r act
is_stopping_order r _ = false

-- ---- answers and ends

-- the child that began, if the answer is that its spawn succeeded
abbrev pub spawned_by : Answer → Option Child
spawned_by (Spawned run pid) = Some (record { run = run; pid = pid })
spawned_by _ = None

-- the child that began, if the item says that its spawn succeeded
abbrev pub spawned_in : Item → Option Child
spawned_in (Answered answer) = spawned_by answer
spawned_in _ = None

-- the answer is that the spawn of the run succeeded
abbrev pub is_spawned : ℕ → Answer → Bool
is_spawned r (Spawned run pid) = run == r
is_spawned r _ = false

-- the item says that the spawn of the run succeeded
abbrev pub is_spawned_answer : ℕ → Item → Bool
is_spawned_answer r (Answered answer) = is_spawned r answer
is_spawned_answer r _ = false

-- the answer is that a spawn was refused
abbrev pub is_refused_spawn : Answer → Bool
is_refused_spawn (SpawnRefused run) = true
is_refused_spawn _ = false

-- the item says that a spawn was refused
abbrev pub is_spawn_refusal : Item → Bool
is_spawn_refusal (Answered answer) = is_refused_spawn answer
is_spawn_refusal _ = false

-- the answer is that a TERM for the run was accepted (was refused, as the flag says)
abbrev pub is_termed : Bool → ℕ → Answer → Bool
is_termed accepted r (Termed run ok) = (run == r) && cond accepted ok (not ok)
is_termed accepted r _ = false

-- the item says that a TERM for the run was accepted (was refused, as the flag says)
abbrev pub is_term_answer : Bool → ℕ → Item → Bool
is_term_answer accepted r (Answered answer) = is_termed accepted r answer
is_term_answer accepted r _ = false

-- the answer is that a KILL for the run was accepted (was refused, as the flag says)
abbrev pub is_killed : Bool → ℕ → Answer → Bool
is_killed accepted r (Killed run ok) = (run == r) && cond accepted ok (not ok)
is_killed accepted r _ = false

-- the item says that a KILL for the run was accepted (was refused, as the flag says)
abbrev pub is_kill_answer : Bool → ℕ → Item → Bool
is_kill_answer accepted r (Answered answer) = is_killed accepted r answer
is_kill_answer accepted r _ = false

-- the item is the end of the run
abbrev pub is_end_of : ℕ → Item → Bool
is_end_of r (RunEnded run how) = run == r
is_end_of r _ = false

-- ---- what was asked

-- a client asked for the end of the run: stop, unload or shutdown
abbrev pub is_stop : Item → Bool
is_stop (Asked Stop) = true
is_stop (Asked Unload) = true
is_stop (Asked Shutdown) = true
is_stop _ = false

-- a client asked for the end of the run at once: kickstart -k
abbrev pub is_strike : Item → Bool
is_strike (Asked (Kickstart kills_first)) = kills_first
is_strike _ = false

-- a client asked that the job be removed: unload or shutdown
abbrev pub is_removal : Item → Bool
is_removal (Asked Unload) = true
is_removal (Asked Shutdown) = true
is_removal _ = false
