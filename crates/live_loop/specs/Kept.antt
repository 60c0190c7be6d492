-- What a part of a pass leaves as it was: with which job's child the next pass begins, and what the path checks
-- remember.
use Rattle.std.specs.Prelude.{◌≡◌, ℕ, Option}
use Rattle.job_clients.specs.Callers.{coming_in}
use Rattle.live_loop.specs.declared.job_sockets.JobSockets.{JobSockets}
use Rattle.live_loop.specs.declared.live.Live.{Live}
use Rattle.live_loop.specs.Rounds.{Desk, Left, desk_with}
use Rattle.live_loop.specs.Observing.{known_in, next_in, walk_in, later_in}

-- the clients of jobs' sockets, and the number of the next
abbrev pub desk_in : JobSockets → Desk
desk_in sockets = desk_with sockets.conn (coming_in sockets.callers)

pub record IsLookKeptBy {H : Type 0} (old new : Live H) : Type 0 where
  pub child : new.next_child ≡ old.next_child
  pub observations : new.rooms.observations ≡ old.rooms.observations

-- the same, and the clients of jobs' sockets with the number of the next
pub record IsKeptBy {H : Type 0} (old new : Live H) : Type 0 where
  pub child : new.next_child ≡ old.next_child
  pub observations : new.rooms.observations ≡ old.rooms.observations
  pub desk : desk_in new.rooms.sockets ≡ desk_in old.rooms.sockets

-- what a pass leaves for the next
abbrev pub left_in : {H : Type 0} → Live H → Left H
left_in live = record {
  host = live.host;
  child = live.next_child;
  desk = desk_in live.rooms.sockets;
  look = next_in live.rooms.observations;
  walk = walk_in live.rooms.observations;
  later = later_in live.rooms.observations;
  known = known_in live.rooms.observations;
}

-- the `up` of the pass that first found that no job is left after a shutdown
abbrev pub ended_in : {H : Type 0} → Live H → Option ℕ
ended_in live = live.ended_at
