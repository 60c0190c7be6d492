-- Room for clients, by the descriptors that a process may have.
use Rattle.std.specs.Prelude.{ℕ, ◌+◌, ◌-◌, ◌/◌, min, nat_le, Option, Some, None, if◌then◌else◌}

-- Of the descriptors beyond 32 and the sockets of jobs that listen, each connection takes two. With each one, one
-- client more is heard and one control client served: four together. There is room for one at least, if there are 32
-- descriptors and one for each of these sockets, and for 256 at most.
abbrev pub room_by : Option ℕ → ℕ → ℕ
room_by None listeners = 256
room_by (Some limit) listeners =
    if nat_le (32 + listeners) limit then min ((limit - 32 - listeners) / 4 + 1) 256 else 0
