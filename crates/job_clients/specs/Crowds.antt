-- The clients whose request still comes, as lists.
use Rattle.std.specs.Prelude.{ℕ, ◌+◌, ◌≤◌, ◌&&◌, ◌==◌, List, map, vec_capacity, vec_len, is_some, if◌then◌else◌}
use Rattle.slab.specs.Slab.{Slab, entries, slab_len}
use Rattle.job_clients.specs.declared.caller.Caller.{Caller}
use Rattle.job_clients.specs.declared.callers.Callers.{Callers}
use Rattle.job_clients.specs.declared.places.Received.{Received}

-- The `up` at which a client counts as come, for one that comes now by this bind. If it is of the same job and its request is
-- whole, it counts as come now.
abbrev pub came_before : {C : Type 0} → ℕ → ℕ → Caller C → ℕ
came_before bind up caller =
    if is_some caller.turn && caller.origin.bind == bind then up else caller.came

-- a client under its key, for one that comes now by this bind
abbrev pub received_of : {C : Type 0} → ℕ → ℕ → (ℕ × Caller C) → Received
received_of bind up entry =
    record { key = entry.0; bind = entry.1.origin.bind; came = came_before bind up entry.1 }

-- all clients, by their keys
abbrev pub received_in : {C : Type 0} → ℕ → ℕ → Slab (Caller C) → List Received
received_in bind up held = map (received_of bind up) (entries held)

abbrev pub bind_of : {C : Type 0} → (ℕ × Caller C) → ℕ
bind_of entry = entry.1.origin.bind

-- the bind of each client, by their keys
abbrev pub binds_in : {C : Type 0} → Slab (Caller C) → List ℕ
binds_in held = map bind_of (entries held)

-- There is room to list the bind of each client that is heard or waits; and each client. `Callers::new` takes room for 256 of each.
abbrev pub CanListBinds : {C : Type 0} → Callers C → Type 0
CanListBinds callers = slab_len callers.held + vec_len callers.waits ≤ vec_capacity callers.binds

abbrev pub CanListClients : {C : Type 0} → Callers C → Type 0
CanListClients callers = slab_len callers.held ≤ vec_capacity callers.received
