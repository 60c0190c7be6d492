-- What a load asks of the outside: sockets to be bound, and a setting to be stored.
use Rattle.std.specs.Prelude.{◌≡◌, ℕ, Bool, true, false, not, ◌&&◌, List, [], ◌∷◌, Option, if◌then◌else◌}
use Rattle.child_edge.specs.Calls.{Tells, is_done, ToldCall}
use Rattle.child_edge.specs.declared.plain.EdgeCall.TheVariants.{Bind, Release}
use Rattle.child_edge.specs.declared.plain.Scripted.{Scripted}
use Rattle.child_edge.specs.declared.plain.Scripted.TheVariants.{Done}
use Rattle.history_model.specs.Described.{Described}
use Rattle.history_model.specs.Definitions.{has_sockets}
use Rattle.ctl_protocol.specs.declared.request.Outside.{Outside}
use Rattle.outside.specs.Stores.{StoreCall, AreTold, store_calls}

-- The calls of a load, with this answer to the bind: none for a job without sockets. Sockets that
-- were bound are given up if the store then refused.
abbrev pub load_entries : Bool → ℕ → Outside → Scripted → List ToldCall
load_entries false job outside bound = []
load_entries true job outside bound =
    (Bind job, bound) ∷ (if outside.bind && not outside.store then (Release job, Done) ∷ [] else [])

-- the calls of the edge and of the store, as far as they record them
pub record Told : Type 0 where
  pub calls : Option (List ToldCall)
  pub stores : Option (List StoreCall)

-- as they record it
abbrev pub told_of : Option (List ToldCall) → Option (List StoreCall) → Told
told_of calls stores = record { calls = calls; stores = stores }

-- Each was asked once, in this order: the sockets; then, if they are bound and a setting is to be
-- written, the store. The answers are those that were given; what was not asked counts as true.
pub record Asks (job : ℕ) (d : Described) (writes_setting : Bool) (changed : ℕ) (outside : Outside)
    (before after : Told) : Type 0 where
  pub bound : Scripted
  pub tells : Tells before.calls (load_entries (has_sockets d) job outside bound) after.calls
  pub stores : AreTold before.stores
      (store_calls (writes_setting && outside.bind) d.label changed outside.store) after.stores
  pub bind : outside.bind ≡ (if has_sockets d then is_done bound else true)
  pub store : (writes_setting && outside.bind) ≡ false → outside.store ≡ true
