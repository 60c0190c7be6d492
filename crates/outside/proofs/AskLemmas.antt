-- What was asked, case by case.
use Rattle.std.proofs.Common.{◌≡◌, ℕ, Bool, true, false, not, ◌&&◌, List, [], ◌∷◌, Option, refl, sym, ap, subst, ◌∙◌}
use Rattle.std.specs.Prelude.{if◌then◌else◌}
use Rattle.std.proofs.lemmas.List.{append-nil}
use Rattle.child_edge.specs.Calls.{Tells, fault_answer, is_done, ToldCall}
use Rattle.child_edge.specs.declared.plain.EdgeCall.TheVariants.{Bind, Release}
use Rattle.child_edge.specs.declared.plain.EdgeFault.{EdgeFault}
use Rattle.child_edge.specs.declared.plain.EdgeFault.TheVariants as faults
use Rattle.child_edge.specs.declared.plain.Scripted.TheVariants.{Done}
use Rattle.child_edge.proofs.CallsLemmas.{tells_nothing, tells_append}
use Rattle.history_model.specs.Described.{Described}
use Rattle.history_model.specs.Definitions.{has_sockets}
use Rattle.outside.specs.Asking.{Asks, load_entries, told_of}
use Rattle.outside.specs.Stores.{StoreCall, AreTold, store_calls}
use Rattle.history_model.proofs.BooleanLemmas.{and-true, and-false}

-- nothing was asked of the store
pub told_nothing : (a : Option (List StoreCall)) → AreTold a [] a
told_nothing a = λ after is. (after, is, sym (append-nil after))

module _ (job : ℕ) (d : Described) (writes_setting : Bool) (changed : ℕ) (a b c : Option (List ToldCall)) (s t : Option (List StoreCall)) where
  -- once the sockets are bound, or if there are none, the store is asked as writes_setting says
  store_calls_made : (store : Bool) → AreTold s (store_calls writes_setting d.label changed store) t → AreTold s (store_calls (writes_setting && true) d.label changed store) t
  store_calls_made store told = subst (λ v. AreTold s (store_calls v d.label changed store) t) (sym (and-true writes_setting)) told

  -- a job without sockets
  pub without : (store : Bool) → has_sockets d ≡ false → (writes_setting ≡ false → store ≡ true) → AreTold s (store_calls writes_setting d.label changed store) t →
      Asks job d writes_setting changed (record { bind = true; store = store }) (told_of a s) (told_of a t)
  without store none uncalled told = record {
    bound = Done;
    tells = subst (λ v. Tells a (load_entries v job (record { bind = true; store = store }) Done) a) (sym none) (tells_nothing a);
    stores = store_calls_made store told;
    bind = sym (ap (λ v. if v then true else true) none);
    store = λ e. uncalled (sym (and-true writes_setting) ∙ e);
  }

  -- a bind that went well, and a store that did not refuse
  pub stored : (store : Bool) → has_sockets d ≡ true → store ≡ true → (writes_setting ≡ false → store ≡ true) → AreTold s (store_calls writes_setting d.label changed store) t →
      Tells a ((Bind job, Done) ∷ []) b → Asks job d writes_setting changed (record { bind = true; store = store }) (told_of a s) (told_of b t)
  stored store some is uncalled told tells = record {
    bound = Done;
    tells = subst (λ v. Tells a (load_entries v job (record { bind = true; store = store }) Done) b) (sym some)
        (subst (λ v. Tells a ((Bind job, Done) ∷ (if not v then (Release job, Done) ∷ [] else [])) b) (sym is) tells);
    stores = store_calls_made store told;
    bind = sym (ap (λ v. if v then true else true) some);
    store = λ e. uncalled (sym (and-true writes_setting) ∙ e);
  }

  -- a bind that went well, and a store that refused
  pub released : (store : Bool) → has_sockets d ≡ true → store ≡ false → (writes_setting ≡ false → store ≡ true) → AreTold s (store_calls writes_setting d.label changed store) t →
      Tells a ((Bind job, Done) ∷ []) b → Tells b ((Release job, Done) ∷ []) c → Asks job d writes_setting changed (record { bind = true; store = store }) (told_of a s) (told_of c t)
  released store some is uncalled told first second = record {
    bound = Done;
    tells = subst (λ v. Tells a (load_entries v job (record { bind = true; store = store }) Done) c) (sym some)
        (subst (λ v. Tells a ((Bind job, Done) ∷ (if not v then (Release job, Done) ∷ [] else [])) c) (sym is) (tells_append a b c ((Bind job, Done) ∷ []) ((Release job, Done) ∷ []) first second));
    stores = store_calls_made store told;
    bind = sym (ap (λ v. if v then true else true) some);
    store = λ e. uncalled (sym (and-true writes_setting) ∙ e);
  }

-- a bind that was refused
fault-not-done : (fault : EdgeFault) → is_done (fault_answer fault) ≡ false
fault-not-done faults.NoMemory = refl
fault-not-done faults.Refused = refl

pub unbound : (job : ℕ) (d : Described) (writes_setting : Bool) (changed : ℕ) (fault : EdgeFault) (a b : Option (List ToldCall)) (s : Option (List StoreCall)) → has_sockets d ≡ true →
    Tells a ((Bind job, fault_answer fault) ∷ []) b → Asks job d writes_setting changed (record { bind = false; store = true }) (told_of a s) (told_of b s)
unbound job d writes_setting changed fault a b s some tells = record {
  bound = fault_answer fault;
  tells = subst (λ v. Tells a (load_entries v job (record { bind = false; store = true }) (fault_answer fault)) b) (sym some) tells;
  stores = subst (λ v. AreTold s (store_calls v d.label changed true) s) (sym (and-false writes_setting)) (told_nothing s);
  bind = sym (ap (λ v. if v then is_done (fault_answer fault) else true) some ∙ fault-not-done fault);
  store = λ e. refl;
}
