-- The clients, each under its key, by what their slab holds.
use Rattle.std.proofs.Common.{◌≡◌, ◌⊎◌, inl, inr, ℕ, List, [], Option, Some, None, Result, Ok, Err, refl, ap, subst, ◌∙◌}
use Rattle.std.specs.Option.{option_map}
use Rattle.std.specs.Prelude.{IfOk, OnErr}
use Rattle.slab.specs.Slab.{Slab, SameValues, Updates, get}
use Rattle.job_clients.specs.Callers.{ComesIn, Enters, GrowsAt, GrowsFrom, ReceivesAt, ReceivesIf, IsShort, MayComeIn, Sets, coming_at, coming_of}
use Rattle.job_clients.specs.declared.caller.Caller.{Caller}
use Rattle.job_clients.specs.declared.caller.Gathered.{Gathered}
use Rattle.job_clients.specs.declared.caller.Origin.{Origin}

module _ {C : Type 0} where
  -- what is under each key, by what the slab has there
  pub sets_by : (key : ℕ) (slot : Option (Caller C)) (old new : Slab (Caller C)) → Updates old new key slot → Sets key (option_map coming_of slot) (coming_at old) (coming_at new)
  sets_by key slot old new updates = record {
    its = ap (option_map coming_of) updates.changed;
    others = λ other apart. ap (option_map coming_of) (updates.others other apart);
  }

module _ {C : Type 0} (remaining : C → Option (List ℕ)) where
  enters_by : (origin : Origin) (client : C) (old new : Slab (Caller C)) → Enters remaining origin client old new → ComesIn origin (coming_at old) (coming_at new)
  enters_by origin client old new enters =
      let same : coming_of enters.caller ≡ record { origin = origin; request = [] } = λ i. record { origin = enters.of_origin i; request = enters.request i } in
      record {
        key = enters.key;
        was_free = ap (option_map coming_of) enters.was_free;
        set = subst (λ c. Sets enters.key (Some c) (coming_at old) (coming_at new)) same (sets_by enters.key (Some enters.caller) old new enters.updates);
      }

  pub may_come_in : (origin : Origin) (client : C) (old new : Slab (Caller C)) → Enters remaining origin client old new ⊎ SameValues old new → MayComeIn origin (coming_at old) (coming_at new)
  may_come_in origin client old new (inl enters) = inl (enters_by origin client old new enters)
  may_come_in origin client old new (inr same) = inr (λ i key. option_map coming_of (same key i))

  pub grows_by : (key : ℕ) (gathered : Gathered) (old new : Slab (Caller C)) → ReceivesAt remaining key gathered old new → GrowsAt key (coming_at old) (coming_at new)
  grows_by key gathered old new receives = go (get old key) (get new key) refl receives.its where
    go : (a b : Option (Caller C)) → get new key ≡ b → ReceivesIf remaining gathered a b → GrowsFrom key (option_map coming_of a) (coming_at old) (coming_at new)
    go None b is none = record {
      its = ap (option_map coming_of) (is ∙ none);
      others = λ other apart. ap (option_map coming_of) (receives.others other apart);
    }
    go (Some a) None is it = absurd it
    go (Some a) (Some b) is it = (
      it.bytes,
      (λ short. subst IsShort it.grows.request (it.grows.within short)),
      record {
        its = ap (option_map coming_of) is ∙ (λ i. Some (record { origin = it.grows.origin i; request = it.grows.request i }));
        others = λ other apart. ap (option_map coming_of) (receives.others other apart);
      },
    )

-- a client is held under the key that the slab picked, or there was no memory for it
pub inserted : {C E : Type 0} (remaining : C → Option (List ℕ)) (origin : Origin) (client : C) (caller : Caller C) (result : Result ℕ E) (old new : Slab (Caller C)) →
    IfOk result (λ key. get old key ≡ None) → IfOk result (λ key. Updates old new key (Some caller)) → OnErr result (new ≡ record old { capacity = new.capacity }) →
    caller.origin ≡ origin → caller.exchange.request ≡ [] → remaining caller.client ≡ remaining client → Enters remaining origin client old new ⊎ SameValues old new
inserted remaining origin client caller (Ok key) old new free updates err of_origin empty sends =
    inl (record { key = key; was_free = free; caller = caller; updates = updates; of_origin = of_origin; request = empty; sends = sends })
inserted {C = C} remaining origin client caller (Err failed) old new free updates err of_origin empty sends = inr (λ key. ap (λ (s : Slab (Caller C)). get s key) err)
