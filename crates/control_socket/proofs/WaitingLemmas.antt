-- Clients that wait in one part, and then in another.
use Rattle.std.proofs.Common.{◌≡◌, ◌≢◌, ◌⊎◌, ◌==◌, ◌<◌, ◌≤◌, ℕ, nat_lt, length, Bool, true, false, Option, Some, None, IfSome, IsSome, inl, inr, refl, sym, ap, subst, ◌∙◌, arith}
use Rattle.std.proofs.Math.ListN.{get_or-eq_default}
use Rattle.std.proofs.lemmas.List.{get_or-set_same, get_or-set_other}
use Rattle.std.proofs.lemmas.Bool.Decides.{nat_tests}
use Rattle.slab.specs.Slab.{Slab, Updates, get, with_value}
use Rattle.control_socket.specs.declared.client.Client.{Client}
use Rattle.control_socket.specs.declared.dialogue.Dialogue.{Dialogue}
use Rattle.control_socket.specs.Dialogues.{ReceivesOn, Reads, not_received, received_on}
use Rattle.control_socket.specs.Clients.{AllWait, Comes, IsFresh, MayGo, StandsStill, Waits, WaitsAt, WaitsOn, WaitsOrComes, WaitsOrGoes}

receives_append : {first mid new : Dialogue} → ReceivesOn first mid → ReceivesOn mid new → ReceivesOn first new
receives_append receives not_received = receives
receives_append receives (received_on more last) = received_on (receives_append receives more) last

pub waits_same : (client : Client) → Waits client client
waits_same client = record { taken = refl; receives = inr (refl, not_received) }

pub waits_kept : {old new : Client} → new.taken ≡ old.taken → new.failed ≡ old.failed → new.dialogue ≡ old.dialogue → Waits old new
waits_kept {old = old} taken failed same = record { taken = taken; receives = inr (failed, subst (λ d. ReceivesOn old.dialogue d) (sym same) not_received) }

pub waits_read : {old new : Client} → new.taken ≡ old.taken → new.failed ≡ old.failed → Reads old.dialogue new.dialogue → Waits old new
waits_read taken failed reads = record { taken = taken; receives = inr (failed, received_on not_received reads) }

waits_append : {first mid new : Client} → Waits first mid → Waits mid new → Waits first new
waits_append {first = first} {mid = mid} {new = new} one more = record { taken = more.taken ∙ one.taken; receives = go one.receives more.receives } where
  go : (IsSome mid.failed ⊎ ((mid.failed ≡ first.failed) × ReceivesOn first.dialogue mid.dialogue)) →
      (IsSome new.failed ⊎ ((new.failed ≡ mid.failed) × ReceivesOn mid.dialogue new.dialogue)) →
      IsSome new.failed ⊎ ((new.failed ≡ first.failed) × ReceivesOn first.dialogue new.dialogue)
  go before (inl failed) = inl failed
  go (inl failed) (inr after) = inl (subst IsSome (sym after.0) failed)
  go (inr before) (inr after) = inr (after.0 ∙ before.0, receives_append before.1 after.1)

at_same : (up : ℕ) (client : Option Client) → WaitsOrComes up client client
at_same up None = tt
at_same up (Some client) = record { last = client; waits = waits_same client; ends = inl refl }

-- one that came waits on, or goes for another that came
comes_append : (up : ℕ) (mid new : Option Client) → IfSome mid Comes → WaitsOrComes up mid new → IfSome new Comes
comes_append up None new one more = more
comes_append up (Some mid) new one more = go more.ends where
  go : ((new ≡ Some more.last) ⊎ (MayGo up more.last × IfSome new Comes)) → IfSome new Comes
  go (inl stays) =
      let comes : Comes more.last = record { first = one.first; fresh = one.fresh; waits = waits_append one.waits more.waits } in
      subst (λ slot. IfSome slot Comes) (sym stays) comes
  go (inr may) = may.1

at_append : (up : ℕ) (first mid new : Option Client) → WaitsOrComes up first mid → WaitsOrComes up mid new → WaitsOrComes up first new
at_append up None mid new one more = comes_append up mid new one more
at_append up (Some first) mid new one more = go one.ends where
  go : ((mid ≡ Some one.last) ⊎ (MayGo up one.last × IfSome mid Comes)) → WaitsOrGoes up first new
  go (inl stays) =
      let next : WaitsOrGoes up one.last new = subst (λ slot. WaitsOrComes up slot new) stays more in
      record { last = next.last; waits = waits_append one.waits next.waits; ends = next.ends }
  go (inr may) = record { last = one.last; waits = one.waits; ends = inr (may.0, comes_append up mid new may.1 more) }

-- a key that has a client is one of the slots
pub inside_of : (key : ℕ) (slab : Slab Client) {client : Client} → get slab key ≡ Some client → key < length slab.slots
inside_of key slab {client = client} there = inside (nat_lt key (length slab.slots)) refl where
  inside : (b : Bool) → nat_lt key (length slab.slots) ≡ b → key < length slab.slots
  inside true is = grind (arith, nat_tests, is)
  inside false is =
      let far : length slab.slots ≤ key = grind (arith, nat_tests, is) in
      let clash : None ≡ Some client = sym (get_or-eq_default slab.slots None far) ∙ there in absurd (cc clash)

module _ {up : ℕ} where
  -- each key has what it had
  pub all_kept : {old new : Slab Client} → ((key : ℕ) → get new key ≡ get old key) → AllWait up old new
  all_kept {old = old} same = record { each = λ key. subst (λ slot. WaitsOrComes up (get old key) slot) (sym (same key)) (at_same up (get old key)) }

  pub all_same : {old new : Slab Client} → new ≡ old → AllWait up old new
  all_same same = all_kept (λ key. ap (λ slab. get slab key) same)

  all_append : {old mid new : Slab Client} → AllWait up old mid → AllWait up mid new → AllWait up old new
  all_append {old = old} {mid = mid} {new = new} one more = record { each = λ key. at_append up (get old key) (get mid key) (get new key) (one.each key) (more.each key) }

  -- in the same `serve`
  pub all_then : {then : ℕ} {old mid new : Slab Client} → then ≡ up → AllWait up old mid → AllWait then mid new → AllWait up old new
  all_then {mid = mid} {new = new} same one more = all_append one (subst (λ now. AllWait now mid new) same more)

  pub all_at : {key : ℕ} {old new : Slab Client} → WaitsAt key up old new → AllWait up old new
  all_at {key = key} {old = old} {new = new} waits = record { each = λ other. go other (other == key) refl } where
    go : (other : ℕ) (b : Bool) → (other == key) ≡ b → WaitsOrComes up (get old other) (get new other)
    go other true is =
        let same : other ≡ key = grind (arith, nat_tests, is) in
        subst (λ place. WaitsOrComes up (get old place) (get new place)) (sym same) waits.its
    go other false is =
        let differ : other ≢ key = (λ same. (let clash : ⊥ = grind (arith, nat_tests, is, same) in clash)) in
        subst (λ slot. WaitsOrComes up (get old other) slot) (sym (waits.others other differ)) (at_same up (get old other))

  -- the one of the key waits
  pub at_with : {key : ℕ} {slab : Slab Client} {old new : Client} → get slab key ≡ Some old → Waits old new → WaitsAt key up slab (with_value slab key new)
  at_with {key = key} {slab = slab} {old = old} {new = new} there waits = record {
    its = subst (λ slot. WaitsOrComes up slot (get (with_value slab key new) key)) (sym there)
        (record { last = new; waits = waits; ends = inl (get_or-set_same slab.slots key (Some new) None (inside_of key slab there)) });
    others = λ other differ. get_or-set_other slab.slots key other (Some new) None differ;
  }

  -- the one of the key goes, if it may
  pub gone : {key : ℕ} {old new : Slab Client} → IfSome (get old key) (MayGo up) → Updates old new key None → AllWait up old new
  gone {key = key} {old = old} {new = new} may updates = all_at (record { its = go (get old key) may; others = updates.others }) where
    empty : IfSome (get new key) Comes
    empty = subst (λ slot. IfSome slot Comes) (sym updates.changed) tt

    go : (slot : Option Client) → IfSome slot (MayGo up) → WaitsOrComes up slot (get new key)
    go None may = empty
    go (Some client) may = record { last = client; waits = waits_same client; ends = inr (may, empty) }

  -- a new one comes to a key that has none
  pub came : {key : ℕ} {client : Client} {old new : Slab Client} → IsFresh client → get old key ≡ None → Updates old new key (Some client) → AllWait up old new
  came {key = key} {client = client} {old = old} {new = new} fresh vacant updates =
      all_at (record {
        its = subst (λ slot. WaitsOrComes up slot (get new key)) (sym vacant) (subst (λ slot. IfSome slot Comes) (sym updates.changed) new_one);
        others = updates.others;
      }) where
        new_one : Comes client
        new_one = record { first = client; fresh = fresh; waits = waits_same client }

-- ---- in the same `serve`

pub wait_then : {up up' last : ℕ} {old mid new : Slab Client} → WaitsOn up old up' mid → WaitsOn up' mid last new → WaitsOn up old last new
wait_then one more = record { wait = all_then one.same one.wait more.wait; same = more.same ∙ one.same }

-- nothing came of it
pub wait_still : {up : ℕ} {clients : Slab Client} → WaitsOn up clients up clients
wait_still = record { wait = all_same refl; same = refl }

pub leaves : {up up' : ℕ} {old new : Slab Client} → StandsStill up old up' new → WaitsOn up old up' new
leaves still = record { wait = all_same still.clients; same = still.same }

pub wait_at : {key up up' : ℕ} {old new : Slab Client} → WaitsAt key up old new → up' ≡ up → WaitsOn up old up' new
wait_at waits same = record { wait = all_at waits; same = same }
