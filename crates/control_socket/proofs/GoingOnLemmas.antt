-- Clients that go on in one part, and then in another.
use Rattle.std.proofs.Common.{◌≡◌, ◌≢◌, ◌⊎◌, ◌∙◌, ℕ, List, Option, Some, None, Result, Ok, Err, IsOk, OnOk, inl, inr, sym, ap, subst}
use Rattle.std.proofs.lemmas.List.{get_or-set_same, get_or-set_other}
use Rattle.slab.specs.Slab.{Slab, get, with_value}
use Rattle.history_model.specs.declared.Reply.{Reply}
use Rattle.control_socket.specs.declared.client.Client.{Client}
use Rattle.control_socket.specs.Clients.{AllGoOn, GoesOn, MayEnd, MovesOn, StaysOrGoes, all_stand, goes_on}
use Rattle.control_socket.specs.Dialogues.{Converses}
use Rattle.control_socket.proofs.WaitingLemmas.{inside_of}

module _ {A : Type 0} {Answered : List ℕ → Reply → A → A → Type 0} where
  -- the client of the key went on and stays, or is disconnected
  pub moved : {P E : Type 0} {key : ℕ} {old mid new : Slab Client} {client : Client} {before after : A} (on : Client) (progress : Result P E) →
      get old key ≡ Some client → mid ≡ with_value old key on → OnOk progress ((client.failed ≡ None) × Converses Answered client.dialogue before on.dialogue after) →
      MayEnd Answered client before after → StaysOrGoes key progress mid new → MovesOn Answered key old before new after
  moved {key = key} {old = old} {mid = mid} {new = new} {client = client} {before = before} {after = after} on progress there is converses ends settles =
      record { its = subst (λ slot. GoesOn Answered slot before (get new key) after) (sym there) (its settles); others = others settles } where
        there_then : get mid key ≡ Some on
        there_then = ap (λ slab. get slab key) is ∙ get_or-set_same old.slots key (Some on) None (inside_of key old there)

        same_then : (other : ℕ) → other ≢ key → get mid other ≡ get old other
        same_then other differ = ap (λ slab. get slab other) is ∙ get_or-set_other old.slots key other (Some on) None differ

        on_ok : {P E Q : Type 0} (result : Result P E) → IsOk result → OnOk result Q → Q
        on_ok (Ok value) is_ok holds = holds
        on_ok (Err error) is_ok holds = absurd (cc is_ok)

        its : StaysOrGoes key progress mid new → GoesOn Answered (Some client) before (get new key) after
        its (inl stays) = subst (λ slot. GoesOn Answered (Some client) before slot after) (sym (ap (λ slab. get slab key) stays.1 ∙ there_then)) (on_ok progress stays.0 converses)
        its (inr goes) = subst (λ slot. GoesOn Answered (Some client) before slot after) (sym goes.changed) ends

        others : StaysOrGoes key progress mid new → (other : ℕ) → other ≢ key → get new other ≡ get old other
        others (inl stays) other differ = ap (λ slab. get slab other) stays.1 ∙ same_then other differ
        others (inr goes) other differ = goes.others other differ ∙ same_then other differ

  pub all_go_on_append : {first mid : Slab Client} {from now : A} {new : Slab Client} {after : A} →
      AllGoOn Answered first from mid now → AllGoOn Answered mid now new after → AllGoOn Answered first from new after
  all_go_on_append one all_stand = one
  all_go_on_append one (goes_on more last) = goes_on (all_go_on_append one more) last
