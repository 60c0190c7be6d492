-- What is asked, and delivered, in one part and then in another.
use Rattle.std.proofs.Common.{◌≡◌, ◌⊎◌, inl, inr, ℕ, ◌≤◌, ◌<◌, Bool, true, false, List, Option, refl, subst, sym, arith}
use Rattle.std.specs.Prelude.{nat_le}
use Rattle.std.proofs.lemmas.Bool.Decides.{nat_tests}
use Rattle.child_edge.specs.declared.client.Client.{Client}
use Rattle.job_clients.specs.Callers.{Coming, coming_in}
use Rattle.job_clients.specs.declared.callers.Callers.{Callers}
use Rattle.live_loop.specs.declared.loop_host.Delivered.{Delivered}
use Rattle.live_loop.specs.Rounds.{Asks, Desk, Gathers, MayGrow, desk_with, nothing, further, nobody, asked, taken, received, went, came}

module _ {H : Type 0} {Asked : H → H → Type 0} where
  pub asks_one : {old new : H} → Asked old new → Asks Asked old new
  asks_one a = further nothing a

  pub asks_append : {old mid new : H} → Asks Asked old mid → Asks Asked mid new → Asks Asked old new
  asks_append first nothing = first
  asks_append first (further more a) = further (asks_append first more) a

-- the same number and the same clients
pub desk_same : {conn conn' : ℕ} {coming coming' : ℕ → Option Coming} → conn' ≡ conn → coming' ≡ coming → desk_with conn' coming' ≡ desk_with conn coming
desk_same is same = λ i. desk_with (is i) (same i)

pub coming_same : {old new : Callers Client} → new ≡ old → coming_in new ≡ coming_in old
coming_same is = λ i. coming_in (is i)

module _ {H : Type 0} {Asked : H → H → Type 0} {Taken : ℕ → H → H → Type 0} {Came : ℕ → ℕ → List ℕ → Delivered → H → H → Type 0} {first : Desk} {from : H} where
  pub gathers_append : {desk : Desk} {mid : H} {desk' : Desk} {new : H} → Gathers Asked Taken Came first from desk mid → Gathers Asked Taken Came desk mid desk' new → Gathers Asked Taken Came first from desk' new
  gathers_append before nobody = before
  gathers_append before (asked more a) = asked (gathers_append before more) a
  gathers_append before (taken more t w a) = taken (gathers_append before more) t w a
  gathers_append before (received more h) = received (gathers_append before more) h
  gathers_append before (went more g) = went (gathers_append before more) g
  gathers_append before (came more is s c) = came (gathers_append before more) is s c

  pub gathers_asks : {desk : Desk} {mid new : H} → Gathers Asked Taken Came first from desk mid → Asks Asked mid new → Gathers Asked Taken Came first from desk new
  gathers_asks before nothing = before
  gathers_asks before (further more a) = asked (gathers_asks before more) a

  -- where the desk is given by an equation
  pub gathers_same : {desk desk' : Desk} {new : H} → Gathers Asked Taken Came first from desk new → desk' ≡ desk → Gathers Asked Taken Came first from desk' new
  gathers_same {new = new} before is = subst (λ d. Gathers Asked Taken Came first from d new) (sym is) before

  -- one may have been heard, and the edge was asked
  pub gathers_received : {conn' : ℕ} {coming' : ℕ → Option Coming} {desk : Desk} {mid new : H} → Gathers Asked Taken Came first from desk mid →
      MayGrow desk.coming coming' → conn' ≡ desk.conn → Asks Asked mid new → Gathers Asked Taken Came first from (desk_with conn' coming') new
  gathers_received before grows is asks = gathers_asks (gathers_same (received before grows) (desk_same is refl)) asks

-- it is before the time, or it is not
pub early_or_due : {up look : ℕ} {X Y : Type 0} → (up < look → X) → (look ≤ up → Y) → ((up < look) × X) ⊎ ((look ≤ up) × Y)
early_or_due {up} {look} {X} {Y} early due = go (nat_le look up) refl where
  go : (b : Bool) → nat_le look up ≡ b → ((up < look) × X) ⊎ ((look ≤ up) × Y)
  go true is = let at : look ≤ up = grind (arith, nat_tests, is) in inr (at, due at)
  go false is = let before : up < look = grind (arith, nat_tests, is) in inl (before, early before)
