-- Each client is followed, step by step, and pass by pass.
use Rattle.std.proofs.Common.{◌≡◌, ◌≢◌, ◌⊎◌, inl, inr, ℕ, ◌+◌, List, [], ◌∷◌, ◌++◌, Option, Some, None, refl, sym, ap, subst, ◌∙◌, arith}
use Rattle.std.specs.Prelude.{◌==◌, if◌then◌else◌, ⊤}
use Rattle.std.proofs.lemmas.Bool.Decides.{eqb_tells}
use Rattle.job_clients.specs.Callers.{Coming, GrowsFrom, IsShort, MayComeIn, Sets}
use Rattle.job_clients.specs.declared.caller.Origin.{Origin}
use Rattle.live_loop.specs.Rounds.{AreRounds, Desk, Gathers, IsNew, Launcher, Left, Disconnects, MayGrow, nobody, asked, taken, received, went, came, no_round, one_round}
use Rattle.round_laws.specs.Following.{AreFollowed, Operation, IsItsOwn, Took, Sent, Disconnected, Handed, come_by, operations_in, operations_of, gone_by, grown_by, grown_from, held_under, how_many, with_more}

abbrev IsShortSoFar : Option Coming → Type 0
IsShortSoFar None = ⊤
IsShortSoFar (Some coming) = IsShort coming.request

-- one is another now; so it is after what happened last
set_on : (key : ℕ) (slot before : ℕ → Option Coming) {old new : ℕ → Option Coming} → Sets key (slot key) old new → ((other : ℕ) → old other ≡ before other) →
    (other : ℕ) → new other ≡ (if key == other then slot other else before other)
set_on key slot before {old} {new} sets were other = elim (eqb_tells key other) [
  | inl same ↦ subst (λ k. new k ≡ slot k) same.1 sets.its ∙ sym (ap (λ b. if b then slot other else before other) same.0)
  | inr apart ↦ sets.others other (λ is. apart.1 (sym is)) ∙ were other ∙ sym (ap (λ b. if b then slot other else before other) apart.0)
]

abbrev job_of : Option Coming → ℕ
job_of None = 0
job_of (Some client) = client.origin.job

abbrev request_of : Option Coming → List ℕ
request_of None = []
request_of (Some client) = client.request

its_own : (slot : Option Coming) (client : Coming) → slot ≡ Some client → IsShortSoFar slot → IsItsOwn client.origin.job client.request slot
its_own None client is short = let clash : None ≡ Some client = is in cc
its_own (Some other) client is short = (ap job_of (sym is), ap request_of (sym is), subst IsShortSoFar is short)

module _ {H : Type 0} (it : Launcher H) where
  -- the clients that are held are those of which all this speaks
  record Tells (past : List (Operation H)) (conn : ℕ) (coming : ℕ → Option Coming) : Type 0 where
    followed : AreFollowed it past
    number : conn ≡ how_many past + 1
    held : (key : ℕ) → coming key ≡ held_under key past
    short : (key : ℕ) → IsShortSoFar (coming key)

  set_short : (key : ℕ) (slot : Option Coming) {old new : ℕ → Option Coming} → Sets key slot old new → IsShortSoFar slot → ((other : ℕ) → IsShortSoFar (old other)) → (other : ℕ) → IsShortSoFar (new other)
  set_short key slot {old} {new} sets short shorts other = elim (eqb_tells other key) [
    | inl same ↦ subst (λ k. IsShortSoFar (new k)) (sym same.1) (subst IsShortSoFar (sym sets.its) short)
    | inr apart ↦ subst IsShortSoFar (sym (sets.others other apart.1)) (shorts other)
  ]

  gone_on : {past : List (Operation H)} {conn : ℕ} {old new : ℕ → Option Coming} (gone : Disconnects old new) → Tells past conn old → Tells (gone_by gone past) conn new
  gone_on {past} {conn} (inl same) tells = subst (λ coming. Tells past conn coming) (sym same) tells
  gone_on {past} (inr gone) tells = record {
    followed = tells.followed;
    number = tells.number;
    held = set_on gone.0 (λ key. None) (λ key. held_under key past) gone.1 tells.held;
    short = set_short gone.0 None gone.1 tt tells.short;
  }

  come_on : {past : List (Operation H)} {conn : ℕ} {old new : ℕ → Option Coming} (origin : Origin) (before after : H) → it.Taken origin.job before after → (came : MayComeIn origin old new) →
      Tells past conn old → Tells (come_by origin before after came past) conn new
  come_on {past} {conn} origin before after takes (inl comes) tells = record {
    followed = (takes, sym (tells.held comes.key) ∙ comes.was_free, tells.followed);
    number = tells.number;
    held = set_on comes.key (λ key. Some (record { origin = origin; request = [] })) (λ key. held_under key past) comes.set tells.held;
    short = set_short comes.key (Some (record { origin = origin; request = [] })) comes.set (omega arith) tells.short;
  }
  come_on {past} {conn} origin before after takes (inr same) tells = subst (λ coming. Tells past conn coming) (sym same) tells

  grow_from : {past : List (Operation H)} {conn : ℕ} (key : ℕ) (client : Option Coming) (old new : ℕ → Option Coming) → old key ≡ client → (grows : GrowsFrom key client old new) →
      Tells past conn old → Tells (grown_from key client old new grows past) conn new
  grow_from {past} key None old new is sets tells = record {
    followed = tells.followed;
    number = tells.number;
    held = λ other. elim (eqb_tells other key) [
      | inl same ↦ subst (λ k. new k ≡ held_under k past) (sym same.1) (sets.its ∙ sym is ∙ tells.held key)
      | inr apart ↦ sets.others other apart.1 ∙ tells.held other
    ];
    short = set_short key None sets tt tells.short;
  }
  grow_from {past} key (Some client) old new is grows tells =
      let longer = Some (record { origin = client.origin; request = client.request ++ grows.0 }) in
      let slot : with_more grows.0 (held_under key past) ≡ longer = ap (with_more grows.0) (sym (tells.held key) ∙ is) in
      record {
        followed = tells.followed;
        number = tells.number;
        held = set_on key (λ k. with_more grows.0 (held_under k past)) (λ k. held_under k past) (subst (λ s. Sets key s old new) (sym slot) grows.2) tells.held;
        short = set_short key longer grows.2 (grows.1 (subst IsShortSoFar is (tells.short key))) tells.short;
      }

  grow_on : {past : List (Operation H)} {conn : ℕ} {old new : ℕ → Option Coming} (grows : MayGrow old new) → Tells past conn old → Tells (grown_by grows past) conn new
  grow_on {past} {conn} (inl same) tells = subst (λ coming. Tells past conn coming) (sym same) tells
  grow_on {old = old} {new = new} (inr grown) tells = grow_from grown.0 (old grown.0) old new refl grown.1 tells

  gathers_on : {first : Desk} {from : H} {desk : Desk} {new : H} (g : Gathers it.Asked it.Taken it.Came first from desk new) (past : List (Operation H)) →
      Tells past first.conn first.coming → Tells (operations_in it g past) desk.conn desk.coming
  gathers_on nobody past tells = tells
  gathers_on (asked more asks) past tells = gathers_on more past tells
  gathers_on (taken {origin = origin} {mid = mid} {at = at} more takes welcomes asks) past tells = come_on origin mid at takes welcomes.came (gone_on welcomes.gone (gathers_on more past tells))
  gathers_on (received more grows) past tells = grow_on grows (gathers_on more past tells)
  gathers_on (went more gone) past tells = gone_on gone (gathers_on more past tells)
  gathers_on (came {key = key} {client = client} {answer = answer} {desk = desk} {mid = mid} {new = new} more is set comes) past tells =
      let before = gathers_on more past tells in
      let told = operations_in it more past in
      let there : held_under key told ≡ Some client = sym (before.held key) ∙ is in
      record {
        followed = (comes, before.number, its_own (held_under key told) client there (subst IsShortSoFar (before.held key) (before.short key)), before.followed);
        number = ap (λ n. n + 1) before.number;
        held = set_on key (λ k. None) (λ k. held_under k told) set before.held;
        short = set_short key None set tt before.short;
      }

  rounds_on : {first last : Left H} (rounds : AreRounds it first last) → IsNew first.desk → Tells (operations_of it rounds) last.desk.conn last.desk.coming
  rounds_on no_round new = record {
    followed = tt;
    number = new.0;
    held = new.1;
    short = λ key. subst IsShortSoFar (sym (new.1 key)) tt;
  }
  rounds_on (one_round more round) new = gathers_on round.serves.gathers (operations_of it more) (rounds_on more new)

  pub followed : {first last : Left H} (rounds : AreRounds it first last) → IsNew first.desk → AreFollowed it (operations_of it rounds)
  followed rounds new = (rounds_on rounds new).followed
