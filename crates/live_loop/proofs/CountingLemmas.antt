-- The clients that are delivered, step by step, and pass by pass.
use Rattle.std.proofs.Common.{◌≡◌, ◌⊎◌, inl, inr, ℕ, ◌+◌, List, [], ◌∷◌, ◌++◌, Option, Some, None, refl, subst, sym, append_assoc, arith}
use Rattle.std.proofs.lemmas.Bool.Decides.{eqb_tells}
use Rattle.std.proofs.lemmas.List.{append-nil}
use Rattle.job_clients.specs.Callers.{Coming, ComesIn, GrowsFrom, IsShort, MayComeIn, Sets}
use Rattle.job_clients.specs.declared.caller.Origin.{Origin}
use Rattle.live_loop.specs.declared.loop_host.Delivered.{Delivered}
use Rattle.live_loop.specs.Counting.{AllAreShort, AreCounted, AreShort, Counts, Handed, IsShortSoFar, handed_by, delivered, no_client, one_client}
use Rattle.live_loop.specs.Rounds.{AreRounds, Desk, Gathers, Launcher, Left, Disconnects, MayGrow, no_round, one_round, nobody, asked, taken, received, went, came}

counted_append : {a b c : ℕ} {xs ys : List Handed} → AreCounted a xs b → AreCounted b ys c → AreCounted a (xs ++ ys) c
counted_append {a} {b} {xs = xs} first no_client = subst (λ l. AreCounted a l b) (sym (append-nil xs)) first
counted_append {a} {xs = xs} first (one_client {them} {last} one more is) =
    subst (λ l. AreCounted a l (last + 1)) (append_assoc xs them (one ∷ [])) (one_client one (counted_append first more) is)

short_append : (xs ys : List Handed) → AreShort xs → AreShort ys → AreShort (xs ++ ys)
short_append [] ys first second = second
short_append (x ∷ xs) ys first second = (first.0, short_append xs ys first.1 second)

-- one of them is another now
set_short : {key : ℕ} (slot : Option Coming) {old new : ℕ → Option Coming} → IsShortSoFar slot → Sets key slot old new → AllAreShort old → AllAreShort new
set_short {key} slot {old} {new} short sets all other = elim (eqb_tells other key) [
  | inl same ↦ subst (λ k. IsShortSoFar (new k)) (sym same.1) (subst IsShortSoFar (sym sets.its) short)
  | inr apart ↦ subst IsShortSoFar (sym (sets.others other apart.1)) (all other)
]

gone_short : {old new : ℕ → Option Coming} → Disconnects old new → AllAreShort old → AllAreShort new
gone_short (inl same) all = subst AllAreShort (sym same) all
gone_short (inr gone) all = set_short None tt gone.1 all

come_short : {origin : Origin} {old new : ℕ → Option Coming} → MayComeIn origin old new → AllAreShort old → AllAreShort new
come_short (inl comes) all = set_short (Some _) (omega arith) comes.set all
come_short (inr same) all = subst AllAreShort (sym same) all

grown_short : (key : ℕ) (client : Option Coming) (old new : ℕ → Option Coming) → old key ≡ client → GrowsFrom key client old new → AllAreShort old → AllAreShort new
grown_short key None old new is grows all = set_short None tt grows all
grown_short key (Some client) old new is grows all = set_short (Some _) (grows.1 (subst IsShortSoFar is (all key))) grows.2 all

grow_short : {old new : ℕ → Option Coming} → MayGrow old new → AllAreShort old → AllAreShort new
grow_short (inl same) all = subst AllAreShort (sym same) all
grow_short {old} {new} (inr grown) all = grown_short grown.0 (old grown.0) old new refl grown.1 all

module _ {H : Type 0} {Asked : H → H → Type 0} {Taken : ℕ → H → H → Type 0} {Came : ℕ → ℕ → List ℕ → Delivered → H → H → Type 0} {first : Desk} {from : H} where
  counted : {desk : Desk} {new : H} (g : Gathers Asked Taken Came first from desk new) → AreCounted first.conn (delivered g) desk.conn
  counted nobody = no_client
  counted (asked more a) = counted more
  counted (taken more t w a) = counted more
  counted (received more grows) = counted more
  counted (went more gone) = counted more
  counted (came more is set it) = one_client _ (counted more) refl

  short : {desk : Desk} {new : H} (g : Gathers Asked Taken Came first from desk new) → AllAreShort first.coming → AreShort (delivered g) × AllAreShort desk.coming
  short nobody all = (tt, all)
  short (asked more a) all = short more all
  short (taken more t w a) all = let before = short more all in (before.0, come_short w.came (gone_short w.gone before.1))
  short (received more grows) all = let before = short more all in (before.0, grow_short grows before.1)
  short (went more gone) all = let before = short more all in (before.0, gone_short gone before.1)
  short (came {key} more is set it) all = let before = short more all in
      (short_append (delivered more) (_ ∷ []) before.0 (subst IsShortSoFar is (before.1 key), tt), set_short None tt set before.1)

pub counts : {H : Type 0} {it : Launcher H} {first last : Left H} (rounds : AreRounds it first last) → Counts first.desk (handed_by rounds) last.desk
counts no_round = record { numbers = no_client; requests = λ all. (tt, all) }
counts (one_round more round) = let before = counts more in record {
  numbers = counted_append before.numbers (counted round.serves.gathers);
  requests = λ all. let them = before.requests all in let here = short round.serves.gathers them.1 in
      (short_append (handed_by more) (delivered round.serves.gathers) them.0 here.0, here.1);
}
