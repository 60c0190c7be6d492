-- Rounds of a new launcher decide as one that hears all.
use Rattle.std.proofs.Common.{◌≡◌, ℕ, Bool, true, false, List, Option, Some, None, sym, ap, subst, ◌∙◌, arith}
use Rattle.std.specs.Prelude.{nat_le}
use Rattle.std.proofs.lemmas.Bool.Decides.{nat_tests}
use Rattle.history_model.specs.declared.TheConstants.{MAX_UP, MAX_WALL}
use Rattle.history_model.specs.declared.Reading.{Reading}
use Rattle.history_model.specs.declared.event.Setting.{Setting}
use Rattle.history_model.specs.Refusals.{is_clock_refused}
use Rattle.history_model.specs.Machine.{State}
use Rattle.history_model.specs.Step.{outcomes}
use Rattle.child_edge.specs.Calls.{ToldCall}
use Rattle.ctl_protocol.specs.declared.header.Header.{Header}
use Rattle.outside.specs.Stores.{Stamp, StoreCall}
use Rattle.launcher.specs.Journals.{JournalState}
use Rattle.launcher.specs.Hosts.{IsNew, stands}
use Rattle.live_loop.specs.Looks.{IsEmpty}
use Rattle.live_loop.specs.Rounds.{AreRounds, Left}
use Rattle.jobd.specs.declared.round_launcher.RoundLauncher.{RoundLauncher}
use Rattle.round_laws.specs.Marks.{snapshot}
use Rattle.round_laws.specs.Receiving.{ReceivedReadings, Decides}
use Rattle.round_laws.specs.RoundMarks.{launcher, marks_of}
use Rattle.round_laws.proofs.ReceivingLemmas.{decided, lines-received, new-good}
use Rattle.std.specs.Prelude.{Result}
use Rattle.history_model.specs.declared.Obs.{Obs}
use Rattle.child_edge.specs.declared.plain.EdgeFault.{EdgeFault}
use Rattle.round_laws.proofs.QuietLemmas.{not-refused}
use Rattle.round_laws.proofs.RoundQuietLemmas.{rounds_keep}

pub in-range : (at : Reading) → nat_le at.up MAX_UP ≡ true → nat_le at.wall MAX_WALL ≡ true → is_clock_refused at at ≡ false
in-range at up wall = not-refused at at (grind (arith, nat_tests)) (grind (arith, nat_tests, up)) (grind (arith, nat_tests, wall))

module _ {T E W : Type 0} (calls : E → Option (List ToldCall)) (stores : T → Option (List StoreCall))
    (holds : T → List Setting → Type 0) (stamped : T → List Stamp → Type 0) (Finds : ℕ → Option (ℕ × ℕ) → E → E → Type 0) (Looks : List ℕ → Result Obs EdgeFault → E → E → Type 0)
    (Accepts : ℕ → E → E → Type 0) (Holds : ℕ → ℕ → List ℕ → Bool → E → E → Type 0) where
  pub decides : (header : Header) (told : Option (List ToldCall)) (stored : Option (List StoreCall)) (journal : JournalState) (before : T) (first last : Left (RoundLauncher T E W)) →
      (new : IsNew header told stored journal (stands calls stores first.host.host) (holds before) (holds first.host.host.store)) → first.host.at ≡ first.host.host.table.reading → IsEmpty first.known →
      (rounds : AreRounds (launcher calls stores holds stamped Finds Looks Accepts Holds) first last) → ReceivedReadings (marks_of calls stores holds stamped Finds Looks Accepts Holds rounds) →
      Decides new.machine (marks_of calls stores holds stamped Finds Looks Accepts Holds rounds)
  decides header told stored journal before first last new at empty rounds had =
      let s = new.machine in
      let marks = marks_of calls stores holds stamped Finds Looks Accepts Holds rounds in
      let is : s.reading ≡ header.reading = ap (λ (t : State). t.reading) new.opens.state in
      let allowed : is_clock_refused s.reading s.reading ≡ false =
      subst (λ (r : Reading). is_clock_refused r r ≡ false) (sym is) (in-range header.reading new.writable.is.up new.writable.is.wall) in
      let spans = rounds_keep calls stores holds stamped Finds Looks Accepts Holds rounds s s.reading had (record { keeps = new.kept; led = new.led; at = at ∙ new.kept.reading; allowed = allowed }) in
      record {
        parts = spans.parts;
        are_parts = spans.are_parts;
        decide = decided s (new-good holds header told stored journal before (snapshot calls stores first.host.host) new) marks spans.parts spans.are_parts
            (spans.all ∙ ap (λ es. outcomes es s) (lines-received marks spans.parts spans.are_parts)) (spans.may (spans.had (λ none path obs there. let clash : None ≡ Some obs = sym (empty path) ∙ there in cc)));
      }
