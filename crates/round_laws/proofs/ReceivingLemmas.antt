-- A launcher decides as one that hears all, if what it is spared may be left out.
use Rattle.std.proofs.Common.{◌≡◌, ◌≤◌, List, [], ◌∷◌, ◌++◌, map, Option, refl, sym, ap, subst, ◌∙◌}
use Rattle.std.proofs.lemmas.List.{map-append}
use Rattle.history_model.specs.declared.event.Setting.{Setting}
use Rattle.history_model.specs.declared.TheConstants.{MAX_UP}
use Rattle.history_model.specs.Machine.{State, Event}
use Rattle.history_model.specs.Step.{outcomes}
use Rattle.history_model.specs.LeftOut.{Line, Delivered, LeftOut, delivered, MayBeLeftOut}
use Rattle.history_model.proofs.StepLemmas.{IsGood, good-opened}
use Rattle.history_model.proofs.LeftOutLemmas.{at-one, received-same, left-silent}
use Rattle.ctl_protocol.specs.declared.header.Header.{Header}
use Rattle.child_edge.specs.Calls.{ToldCall}
use Rattle.outside.specs.Stores.{StoreCall}
use Rattle.calendar_due.specs.Offsets.{shown_by}
use Rattle.job_table.specs.Taking.{machine_event}
use Rattle.launcher.specs.Journals.{JournalState}
use Rattle.launcher.specs.Hosts.{IsNew}
use Rattle.launcher_laws.specs.TurnRuns.{Snapshot, Part, AreParts, events_in, outcomes_in}
use Rattle.launcher_laws.specs.Lasting.{Lasts}
use Rattle.round_laws.specs.Marks.{Mark, Turned, Spared, turns_in}
use Rattle.round_laws.specs.Receiving.{lines_of, DecideAsOne}

pub handed-append : (xs ys : List Line) → delivered (xs ++ ys) ≡ delivered xs ++ delivered ys
handed-append [] ys = refl
handed-append (Delivered e ∷ xs) ys = ap (λ es. e ∷ es) (handed-append xs ys)
handed-append (LeftOut e ∷ xs) ys = handed-append xs ys

pub handed-map : (es : List Event) → delivered (map Delivered es) ≡ es
handed-map [] = refl
handed-map (e ∷ es) = ap (λ es. e ∷ es) (handed-map es)

pub lines-received : {T : Type 0} (marks : List (Mark T)) (parts : List Part) → AreParts (turns_in marks) parts → delivered (lines_of marks parts) ≡ map machine_event (events_in parts)
lines-received [] [] are = refl
lines-received [] (part ∷ parts) are = absurd are
lines-received (Spared event ∷ marks) parts are = lines-received marks parts are
lines-received (Turned turn ∷ marks) [] are = absurd are
lines-received (Turned turn ∷ marks) (part ∷ parts) are =
    handed-append (map Delivered (map machine_event part.0)) (lines_of marks parts)
    ∙ (λ i. handed-map (map machine_event part.0) i ++ lines-received marks parts are.1 i)
    ∙ sym (map-append machine_event part.0 (events_in parts))

pub decided : {T : Type 0} (s : State) → IsGood s → (marks : List (Mark T)) (parts : List Part) → AreParts (turns_in marks) parts →
    outcomes_in parts ≡ outcomes (map machine_event (events_in parts)) s → MayBeLeftOut s.reading s (lines_of marks parts) → DecideAsOne s marks parts
decided s good marks parts are all may = record {
  same = all ∙ ap (λ es. outcomes es s) (sym (lines-received marks parts are)) ∙ received-same (lines_of marks parts) s.reading s.jobs s (at-one s good) may;
  silent = left-silent (lines_of marks parts) s.reading s.jobs s (at-one s good) may;
}

module _ {T : Type 0} (holds : T → List Setting → Type 0) where
  pub new-good : (header : Header) (calls : Option (List ToldCall)) (stores : Option (List StoreCall)) (journal : JournalState) (store : T) (first : Snapshot T) →
      (new : IsNew header calls stores journal first.stands (holds store) (holds first.store)) → IsGood new.machine
  new-good header calls stores journal store first new =
      let opens = new.opens in
      let in_range : header.reading.up ≤ MAX_UP = subst (λ (s : State). s.reading.up ≤ MAX_UP) opens.state new.led.orderly.range in
      subst IsGood (sym opens.state) (good-opened (record { reading = header.reading; zone = shown_by opens.ahead; overrides = new.settings }) in_range)

  pub decided-of : (header : Header) (calls : Option (List ToldCall)) (stores : Option (List StoreCall)) (journal : JournalState) (store : T) (first last : Snapshot T) (marks : List (Mark T)) →
      (new : IsNew header calls stores journal first.stands (holds store) (holds first.store)) → (lasts : Lasts holds new.machine (turns_in marks) last) →
      MayBeLeftOut new.machine.reading new.machine (lines_of marks lasts.parts) → DecideAsOne new.machine marks lasts.parts
  decided-of header calls stores journal store first last marks new lasts may =
      decided new.machine (new-good header calls stores journal store first new) marks lasts.parts lasts.are_parts lasts.all may
