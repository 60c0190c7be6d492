-- A replay of the journal writes the outcomes of the turns.
use Rattle.std.proofs.Common.{◌≡◌, ℕ, true, List, [], ◌∷◌, ◌++◌, map, Option, Some, None, refl, sym, ap, ◌∙◌, subst, append-nil}
use Rattle.std.specs.List.{flat_map, AllByRecursion}
use Rattle.std.specs.Io.KnownBytes.{Appends, Consumes, IsAtEnd}
use Rattle.std.proofs.KnownBytes.{Appends-trans}
use Rattle.history_model.specs.declared.event.Event as journal
use Rattle.history_model.specs.declared.event.Setting.{Setting}
use Rattle.history_model.specs.Machine.{State}
use Rattle.history_model.specs.Step.{outcomes}
use Rattle.ctl_protocol.specs.declared.header.Header.{Header}
use Rattle.ctl_protocol.specs.EventWriter.{event_line}
use Rattle.ctl_protocol.specs.HeaderLines.{header_line}
use Rattle.ctl_protocol.specs.OutcomeLines.{outcome_line}
use Rattle.replay_loop.specs.ReplayOutcomes.{input_lines}
use Rattle.replay.proofs.OneOutputLemmas.{one_output}
use Rattle.outside.specs.Stores.{StoreCall}
use Rattle.launcher.specs.declared.journal.Phase.TheVariants.{Open}
use Rattle.launcher.specs.Journals.{fresh}
use Rattle.job_table.specs.Taking.{machine_event}
use Rattle.table_opening.specs.JournalEvents.{read_as, event_in}
use Rattle.table_opening.specs.Openings.{OpensBy}
use Rattle.table_opening.specs.Output.{IsOutput}
use Rattle.launcher.specs.Hosts.{IsNew, with_overrides}
use Rattle.launcher_laws.specs.TurnRuns.{Snapshot, Turn, AreTurns, events_in as parts_events}
use Rattle.launcher.specs.Writable.{IsWritable, IsWritableHeader}
use Rattle.launcher_laws.specs.Replays.{outcome_texts, IsReplayed}
use Rattle.launcher_laws.proofs.EventsLemmas.{event_read}
use Rattle.launcher_laws.proofs.HeadersLemmas.{header_read}
use Rattle.launcher_laws.proofs.LinesLemmas.{event_object_text, header_object_text, journal_lines}
use Rattle.launcher_laws.proofs.RunsLemmas.{grown, went}
use Rattle.launcher_laws.proofs.WritableLemmas.{parts_writable}
use Rattle.child_edge.specs.Calls.{ToldCall}

read_lines : (events : List journal.Event) → AllByRecursion IsWritable events → map event_in (map event_object_text events) ≡ map machine_event events
read_lines [] told = refl
read_lines (e ∷ events) told = λ i. read_as (event_read e told.0 i) ∷ read_lines events told.1 i

-- the output of the journal's lines
its_output : (h : Header) (s : State) (events : List journal.Event) (bytes : List ℕ) → OpensBy h s → IsWritableHeader h → AllByRecursion IsWritable events →
    bytes ≡ header_line h ++ flat_map event_line events → IsOutput (input_lines bytes) (Some (flat_map outcome_line (outcomes (map machine_event events) s)))
its_output h s events bytes opens header told is =
    let lines : input_lines bytes ≡ header_object_text h ∷ map event_object_text events = ap input_lines is ∙ journal_lines h events in
    subst (λ l. IsOutput l (Some (flat_map outcome_line (outcomes (map machine_event events) s)))) (sym lines) (
      s,
      record { header = h; read = header_read h header; ahead = opens.ahead; describes = opens.describes; state = opens.state },
      ap (λ es. flat_map outcome_line (outcomes es s)) (sym (read_lines events told)),
    )

-- a reader that gave all of these bytes
all_consumed : (bytes input : List ℕ) (rest : Option (List ℕ)) → Consumes (Some bytes) rest input → IsAtEnd rest → bytes ≡ input
all_consumed bytes input None given ended = absurd given
all_consumed bytes input (Some more) given ended = given ∙ ap (λ l. input ++ l) ended ∙ append-nil input

-- the bytes of a journal that is open and began empty
its_bytes : (old mid new : Option (List ℕ)) (bytes first more : List ℕ) → old ≡ Some [] → new ≡ Some bytes → Appends old mid first → Appends mid new more → bytes ≡ first ++ more
its_bytes old mid new bytes first more begins ends one two =
    subst (λ o. Appends (Some []) o (first ++ more)) ends (subst (λ o. Appends o new (first ++ more)) begins (Appends-trans old mid new first more one two))

module _ {T : Type 0} (holds : T → List Setting → Type 0) where
  pub replayed : (header : Header) (calls : Option (List ToldCall)) (stores : Option (List StoreCall)) (store : T) (first last : Snapshot T) (turns : List (Turn T)) (bytes : List ℕ) →
      (new : IsNew header calls stores (fresh (Some []) true) first.stands (holds store) (holds first.store)) → AreTurns holds first turns last →
      last.stands.journal.phase ≡ Open → last.stands.journal.bytes ≡ Some bytes →
      IsReplayed (with_overrides header new.settings) turns bytes
  replayed header calls stores store first last turns bytes new received still ends =
      let h = with_overrides header new.settings in
      let w = went holds new.machine first turns last new.led new.kept received in
      let later = w.noted still in
      let begun = grown (fresh (Some []) true) first.stands.journal (header_line h) new.noted later.was in
      let is : bytes ≡ header_line h ++ flat_map event_line (parts_events w.parts) =
      its_bytes (Some []) first.stands.journal.bytes last.stands.journal.bytes bytes (header_line h) (flat_map event_line (parts_events w.parts)) refl ends begun.grew later.grew in
      let same : flat_map outcome_line (outcomes (map machine_event (parts_events w.parts)) new.machine) ≡ outcome_texts w.parts = ap (flat_map outcome_line) (sym w.all) in
      let out : IsOutput (input_lines bytes) (Some (outcome_texts w.parts)) =
      subst (λ t. IsOutput (input_lines bytes) (Some t)) same (its_output h new.machine (parts_events w.parts) bytes new.opens new.writable (parts_writable turns w.parts w.are_parts) is) in
      record {
        parts = w.parts;
        are_parts = w.are_parts;
        lines = is;
        output = out;
        writes = λ rest held holds a.
            let input : bytes ≡ a.input = all_consumed bytes a.input rest a.consumed a.ended in
            let text : a.text ≡ outcome_texts w.parts = one_output (input_lines bytes) a.text (outcome_texts w.parts) (subst (λ l. IsOutput (input_lines l) (Some a.text)) (sym input) a.is) out in
            subst (Appends held holds) text a.wrote;
      }
