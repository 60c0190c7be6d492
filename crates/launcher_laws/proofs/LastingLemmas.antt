-- What the turns of a launcher came to.
use Rattle.std.proofs.Common.{List, Option}
use Rattle.history_model.specs.declared.event.Setting.{Setting}
use Rattle.ctl_protocol.specs.declared.header.Header.{Header}
use Rattle.outside.specs.Stores.{StoreCall}
use Rattle.launcher.specs.Journals.{JournalState}
use Rattle.launcher.specs.Hosts.{IsNew}
use Rattle.launcher_laws.specs.TurnRuns.{Snapshot, Turn, AreTurns}
use Rattle.launcher_laws.specs.Lasting.{Lasts}
use Rattle.launcher_laws.proofs.RunsLemmas.{went}
use Rattle.child_edge.specs.Calls.{ToldCall}

module _ {T : Type 0} (holds : T → List Setting → Type 0) where
  pub lasted : (header : Header) (calls : Option (List ToldCall)) (stores : Option (List StoreCall)) (journal : JournalState) (store : T) (first last : Snapshot T) (turns : List (Turn T)) →
      (new : IsNew header calls stores journal first.stands (holds store) (holds first.store)) → AreTurns holds first turns last → (list : List Setting) → holds store list → Lasts holds new.machine turns last
  lasted header calls stores journal store first last turns new received list held =
      let w = went holds new.machine first turns last new.led new.kept received in
      record { parts = w.parts; are_parts = w.are_parts; all = w.all; kept = w.kept; held = w.held (new.stored list held) }
