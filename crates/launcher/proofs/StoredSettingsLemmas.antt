-- The settings of the machine, after a turn of the launcher.
use Rattle.std.proofs.Common.{◌≡◌, ℕ, Bool, true, false, not, ◌&&◌, List, [], ◌∷◌, map, Option, Some, None, refl, sym, ap, ◌∙◌}
use Rattle.std.specs.Prelude.{Ok}
use Rattle.history_model.specs.declared.Refusal.{Refusal}
use Rattle.history_model.specs.declared.Refusal.TheVariants.{SocketRefused}
use Rattle.history_model.specs.Labels.{Label}
use Rattle.history_model.specs.Machine.{State, Event, Load, Set}
use Rattle.history_model.specs.Acceptance.{refusal_in, refusal_stored, refused_if}
use Rattle.history_model.specs.Step.{set_if, step, step_by, run}
use Rattle.history_model.specs.Described.{Described}
use Rattle.history_model.specs.Definitions.{has_sockets, given}
use Rattle.job_defs.specs.Keys.{def_of}
use Rattle.loaded_jobs.specs.Tables.{Name}
use Rattle.loaded_jobs.specs.Loads.{refusal_outside}
use Rattle.job_table.specs.LoadOfBytes.{load_of_bytes, given_in}
use Rattle.outside.specs.declared.pending_answer.PendingAnswer.{PendingAnswer}
use Rattle.outside.specs.Orders.{answers_in}
use Rattle.launcher.specs.HostTurns.{answer_event, answer_events}
use Rattle.child_edge.specs.Calls.{ToldCall}

answer-settings : (names : List Name) (p : PendingAnswer) (s : State) → (step s (answer_event names p)).settings ≡ s.settings
answer-settings names p s = go (refusal_in s (answer_event names p)) where
  go : (o : Option Refusal) → (step_by o s (answer_event names p)).settings ≡ s.settings
  go None = refl
  go (Some refusal) = refl

answers-settings : (names : List Name) (ps : List PendingAnswer) (s : State) → (run (map (answer_event names) ps) s).settings ≡ s.settings
answers-settings names [] s = refl
answers-settings names (p ∷ ps) s = answers-settings names ps (step s (answer_event names p)) ∙ answer-settings names p s

pub turn_settings : (s : State) (input : Event) (names : List Name) (entries : List ToldCall) → (run (input ∷ answer_events names entries) s).settings ≡ (step s input).settings
turn_settings s input names entries = answers-settings names (answers_in entries) (step s input)

load-given : (s : State) (d : Described) (writes_setting force bind store : Bool) → refusal_in s (Load (Ok (given d)) writes_setting force bind store) ≡ refusal_outside d writes_setting bind store →
    (has_sockets d ≡ false → bind ≡ true) → ((writes_setting && bind) ≡ false → store ≡ true) → (step s (Load (Ok (given d)) writes_setting force bind store)).settings ≡ set_if (writes_setting && (bind && store)) d.label false s.settings
load-given s d writes_setting force bind store remains uncalled unstored =
    ap (λ o. (step_by o s (Load (Ok (given d)) writes_setting force bind store)).settings) remains ∙ go (has_sockets d) refl writes_setting bind store uncalled unstored where
      go : (h : Bool) → has_sockets d ≡ h → (writes_setting bind store : Bool) → (has_sockets d ≡ false → bind ≡ true) → ((writes_setting && bind) ≡ false → store ≡ true) →
          (step_by (refused_if (h && not bind) SocketRefused (refusal_stored writes_setting store)) s (Load (Ok (given d)) writes_setting force bind store)).settings ≡ set_if (writes_setting && (bind && store)) d.label false s.settings
      go true is writes_setting false store uncalled unstored = quiet writes_setting where
        quiet : (v : Bool) → s.settings ≡ set_if (v && false) d.label false s.settings
        quiet true = refl
        quiet false = refl
      go true is true true true uncalled unstored = refl
      go true is true true false uncalled unstored = refl
      go true is false true store uncalled unstored = refl
      go false is true true true uncalled unstored = refl
      go false is true true false uncalled unstored = refl
      go false is false true store uncalled unstored = refl
      go false is writes_setting false store uncalled unstored = let no : false ≡ true = uncalled is in cc

pub load_settings : (s : State) (bytes : List ℕ) (d : Described) (writes_setting force bind store : Bool) → def_of bytes ≡ Ok d → refusal_in s (load_of_bytes bytes writes_setting force bind store) ≡ refusal_outside d writes_setting bind store →
    (has_sockets d ≡ false → bind ≡ true) → ((writes_setting && bind) ≡ false → store ≡ true) →
    (step s (load_of_bytes bytes writes_setting force bind store)).settings ≡ set_if (writes_setting && (bind && store)) d.label false s.settings
load_settings s bytes d writes_setting force bind store read remains uncalled unstored =
    ap (λ r. (step s (Load (given_in r) writes_setting force bind store)).settings) read
    ∙ load-given s d writes_setting force bind store (ap (λ r. refusal_in s (Load (given_in r) writes_setting force bind store)) (sym read) ∙ remains) uncalled unstored

pub set_settings : (s : State) (label : Label) (disabled store : Bool) → refusal_in s (Set label disabled store) ≡ refusal_stored true store →
    (step s (Set label disabled store)).settings ≡ set_if store label disabled s.settings
set_settings s label disabled store remains = ap (λ o. (step_by o s (Set label disabled store)).settings) remains ∙ go store where
  go : (b : Bool) → (step_by (refusal_stored true b) s (Set label disabled store)).settings ≡ set_if b label disabled s.settings
  go true = refl
  go false = refl
