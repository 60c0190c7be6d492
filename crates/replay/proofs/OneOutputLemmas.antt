-- The lines of an input settle what is written for them.
use Rattle.std.proofs.Common.{◌≡◌, inl, inr, ℕ, List, [], ◌∷◌, Some, None, sym, ap, ◌∙◌, subst}
use Rattle.history_model.specs.Machine.{State, opened}
use Rattle.calendar_due.specs.Offsets.{Offsets, shown_by}
use Rattle.calendar_due.proofs.RuleLemmas.{one_clock}
use Rattle.calendar_due.proofs.TableLemmas.{one_file_clock}
use Rattle.ctl_protocol.specs.declared.header.Header.{Header}
use Rattle.ctl_protocol.specs.declared.header.ZoneText.{ZoneText}
use Rattle.ctl_protocol.specs.declared.header.ZoneText.TheVariants.{Posix, Offset, File}
use Rattle.table_opening.specs.Openings.{Describes, IsNoZone}
use Rattle.table_opening.proofs.OpeningsLemmas.{zone_or_none}
use Rattle.table_opening.specs.Output.{Opens, IsNoHeader, IsOutput, output_from}

one_zone : (zone : ZoneText) (one other : Offsets) → Describes zone one → Describes zone other → one ≡ other
one_zone (Posix text) one other a b = one_clock text one other a b
one_zone (Offset seconds) one other a b = a.1 ∙ sym b.1
one_zone (File bytes) one other a b = one_file_clock bytes one other a.1 b.1

one_machine : (line : List ℕ) (one other : State) → Opens line one → Opens line other → one ≡ other
one_machine line one other a b =
    let header : a.header ≡ b.header = cc (a.read, b.read) in
    let ahead : a.ahead ≡ b.ahead = one_zone a.header.zone a.ahead b.ahead a.describes (subst (λ (h : Header). Describes h.zone b.ahead) (sym header) b.describes) in
    a.state ∙ (λ i. opened (record { reading = (header i).reading; zone = shown_by (ahead i); overrides = (header i).overrides })) ∙ sym b.state

opens_or_none : (line : List ℕ) (s : State) → Opens line s → IsNoHeader line → ⊥
opens_or_none line s opens (inl none) = cc (opens.read, none)
opens_or_none line s opens (inr none) =
    let header : none.header ≡ opens.header = cc (none.read, opens.read) in
    zone_or_none opens.header.zone opens.ahead opens.describes (subst (λ (h : Header). IsNoZone h.zone) header none.none)

pub one_output : (lines : List (List ℕ)) (one other : List ℕ) → IsOutput lines (Some one) → IsOutput lines (Some other) → one ≡ other
one_output [] one other a b = absurd a
one_output (header ∷ lines) one other (s, opens, is) (t, opens_too, is_too) = is ∙ ap (λ u. output_from u lines) (one_machine header s t opens opens_too) ∙ sym is_too

pub output_or_none : (lines : List (List ℕ)) (text : List ℕ) → IsOutput lines (Some text) → IsOutput lines None → ⊥
output_or_none [] text is none = is
output_or_none (header ∷ lines) text (s, opens, is) none = opens_or_none header s opens none
