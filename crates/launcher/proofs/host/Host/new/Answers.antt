-- The parts, put together.
use Rattle.std.proofs.Common.{subst, sym, ap}
use Rattle.std.specs.Prelude.{is_some, Ok, Err}
use Rattle.ctl_protocol.specs.declared.header.Header.{Header}
use Rattle.ctl_protocol.specs.HeaderLines.{header_line}
use Rattle.launcher.specs.Journals.{Grows, fresh, held}
use Rattle.table_opening.specs.Openings.{StandsOpened}
use Rattle.launcher.specs.TurnFaults.{IsFaultOf, IsFaultWith, IsBadHeader}
use Rattle.launcher.specs.Writable.{IsWritableHeader}
use Rattle.launcher.proofs.MakingLemmas.{made_new, stores_fault, same_fault}
use Rattle.launcher.proofs.host.Host.new.Goals as goal

pub returns-in-Ok-make_inside-clause-faults : goal.returns-in-Ok-make_inside-clause-faults
returns-in-Ok-make_inside-clause-faults g c = subst (λ (h : Header). IsBadHeader h → ⊥) c.with_settings.ensures c.in-Ok-make_inside.ensures.faults

pub returns-in-Err-clause-faults : goal.returns-in-Err-clause-faults
returns-in-Err-clause-faults g c = subst (IsFaultOf c.args.header) (sym c.store_fault.ensures) (stores_fault c.args.header c.in-Err.fault)

pub returns-in-Err-make_inside-clause-faults : goal.returns-in-Err-make_inside-clause-faults
returns-in-Err-make_inside-clause-faults g c =
    same_fault c.args.header c.in-Ok.settings.items c.in-Err-make_inside.fault (subst (λ (h : Header). IsFaultOf h c.in-Err-make_inside.fault) c.with_settings.ensures c.in-Err-make_inside.ensures.faults)

pub returns-in-Ok-make_inside-clause-comes : goal.returns-in-Ok-make_inside-clause-comes
returns-in-Ok-make_inside-clause-comes g c =
    let made = c.in-Ok-make_inside.field-0 in
    let first = fresh (held g.W.Write.contents c.args.journal) (is_some c.args.journal) in
    let opened = subst (λ (h : Header). StandsOpened h made.table) c.with_settings.ensures c.in-Ok-make_inside.ensures.opened in
    let new = made_new c.args.header c.in-Ok.settings.items made.table (g.E.Edge.told c.args.edge) (g.T.SettingStore.told c.args.store) (g.T.SettingStore.told c.all.new.self) first made.journal
    (g.T.SettingStore.holds c.args.store) (g.T.SettingStore.holds c.all.new.self) opened (subst IsWritableHeader c.with_settings.ensures c.in-Ok-make_inside.ensures.writable) c.in-Ok.ensures.told
    (subst (λ (h : Header). Grows first made.journal (header_line h)) c.with_settings.ensures c.in-Ok-make_inside.ensures.noted) c.in-Ok.ensures.gives in
    (Ok c.in-Ok.settings.items, (c.in-Ok.ensures.answers, (opened, new)))

pub returns-in-Err-clause-comes : goal.returns-in-Err-clause-comes
returns-in-Err-clause-comes g c = (Err c.in-Err.fault, (c.in-Err.ensures.answers, ap Err c.store_fault.ensures))

pub returns-in-Err-make_inside-clause-comes : goal.returns-in-Err-make_inside-clause-comes
returns-in-Err-make_inside-clause-comes g c =
    (Ok c.in-Ok.settings.items, (c.in-Ok.ensures.answers, subst (λ (h : Header). IsFaultWith h c.in-Err-make_inside.fault) c.with_settings.ensures c.in-Err-make_inside.ensures.fault))
