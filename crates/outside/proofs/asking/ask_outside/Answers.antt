-- The questions that were asked.
use Rattle.std.proofs.Common.{sym, ◌∙◌}
use Rattle.outside.proofs.AskLemmas.{without, unbound, stored, released}
use Rattle.outside.proofs.asking.ask_outside.Goals as goal

pub returns-then-not-has_sockets-clause-outside : goal.returns-then-not-has_sockets-clause-outside
returns-then-not-has_sockets-clause-outside g c =
    without c.args.job c.args.def.now c.args.writes_setting c.args.changed (g.E.Edge.told c.args.edge.now) (g.E.Edge.told c.args.edge.now) (g.E.Edge.told c.args.edge.now) _ _ c.ask_store-store.result (sym c.has_sockets.ensures ∙ c.if-not-has_sockets.true) c.ask_store-store.ensures.uncalled (rw c.label.ensures at c.ask_store-store.ensures.told)

pub returns-in-Err-clause-outside : goal.returns-in-Err-clause-outside
returns-in-Err-clause-outside g c =
    unbound c.args.job c.args.def.now c.args.writes_setting c.args.changed c.in-Err.field-0 _ _ _ (sym c.has_sockets.ensures ∙ c.if-not-has_sockets.false) c.in-Err.ensures.told

pub returns-then-not-stored-clause-outside : goal.returns-then-not-stored-clause-outside
returns-then-not-stored-clause-outside g c =
    released c.args.job c.args.def.now c.args.writes_setting c.args.changed _ _ _ _ _ c.ask_store-stored.result (sym c.has_sockets.ensures ∙ c.if-not-has_sockets.false) c.if-not-stored.true
    c.ask_store-stored.ensures.uncalled (rw c.label-2.ensures at c.ask_store-stored.ensures.told) c.in-Ok.ensures.told c.release.ensures.told

pub returns-else-not-stored-clause-outside : goal.returns-else-not-stored-clause-outside
returns-else-not-stored-clause-outside g c =
    stored c.args.job c.args.def.now c.args.writes_setting c.args.changed _ _ (g.E.Edge.told c.args.edge.now) _ _ c.ask_store-stored.result (sym c.has_sockets.ensures ∙ c.if-not-has_sockets.false) c.if-not-stored.false
    c.ask_store-stored.ensures.uncalled (rw c.label-2.ensures at c.ask_store-stored.ensures.told) c.in-Ok.ensures.told
