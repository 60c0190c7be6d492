-- The answers to the goals of `mending::put_all`.
use Rattle.std.proofs.Common.{◌≡◌, ◌+◌, ◌-◌, ◌∷◌, ◌∙◌, sym, ap, subst, arith, drop, length}
use Rattle.sqlite.specs.Held.{state}
use Rattle.sqlite.specs.State.{HasCleanDisk}
use Rattle.sqlite.proofs.StateLemmas.{survives_then}
use Rattle.override_store.specs.declared.known.Known.{Known}
use Rattle.override_store.specs.OverrideStores.{rows_now}
use Rattle.override_store.specs.KnownSettings.{HasKnown}
use Rattle.override_store.proofs.MendLemmas.{one_more}
use Rattle.override_store.proofs.mending.put_all.Goals as goal

pub loop-turn-preserved : goal.loop-turn-preserved
loop-turn-preserved g c =
    let old = state g.S.Store c.args.tx.now.conn.now in
    let mid = state g.S.Store c.loop-turn.tx.conn.now in
    let new = state g.S.Store c.put_one.new.tx.conn.now in
    let known = c.args.known.now in
    let turn = c.loop-turn.turn in
    let item = c.index-known-known.result in
    let left = drop (length known - turn) known in
    let more : drop (length known - (turn + 1)) known ≡ item ∷ left = one_more known turn item c.loop-turn-test.true ∙ ap (λ (k : Known). k ∷ left) (sym c.index-known-known.is) in
    let before = c.loop-turn.invariant in record {
      same = c.in-Ok.ensures.same_reference ∙ before.same;
      survives = survives_then old mid new (λ _. ⊥) (λ _. ⊥) (λ _. ⊥) (λ _ db none. none) (λ _ db none. none) before.survives c.in-Ok.ensures.crash;
      put = λ clean inside.
          let early : HasCleanDisk mid = omega (arith, clean, c.in-Ok.ensures.crash.clean) in
          let was = before.put early inside in
          let now = c.in-Ok.ensures.put clean was.0 in (now.0, λ none. subst (HasKnown (rows_now new)) (sym more) (now.1 left (was.1 none)));
    }

pub returns-clause-filled : goal.returns-clause-filled
returns-clause-filled g c clean inside =
    let known = c.args.known.now in
    let was = c.loop-turn.invariant.put clean inside in
    let all : length known - c.loop-turn.turn ≡ 0 = omega (arith, c.loop-turn-test.false) in
    (was.0, λ none. subst (λ n. HasKnown (rows_now (state g.S.Store c.loop-turn.tx.conn.now)) (drop n known)) all (was.1 none))
