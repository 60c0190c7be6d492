-- The answers to the goals of `renewal::renewed`.
use Rattle.override_store.specs.KnownSettings.{HoldsTrees}
use Rattle.override_store.proofs.PlaceLemmas.{if_err, if_ok, known_then, leads_none}
use Rattle.override_store.proofs.renewal.renewed.Goals as goal

pub returns-in-None-clause-holds : goal.returns-in-None-clause-holds
returns-in-None-clause-holds g c is = c.in-Ok.ensures.holds is c.in-None.is

pub returns-in-None-clause-crash : goal.returns-in-None-clause-crash
returns-in-None-clause-crash g c over is = leads_none (λ db. HoldsTrees db c.args.known.now) _ _ (c.in-Ok.ensures.crash over is)

pub returns-in-Err-clause-left : goal.returns-in-Err-clause-left
returns-in-Err-clause-left g c over is = leads_none (λ db. HoldsTrees db c.args.known.now) _ _ (c.in-Err.ensures.left over is)

pub returns-in-Ok-mend-clause-crash : goal.returns-in-Ok-mend-clause-crash
returns-in-Ok-mend-clause-crash g c over is =
    let known = c.args.known.now in
    let mended = known_then known _ _ _ (leads_none (λ db. HoldsTrees db known) _ _ (c.in-Ok.ensures.crash over is)) (c.mend.ensures.crash over (c.in-Ok.ensures.ours is)) in
    if_ok c.look_again.result _ _ (λ r looked. known_then known _ _ _ mended (leads_none (λ db. HoldsTrees db known) _ _ looked)) (c.look_again.ensures.crash over is)

pub returns-in-Ok-mend-clause-left : goal.returns-in-Ok-mend-clause-left
returns-in-Ok-mend-clause-left g c over is =
    let known = c.args.known.now in
    let mended = known_then known _ _ _ (leads_none (λ db. HoldsTrees db known) _ _ (c.in-Ok.ensures.crash over is)) (c.mend.ensures.crash over (c.in-Ok.ensures.ours is)) in
    if_err c.look_again.result _ _ (λ e looked. known_then known _ _ _ mended (leads_none (λ db. HoldsTrees db known) _ _ looked)) (c.look_again.ensures.left over is)

pub returns-in-Err-mend-clause-left : goal.returns-in-Err-mend-clause-left
returns-in-Err-mend-clause-left g c over is =
    let known = c.args.known.now in
    known_then known _ _ _ (leads_none (λ db. HoldsTrees db known) _ _ (c.in-Ok.ensures.crash over is)) (c.mend.ensures.crash over (c.in-Ok.ensures.ours is))
