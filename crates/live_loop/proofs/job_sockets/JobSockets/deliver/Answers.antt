-- A client is delivered once.
use Rattle.std.proofs.Common.{rules, ◌≡◌, ◌+◌, ◌∙◌, inr, refl, sym}
use Rattle.live_loop.specs.Rounds.{nobody, went, came}
use Rattle.live_loop.proofs.RoundsLemmas.{coming_same, desk_same, gathers_asks, gathers_same}
use Rattle.live_loop.proofs.job_sockets.JobSockets.deliver.Goals as goal

pub returns-in_default : goal.returns-in_default
returns-in_default g c = gathers_asks (gathers_same (went nobody c.disconnect.ensures.gone) (desk_same c.disconnect.ensures.conn refl)) c.disconnect.ensures.asks

pub returns-in_default-remove : goal.returns-in_default-remove
returns-in_default-remove g c = went nobody (inr (c.args.key, c.remove.ensures.gone))

pub returns-in-Dropped : goal.returns-in-Dropped
returns-in-Dropped g c =
    let is : c.in-Some.next ≡ c.args.self.now.conn + 1 = search rules in
    gathers_same (came nobody (sym c.in-Some-remove.ensures.client) c.remove.ensures.gone c.deliver.ensures) (desk_same is refl)

pub returns-in-Received : goal.returns-in-Received
returns-in-Received g c =
    let is : c.in-Some.next ≡ c.args.self.now.conn + 1 = search rules in
    gathers_same (came nobody (sym c.in-Some-remove.ensures.client) c.remove.ensures.gone c.deliver.ensures) (desk_same is refl)

pub returns-in-Some-of_refusal : goal.returns-in-Some-of_refusal
returns-in-Some-of_refusal g c =
    let is : c.in-Some.next ≡ c.args.self.now.conn + 1 = search rules in
    gathers_asks
    (gathers_same (came nobody (sym c.in-Some-remove.ensures.client) c.remove.ensures.gone c.deliver.ensures)
    (desk_same (c.tell.ensures.conn ∙ is) (coming_same c.tell.ensures.callers)))
    c.tell.ensures.asks

pub returns-in-None : goal.returns-in-None
returns-in-None g c =
    let is : c.in-Some.next ≡ c.args.self.now.conn + 1 = search rules in
    gathers_same (came nobody (sym c.in-Some-remove.ensures.client) c.remove.ensures.gone c.deliver.ensures) (desk_same is refl)
