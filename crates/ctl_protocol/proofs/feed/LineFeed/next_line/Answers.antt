-- What the check of `feed::LineFeed::next_line` does not find by itself.
use Rattle.std.proofs.Common.{refl, sym, ◌∙◌}
use Rattle.ctl_protocol.proofs.CutLemmas.{rest_alone}
use Rattle.ctl_protocol.proofs.feed.LineFeed.next_line.Goals as goal

pub returns-then-self-len-clause-line : goal.returns-then-self-len-clause-line
returns-then-self-len-clause-line c =
    let f = c.self.inside in
    rw (← c.self.view_is) (rest_alone f.buffer.items (sym c.self.invariant.0 ∙ c.if-self-len.true ∙ c.len.ensures.value), refl)
