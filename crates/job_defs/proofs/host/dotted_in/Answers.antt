-- What the check of `host::dotted_in` does not find by itself.
use Rattle.std.proofs.Common.{◌∷◌, sym, ap, ◌∙◌}
use Rattle.job_defs.specs.Sockets.{dotted_in, octets_in}
use Rattle.job_defs.proofs.HostLemmas.{five_parts}
use Rattle.job_defs.proofs.host.dotted_in.Goals as goal

pub returns-in-Some : goal.returns-in-Some
unfolding dotted_in
returns-in-Some c =
    let third = c.in_ok-third.ensures ∙ ap (λ ps. c.in_ok-third.third.now ∷ ps) c.in-Some.ensures in
    let second = c.in_ok-second.ensures ∙ ap (λ ps. c.in_ok-second.second.now ∷ ps) third in
    let first = c.in_ok-first.ensures ∙ ap (λ ps. c.in_ok-first.first.now ∷ ps) second in
    sym (ap octets_in first ∙ five_parts c.in_ok-first.first.now c.in_ok-second.second.now c.in_ok-third.third.now c.in-Some.field-0.0.now c.in-Some.field-0.1.now)
