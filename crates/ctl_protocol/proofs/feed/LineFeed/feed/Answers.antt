-- What the check of `feed::LineFeed::feed` does not find by itself.
use Rattle.std.proofs.Common.{◌≡◌, ◌++◌, true, false, refl, ap, ◌∙◌, subst}
use Rattle.ctl_protocol.specs.Lines.{rest_of, fits}
use Rattle.ctl_protocol.specs.Scan.{IsScan}
use Rattle.ctl_protocol.specs.declared.cut.Scan.TheVariants.{Fits, Long}
use Rattle.ctl_protocol.proofs.CutLemmas.{taken, refused, rest_on}
use Rattle.ctl_protocol.proofs.feed.LineFeed.feed.Goals as goal

pub invariant_of-self-in-Fits : goal.invariant_of-self-in-Fits
invariant_of-self-in-Fits c =
    let f = c.self.inside in
    let scan = subst (λ r. IsScan f.limit r c.args.piece.now (Fits c.in-Fits.rest_len)) (c.rest_in-rest.ensures ∙ ap rest_of c.as_slice.ensures) c.in-Fits.ensures in
    rw (c.in_ok-add-in-Fits.ensures.rest, rest_on) (scan.0, scan.1)

pub returns-in_ok-add-in-Fits-clause-ok : goal.returns-in_ok-add-in-Fits-clause-ok
returns-in_ok-add-in-Fits-clause-ok c =
    let f = c.self.inside in
    let scan = subst (λ r. IsScan f.limit r c.args.piece.now (Fits c.in-Fits.rest_len)) (c.rest_in-rest.ensures ∙ ap rest_of c.as_slice.ensures) c.in-Fits.ensures in
    let all : fits f.limit (rest_of f.buffer.items ++ c.args.piece.now) ≡ true = taken f.buffer.items c.args.piece.now f.limit c.in-Fits.rest_len scan in
    rw (← c.self.view_is, c.in_ok-add-in-Fits.ensures.lines, c.in_ok-add-in-Fits.ensures.rest, c.if-self.false, all) (refl, refl)

pub returns-in_ok-stop-in-Long-clause-too_long : goal.returns-in_ok-stop-in-Long-clause-too_long
returns-in_ok-stop-in-Long-clause-too_long c _ =
    let f = c.self.inside in
    let scan = subst (λ r. IsScan f.limit r c.args.piece.now (Long c.in-Long.at c.in-Long.line_len)) (c.rest_in-rest.ensures ∙ ap rest_of c.as_slice.ensures) c.in-Long.ensures in
    let all : fits f.limit (rest_of f.buffer.items ++ c.args.piece.now) ≡ false = refused f.buffer.items c.args.piece.now f.limit c.in-Long.at c.in-Long.line_len scan in
    rw (← c.self.view_is, c.in_ok-stop-in-Long.ensures.lines, c.in_ok-stop-in-Long.ensures.rest, c.if-self.false, all) (refl, refl)
