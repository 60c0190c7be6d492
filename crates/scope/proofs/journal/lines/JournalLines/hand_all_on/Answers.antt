-- Each line of the feed is heard after those before it.
use Rattle.std.proofs.Common.{[], ◌∷◌, ◌++◌, true, false, refl, sym, ap, ◌∙◌, subst, append_assoc, append-nil}
use Rattle.ctl_protocol.specs.Lines.{Feed}
use Rattle.scope.specs.Journals.{HandsOn, ReceivesLines}
use Rattle.scope.proofs.ReceivingLemmas.{receives_none, receives_more}
use Rattle.scope.proofs.journal.lines.JournalLines.hand_all_on.Goals as goal

pub lines-init : goal.lines-init
lines-init g c = ([], refl, refl, (λ at. (at, refl)), receives_none g.H.Receives.stands c.args.self.now.count c.args.receiver.now)

pub lines-preserved : goal.lines-preserved
lines-preserved g c =
    let (done, split, long, begins, received) = c.lines.invariant in
    let l = c.lines in
    let k = c.hand_on.new in
    let next : HandsOn g.H.Receives.stands true l.self l.receiver k.self k.receiver = rw c.in-Ok-true.field-0-test at c.in-Ok-true.ensures in
    let (line, gives, some, same, now) = next in (
      done ++ line ∷ [],
      split ∙ ap (λ (f : Feed). record f { lines = done ++ f.lines }) gives ∙ ap (λ ls. record k.self.feed { lines = ls }) (sym (append_assoc done (line ∷ []) k.self.feed.lines)),
      same ∙ long,
      (λ at. absurd (some at)),
      receives_more g.H.Receives.stands c.args.self.now.count l.self.count c.args.receiver.now l.receiver k.receiver done (line ∷ []) begins received now,
    )

pub returns-in-Ok-false-clause-received : goal.returns-in-Ok-false-clause-received
returns-in-Ok-false-clause-received g c =
    let (done, split, long, begins, received) = c.lines.invariant in
    let l = c.lines in
    let k = c.hand_on.new in
    let next : HandsOn g.H.Receives.stands false l.self l.receiver k.self k.receiver = rw c.in-Ok-false.field-0-test at c.in-Ok-false.ensures in
    let (none, same, count, after, short) = next in
    subst (λ ls. ReceivesLines g.H.Receives.stands c.args.self.now.count c.args.receiver.now ls k.receiver) (sym (ap (λ (f : Feed). f.lines) split ∙ ap (λ ls. done ++ ls) none ∙ append-nil done))
    (subst (ReceivesLines g.H.Receives.stands c.args.self.now.count c.args.receiver.now done) (sym after) received)

pub returns-in-Ok-false-clause-drained : goal.returns-in-Ok-false-clause-drained
returns-in-Ok-false-clause-drained g c =
    let (done, split, long, begins, received) = c.lines.invariant in
    let l = c.lines in
    let k = c.hand_on.new in
    let next : HandsOn g.H.Receives.stands false l.self l.receiver k.self k.receiver = rw c.in-Ok-false.field-0-test at c.in-Ok-false.ensures in
    let (none, same, count, after, short) = next in
    record {
      feed = same ∙ ap (λ ls. record l.self.feed { lines = ls }) none ∙ sym (ap (λ (f : Feed). record f { lines = [] }) split);
      short = sym long ∙ short;
      counted = λ at. let (first, nothing) = begins (sym count ∙ at) in (first, ap (λ (f : Feed). f.lines) split ∙ (λ i. nothing i ++ none i));
    }
