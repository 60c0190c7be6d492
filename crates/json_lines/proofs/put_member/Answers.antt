use Rattle.std.proofs.Common.{◌++◌, [], refl, sym, subst, codes}
use Rattle.std.specs.Fmt.{decimal}
use Rattle.run_times.specs.Written.{Adds}
use Rattle.run_times.proofs.GrowingLemmas.{adds, adds_on}
use Rattle.json_lines.specs.declared.Value.TheVariants.{Text, Moment}
use Rattle.json_lines.specs.Objects.{front_of, quoted, TellsMember}
use Rattle.calendar_due.specs.ZoneRules.{minute_at}
use Rattle.run_times.specs.ClockTexts.{IsClockText}
use Rattle.json_lines.proofs.put_member.Goals as goal

pub returns-in-Text : goal.returns-in-Text
returns-in-Text c =
    let key = c.args.key.now in
    let a = c.args.page.now.writer in
    let b = c.put_value-in-Text.new.writer in
    let d = c.put_quoted.new.writer in
    let front = front_of key [] in
    let told = quoted c.in-Text.text.now in
    subst (λ value. TellsMember key value a d) (sym c.in-Text.is)
    (front ++ told, refl, adds_on front told a b d c.put_value-in-Text.ensures c.put_quoted.ensures)

pub returns-in-Moment : goal.returns-in-Moment
returns-in-Moment c =
    let key = c.args.key.now in
    let a = c.args.page.now.writer in
    let b = c.put_value-in-Moment.new.writer in
    let d = c.put_clock.new.writer in
    let e = c.put.new.self in
    let f = c.put_number-in-Moment.new.writer in
    let front = front_of key (codes "\"") in
    let number = codes ",\"" ++ (key ++ (codes "_seconds" ++ (codes "\":" ++ decimal c.in-Moment.second))) in
    let (shown, is, grown) = c.put_clock.ensures in
    let at = minute_at c.args.page.now.zone.now c.min.result in
    let quote : Adds (codes "\"") d e = adds (codes "\"") d e c.put.ensures.added c.put.ensures.kept in
    subst (λ value. TellsMember key value a f) (sym c.in-Moment.is) (
      front ++ (shown ++ (codes "\"" ++ number)),
      (shown, (at, subst (λ s. IsClockText at s shown) c.min.ensures is), refl),
      adds_on front (shown ++ (codes "\"" ++ number)) a b f c.put_value-in-Moment.ensures
          (adds_on shown (codes "\"" ++ number) b d f grown (adds_on (codes "\"") number d e f quote c.put_number-in-Moment.ensures)),
    )
