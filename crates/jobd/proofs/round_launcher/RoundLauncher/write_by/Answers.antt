-- What the file gets is the text that was written.
use Rattle.std.proofs.Common.{rules, subst}
use Rattle.jobd.specs.Standings.{IsStatusText}
use Rattle.jobd.proofs.round_launcher.RoundLauncher.write_by.Goals as goal

pub returns-clause-asks : goal.returns-clause-asks
returns-clause-asks g c = (c.hand.new.self, search rules, search rules)

pub returns-clause-handed : goal.returns-clause-handed
returns-clause-handed g c = λ whole.
    let text = c.write-is_whole.new.self.text.bytes.items in
    (text, _, subst (λ table. IsStatusText table text) c.table.ensures (c.write-is_whole.ensures whole), c.hand.ensures.hands whole)
