-- The clocks are read once.
use Rattle.std.proofs.Common.{rules, ◌≡◌, ℕ, ap, ◌∙◌}
use Rattle.std.specs.Prelude.{Result, Ok, Err}
use Rattle.history_model.specs.declared.Reading.{Reading}
use Rattle.child_edge.specs.declared.plain.EdgeFault.{EdgeFault}
use Rattle.history_model.specs.Machine.{Tick}
use Rattle.history_model.specs.LeftOut.{last_read}
use Rattle.jobd.specs.Launches.{lent, Shows}
use Rattle.jobd.specs.declared.round_launcher.RoundLauncher.{RoundLauncher}
use Rattle.jobd.proofs.round_launcher.RoundLauncher.read.Goals as goal

-- what the clocks show does not hang on what else was asked of the edge
lent-shows : {T E W : Type 0} (answer : Result Reading EdgeFault) (slept : ℕ) (edge : E) (old : RoundLauncher T E W) (handed : ℕ) (shown : Reading) →
    Shows answer slept (lent edge old) handed shown → Shows answer slept old handed shown
lent-shows (Ok awake) slept edge old handed shown shows = shows
lent-shows (Err fault) slept edge old handed shown shows = shows

-- the launcher after the two that change of it
read-is : {T E W : Type 0} (mid shown : RoundLauncher T E W) (handed : ℕ) (at at' : Reading) → shown ≡ record mid { slept = handed } → at ≡ at' → record shown { at = at } ≡ record mid { at = at'; slept = handed }
read-is mid shown handed at at' is same = λ i. record (is i) { at = same i }

at-is : {T E W : Type 0} (mid shown : RoundLauncher T E W) (handed : ℕ) → shown ≡ record mid { slept = handed } → shown.at ≡ mid.at
at-is mid shown handed is = λ i. (is i).at

pub returns : goal.returns
returns g c =
    let mid = lent c.read-answer.new.self c.args.self.now in
    let handed = c.shown-shown.new.self.slept in
    let at = last_read mid.at (Tick c.shown-shown.result) in
    let same : c.later_of-self.result ≡ at =
    c.later_of-self.ensures ∙ ap (λ (a : Reading). last_read a (Tick c.shown-shown.result)) (at-is mid c.shown-shown.new.self handed c.shown-shown.ensures.same) in
    record {
      answer = c.read-answer.result;
      slept = c.slept-slept.result;
      edge = c.note_time.new.self;
      told = search rules;
      handed = handed;
      shown = c.shown-shown.result;
      shows = lent-shows c.read-answer.result c.slept-slept.result c.read-answer.new.self c.args.self.now handed c.shown-shown.result c.shown-shown.ensures.shows;
      read = ap (lent c.note_time.new.self) (read-is mid c.shown-shown.new.self handed c.later_of-self.result at c.shown-shown.ensures.same same);
    }
