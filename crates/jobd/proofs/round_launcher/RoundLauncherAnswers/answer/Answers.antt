-- A load that was accepted is noted, and the edge hears of the reply to the line.
use Rattle.std.proofs.Common.{rules}
use Rattle.jobd.proofs.round_launcher.RoundLauncherAnswers.answer.Goals as goal

pub returns : goal.returns
returns g c = record {
  mid = c.give-reply.new.self;
  gives = c.give-reply.ensures.gives;
  edge = c.note_reply.new.self;
  told = search rules;
  noted = search rules;
}
