-- What is delivered at the beginning of a pass.
use Rattle.jobd.proofs.round_launcher.RoundLauncherLoopHost.begin.Goals as goal

pub returns : goal.returns
returns g c = record {
  first = c.deliver_missed.new.self;
  missed = c.deliver_missed.ensures;
  begun = c.read.new.self;
  reads = c.read.ensures;
  news = c.deliver_news.ensures;
}
