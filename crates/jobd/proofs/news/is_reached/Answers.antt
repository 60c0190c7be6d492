-- The answers to the goals of `news::is_reached`.
use Rattle.std.proofs.Common.{sym, ap, ◌∙◌}
use Rattle.history_model.specs.News.{is_moment_reached as has_reached}
use Rattle.jobd.proofs.NewsLemmas.{reached}
use Rattle.jobd.proofs.news.is_reached.Goals as goal

pub returns-in-None : goal.returns-in-None
returns-in-None c = λ jobs next. sym (ap (has_reached c.args.up) c.in-None.is) ∙ reached c.args.up c.args.moment jobs next

pub returns-in-Some : goal.returns-in-Some
returns-in-Some c = λ jobs next. sym (ap (has_reached c.args.up) c.in-Some.is) ∙ reached c.args.up c.args.moment jobs next
