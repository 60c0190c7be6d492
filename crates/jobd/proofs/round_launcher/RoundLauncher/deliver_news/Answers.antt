-- Whether the clock reading is delivered on its own.
use Rattle.std.proofs.Common.{◌≡◌, true, false, refl, sym, ap, subst, ◌∙◌}
use Rattle.loaded_jobs.specs.StandsFor.{KeepsState}
use Rattle.history_model.specs.News.{may_change}
use Rattle.jobd.proofs.round_launcher.RoundLauncher.deliver_news.Goals as goal

pub returns-then-is_news : goal.returns-then-is_news
returns-then-is_news g c = record {
  is_news = true;
  decided = λ s keeps.
      let keeps_it : KeepsState c.table.result.now s = subst (λ t. KeepsState t s) (sym c.table.ensures) keeps in
      sym c.if-is_news.true ∙ c.is_news.ensures s keeps_it
      ∙ ap (λ t. may_change s.jobs t.reading c.args.self.now.at) c.table.ensures;
  handed = c.receive_time.ensures;
}

pub returns-else-is_news : goal.returns-else-is_news
returns-else-is_news g c = record {
  is_news = false;
  decided = λ s keeps.
      let keeps_it : KeepsState c.table.result.now s = subst (λ t. KeepsState t s) (sym c.table.ensures) keeps in
      sym c.if-is_news.false ∙ c.is_news.ensures s keeps_it
      ∙ ap (λ t. may_change s.jobs t.reading c.args.self.now.at) c.table.ensures;
  handed = refl;
}
