use Rattle.scope.proofs.FactsLemmas.{after}
use Rattle.scope.proofs.journal.reader.OpenJournal.facts.Goals as goal

pub returns : goal.returns
returns c = λ lines keeps. after lines c.args.label.now c.args.self.now.table c.facts_of.result c.facts_of.ensures keeps
