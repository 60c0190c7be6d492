use Rattle.run_times.proofs.GrowingLemmas.{grows_on}
use Rattle.scope.proofs.texts.cause_lines.add_ways.Goals as goal

pub returns : goal.returns
returns c =
    let a = c.args.page.now.writer in
    let b = c.add_sentences.new.page.writer in
    let d = c.add_sentence.new.page.writer in
    let e = c.add_sentence-2.new.page.writer in
    let f = c.add_sentence-3.new.page.writer in
    let h = c.add_sentences-2.new.page.writer in
    grows_on a f h (grows_on a e f (grows_on a d e (grows_on a b d c.add_sentences.ensures c.add_sentence.ensures) c.add_sentence-2.ensures) c.add_sentence-3.ensures) c.add_sentences-2.ensures
