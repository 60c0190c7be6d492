use Rattle.status_file.specs.Tokens.{times_tokens, wanted_tokens}
use Rattle.status_file.proofs.LinesLemmas.{followed}
use Rattle.status_file.proofs.write.put_moments.Goals as goal

pub returns : goal.returns
returns c =
    let f = c.args.facts.now in
    followed (times_tokens f.moments f.spawns_from) (wanted_tokens f.demand f.path) c.args.line.now c.put_times.new.line c.put_wanted.new.line
    c.put_times.ensures c.put_wanted.ensures
