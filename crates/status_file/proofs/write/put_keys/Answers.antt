use Rattle.std.proofs.Common.{◌++◌}
use Rattle.status_file.specs.Tokens.{conditions_tokens, limits_tokens, others_tokens}
use Rattle.status_file.proofs.LinesLemmas.{followed}
use Rattle.status_file.proofs.write.put_keys.Goals as goal

pub returns : goal.returns
returns c =
    let k = c.args.keys in
    let a = c.args.line.now in
    let b = c.put_conditions.new.line in
    let d = c.put_limits.new.line in
    let e = c.put_others.new.line in
    followed (conditions_tokens k) (limits_tokens k ++ others_tokens k) a b e c.put_conditions.ensures
    (followed (limits_tokens k) (others_tokens k) b d e c.put_limits.ensures c.put_others.ensures)
