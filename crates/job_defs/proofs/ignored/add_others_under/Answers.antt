-- What the check of `ignored::add_others_under` does not find by itself.
use Rattle.std.proofs.Common.{◌≡◌, ◌∙◌, ◌++◌, codes}
use Rattle.job_defs.specs.Ignored.{others_under}
use Rattle.job_defs.proofs.ignored.add_others_under.Goals as goal

pub returns : goal.returns
unfolding others_under
returns c =
    let prefix : c.as_str.result.now ≡ codes "Sockets." ++ c.args.name.now ++ codes "." = c.as_str.ensures.value ∙ c.in_ok-prefix.ensures in
    rw (← prefix, ← c.members_or_one_of-items.ensures) c.add_others_in_each.ensures
