-- Without a label no label is there.
use Rattle.std.proofs.Common.{rules, ◌≡◌, None}
use Rattle.status_file.proofs.front.front_of.Goals as goal

pub returns-in-None-clause-unnamed : goal.returns-in-None-clause-unnamed
returns-in-None-clause-unnamed c = λ none. c.front_label.ensures.unnamed (search rules)
