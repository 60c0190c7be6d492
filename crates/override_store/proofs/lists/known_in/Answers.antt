-- The answers to the goals of `lists::known_in`.
use Rattle.override_store.proofs.lists.known_in.Goals as goal

pub returns-in-Ok-get : goal.returns-in-Ok-get
returns-in-Ok-get c = record { ok = (c.in-Ok.ensures.ok, c.in-Ok-get.ensures.ok.1) }
