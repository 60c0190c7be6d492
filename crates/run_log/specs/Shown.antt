-- What plain data says, in the terms of what is kept: a text is its bytes.
use Rattle.std.specs.Prelude.{ℕ, List, Option}
use Rattle.std.specs.Borrow.{Bor}
use Rattle.std.specs.Option.{option_map}
use Rattle.run_log.specs.declared.facts.RunFacts.{RunFacts}
use Rattle.run_log.specs.declared.facts.RefusedStart.{RefusedStart}
use Rattle.run_log.specs.declared.log.Refusal.{Refusal}
use Rattle.run_log.specs.Kept.{Kept}

-- the text, if one is lent
abbrev pub text_in : Option (Bor (List ℕ)) → Option (List ℕ)
text_in lent = option_map (λ (t : Bor (List ℕ)). t.now) lent

-- the refused start, with the text of its reason
abbrev pub refusal_shown : RefusedStart → Refusal
refusal_shown start = record { run = start.run; reason = text_in start.reason; at = start.at }

abbrev pub refusals_shown : Option RefusedStart → Option Refusal
refusals_shown start = option_map refusal_shown start

-- all that it says
abbrev pub shown : RunFacts → Kept
shown facts = record {
  loaded = facts.loaded;
  since = facts.since;
  run = facts.run;
  starts = facts.starts;
  refusals = facts.refusals;
  ends = facts.ends;
  failures = facts.failures;
  started = facts.started;
  begun = facts.begun;
  term = facts.term;
  kill = facts.kill;
  last_end = facts.last_end;
  succeeded = facts.succeeded;
  refused = refusals_shown facts.refused;
  is_refused = facts.is_refused;
}
