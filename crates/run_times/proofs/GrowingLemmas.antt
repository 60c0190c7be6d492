-- What is written stays, and what is written after it follows it.
use Rattle.std.proofs.Common.{◌≡◌, ◌≢◌, ◌++◌, [], ◌∙◌, ap, sym, ℕ, List, true, false, true≢false, append-nil, append_assoc, string_bytes}
use Rattle.run_times.specs.declared.writer.TextWriter.{TextWriter}
use Rattle.run_times.specs.Written.{Adds, Grows}

-- by its two clauses
pub adds : (text : List ℕ) (old new : TextWriter) → (new.is_refused ≡ false → string_bytes new.text ≡ string_bytes old.text ++ text) → (new.is_refused ≡ false → old.is_refused ≡ false) → Adds text old new
adds text old new added kept = record { kept = kept; added = added }

pub adds_none : (writer : TextWriter) → Adds [] writer writer
adds_none writer = record { kept = λ well. well; added = λ well. sym (append-nil (string_bytes writer.text)) }

pub adds_on : (one other : List ℕ) (a b c : TextWriter) → Adds one a b → Adds other b c → Adds (one ++ other) a c
adds_on one other a b c first second = record {
  kept = λ well. first.kept (second.kept well);
  added = λ well. second.added well ∙ ap (λ text. text ++ other) (first.added (second.kept well)) ∙ append_assoc (string_bytes a.text) one other;
}

pub grows_none : (writer : TextWriter) → Grows writer writer
grows_none writer = ([], adds_none writer)

pub grows_by : (text : List ℕ) (old new : TextWriter) → (new.is_refused ≡ false → string_bytes new.text ≡ string_bytes old.text ++ text) → (new.is_refused ≡ false → old.is_refused ≡ false) → Grows old new
grows_by text old new added kept = (text, adds text old new added kept)

pub grows_on : (a b c : TextWriter) → Grows a b → Grows b c → Grows a c
grows_on a b c (one, first) (other, second) = (one ++ other, adds_on one other a b c first second)

-- nothing is said of a writer that is refused
pub grows_refused : (old new : TextWriter) → new.is_refused ≡ true → Grows old new
grows_refused old new refused = ([], record { kept = λ well. absurd (true≢false (sym refused ∙ well)); added = λ well. absurd (true≢false (sym refused ∙ well)) })
