-- Its text is read as its value, by whose members each field is found.
use Rattle.std.proofs.Common.{ap, sym, ◌∙◌}
use Rattle.json.specs.Print.{print}
use Rattle.json_kinds.specs.Json.{json_in}
use Rattle.status_file.specs.Values.{line_value}
use Rattle.status_file.proofs.SameJobLemmas.{calendar_same, job_same}
use Rattle.status_file.proofs.SortedLemmas.{print_back}
use Rattle.status_file.proofs.ValueReadingsLemmas.{calendar_at, job_at, line_deep}
use Rattle.status_file.proofs.ValueTokensLemmas.{line_said}
use Rattle.status_file.proofs.laws.what_is_read_was_written.Goals as goal

pub returns : goal.returns
returns c = λ line fit knows. record {
  value = ap (λ ts. json_in (print ts)) (sym (line_said line)) ∙ print_back (line_value line) fit (line_deep line);
  there = job_at line knows;
  only = job_same line;
  calendar_there = calendar_at line;
  calendar_only = calendar_same line;
}
