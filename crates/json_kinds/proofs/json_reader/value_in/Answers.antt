-- What the check of `json_reader::value_in` does not find by itself.
use Rattle.std.proofs.Common.{◌∙◌, sym, ap, Some}
use Rattle.json.specs.Lex.{tokens}
use Rattle.json.specs.Json.{value}
use Rattle.serde_json.specs.Read.{max_depth, of_json, converted}
use Rattle.serde_json.specs.View.{view}
use Rattle.json_kinds.proofs.JsonLemmas.{json_read, json_refused}
use Rattle.json_kinds.proofs.JsonReadingLemmas.{whole_read}
use Rattle.json_kinds.proofs.json_reader.value_in.Goals as goal

pub returns-in_default : goal.returns-in_default
returns-in_default c = sym (json_refused _ (λ text. absurd (c.in_default.ensures.cases.0 text)))

pub returns-in-None : goal.returns-in-None
returns-in-None c =
    let text = c.in-Ok.ensures.cases in
    let begun = c.in_ok-reader.ensures.ok ∙ ap tokens text.0 in
    let found = ap (λ ts. converted of_json (value max_depth ts)) (sym begun) ∙ c.in-Ok-read.ensures.ok in
    let last = ap (λ ts. Some (view c.in-Ok-read.value, ts)) c.in-None.ensures.value.0 in
    sym (json_read _ _ text.1 (whole_read (value max_depth (tokens c.args.bytes.now)) _ (found ∙ last)))
