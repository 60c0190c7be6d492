-- The line is JSON, and its tokens are those that were read.
use Rattle.std.proofs.Common.{rules, IsSome}
use Rattle.json.specs.Json.{document}
use Rattle.json.specs.Lex.{tokens}
use Rattle.status_file.proofs.FrontLemmas.{process_told, told}
use Rattle.status_file.proofs.front.LineRoom.front_in.Goals as goal

pub returns : goal.returns
returns c =
    let is_json : IsSome (document c.args.line.now) = search rules in
    let front = told (IsSome (document c.args.line.now)) c.in_ok-reader.reader (tokens c.args.line.now) c.front_of.result c.in_ok-reader.ensures.ok is_json c.front_of.ensures.named c.front_of.ensures.unnamed in
    (front.0, (front.1, process_told (IsSome (document c.args.line.now)) c.in_ok-reader.reader (tokens c.args.line.now) c.front_of.result c.in_ok-reader.ensures.ok is_json c.front_of.ensures.process))
