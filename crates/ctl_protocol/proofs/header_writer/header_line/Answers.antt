-- What the check of `header_writer::header_line` does not find by itself.
use Rattle.std.proofs.Common.{ap, ◌∙◌}
use Rattle.serde_json.specs.View.{view}
use Rattle.serde_json.specs.Written.{has_float}
use Rattle.ctl_protocol.proofs.ObjectsLemmas.{header_no_float}
use Rattle.ctl_protocol.proofs.EventWriterLemmas.{on_ok}
use Rattle.ctl_protocol.proofs.HeaderReaderLemmas.{header_back}
use Rattle.ctl_protocol.proofs.header_writer.header_line.Goals as goal

pub line_from-requires : goal.line_from-requires
line_from-requires c = ap has_float c.in_ok-value.ensures ∙ header_no_float c.args.header.now

pub returns-clause-reads_back : goal.returns-clause-reads_back
returns-clause-reads_back c = on_ok c.line_from.result (header_back c.args.header.now (view c.in_ok-value.value) c.in_ok-value.ensures) c.line_from.ensures.reads_back
