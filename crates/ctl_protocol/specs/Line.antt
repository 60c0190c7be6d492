-- The data that a line stands for.
use Rattle.json.specs.Value.{value_view}
use Rattle.serde_json.specs.Data.{Data}
use Rattle.ctl_protocol.specs.Trees.{data_of}
use Rattle.ctl_protocol.specs.declared.line.Line.{Line}

-- what `serde_json` would read of the line
abbrev pub seen : Line → Data
seen line = data_of (value_view line.tree)
