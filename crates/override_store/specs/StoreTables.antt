-- The two tables of a store of settings, and the schemas that its database may have.
use Rattle.std.specs.Prelude.{ℕ, true, false, [], ◌∷◌, None, codes, pos, List}
use Rattle.sqlite.specs.Collation.TheVariants.{Binary}
use Rattle.sqlite.specs.declared.types.Value.TheVariants.{Null, Int}
use Rattle.sqlite.specs.Table.{Table}
use Rattle.sqlite.specs.Schema.{Schema}
use Rattle.sqlite.specs.Kind.TheVariants.{Integer, Text}
use Rattle.sqlite.specs.Term.{Term, lit, col, op2}
use Rattle.sqlite_schema.specs.declared.schema.Column.{Column}
use Rattle.sqlite_sql.specs.declared.ops.BinaryOp.TheVariants.{Compare, Or}
use Rattle.sqlite_sql.specs.declared.ops.CompareOp.TheVariants.{Eq, Ge}
use Rattle.sqlite_value.specs.Keys.{plain}
use Rattle.sqlite_catalog.specs.Listing.{automatic}

-- label TEXT NOT NULL
abbrev pub label_column : Column
label_column = record {
  name = codes "label";
  kind = Text;
  is_strict = true;
  not_null = true;
  default = Null;
  collation = Binary;
}

-- an INTEGER NOT NULL of this name
abbrev pub whole_column : List ℕ → Column
whole_column name = record {
  name = name;
  kind = Integer;
  is_strict = true;
  not_null = true;
  default = Null;
  collation = Binary;
}

-- disabled IN (0, 1)
abbrev pub is_bit : Term
is_bit =
    op2 Or (op2 (Compare Eq Binary) (col 1 2) (lit (Int (pos 0))))
    (op2 (Compare Eq Binary) (col 1 2) (lit (Int (pos 1))))

-- changed >= 0
abbrev pub is_second : Term
is_second = op2 (Compare Ge Binary) (col 1 3) (lit (Int (pos 0)))

-- a strict table, whose first column is its primary key, in the tree with this number
abbrev pub table_of : List ℕ → List Column → List Term → ℕ → Table
table_of name columns checks tree = record {
  name = name;
  tree = tree;
  columns = columns;
  key = None;
  primary = 1 ∷ [];
  uniques = (1 ∷ []) ∷ [];
  orders = plain ∷ [];
  checks = checks;
  references = [];
  computed = [];
  stamps = record { places = []; terms = []; formats = [] };
  is_counted = false;
}

-- the table of the first version
abbrev pub overrides : ℕ → Table
overrides =
    table_of (codes "overrides") (label_column ∷ whole_column (codes "disabled") ∷ []) (is_bit ∷ [])

-- the table that settings are written to, each with the second of its change
abbrev pub settings : ℕ → Table
settings =
    table_of (codes "settings")
    (label_column ∷ whole_column (codes "disabled") ∷ whole_column (codes "changed") ∷ [])
    (is_bit ∷ is_second ∷ [])

-- that of a database without tables
abbrev pub no_schema : Schema
no_schema = record { tables = []; indexes = []; views = [] }

-- the first version's
abbrev pub first_schema : Schema
first_schema = record {
  tables = overrides 0 ∷ [];
  indexes = automatic (overrides 0) 0 (1 ∷ []) 1 ∷ [];
  views = [];
}

-- both tables, each with the index of its key
abbrev pub both_schema : Schema
both_schema = record {
  tables = overrides 0 ∷ settings 2 ∷ [];
  indexes = automatic (overrides 0) 0 (1 ∷ []) 1 ∷ automatic (settings 2) 0 (1 ∷ []) 3 ∷ [];
  views = [];
}
