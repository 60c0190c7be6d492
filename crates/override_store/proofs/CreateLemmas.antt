-- What the statements that make the tables leave.
use Rattle.std.proofs.Common.{◌≡◌, ℕ, List, [], false, None, Ok, refl, sym, ap, subst, ◌∙◌}
use Rattle.sqlite.specs.Command.TheVariants.{CreateTable}
use Rattle.sqlite.specs.Change.{created, next_tree}
use Rattle.sqlite.specs.Effect.{Database}
use Rattle.sqlite.specs.Does.{Tally, Does, lacks_sequence}
use Rattle.sqlite.specs.Schema.{Schema}
use Rattle.sqlite.specs.Table.{Table}
use Rattle.sqlite.specs.Compile.{table_defined_by}
use Rattle.sqlite.specs.State.{State, mode_of}
use Rattle.sqlite_catalog.specs.Change.{KeepsRows}
use Rattle.override_store.specs.StoreTables.{overrides, settings, both_schema, first_schema, no_schema}
use Rattle.override_store.proofs.TextLemmas.{first_statement, second_statement, first_defines, second_defines}
use Rattle.override_store.proofs.PutLemmas.{went, same_value}

-- the table that the text defines is there, with no rows, and each other table has its own
made : (old : State) (db after : Database) (text : List ℕ) (tally : Tally) (schema : Schema) (table : Table) → db.schema ≡ schema → table_defined_by text ≡ Ok table
    → lacks_sequence (created schema table) ≡ false → Does old.step_limit (mode_of old) [] db text None CreateTable (Ok (tally, after))
    → (after.schema ≡ created schema table) × (after.trees (next_tree schema) ≡ []) × KeepsRows schema.tables db.trees after.trees
made old db after text tally schema table has defines whole h =
    let all = went h in
    let first = went all.1 in
    let made = first.1 in
    let both : Ok made.table ≡ Ok table = sym made.defined ∙ defines in
    let same : made.table ≡ table = cc in
    let schema_is : first.0.schema ≡ created schema table = made.is ∙ ap (λ s. created s made.table) has ∙ ap (created schema) same in
    let plain : lacks_sequence first.0.schema ≡ false = ap lacks_sequence schema_is ∙ whole in
    let now : after ≡ first.0 = ap (λ (p : Tally × Database). p.1) (same_value all.2) ∙ same_value (rw plain at first.2) in (
      ap (λ (d : Database). d.schema) now ∙ schema_is,
      ap (λ (d : Database). d.trees (next_tree schema)) now ∙ subst (λ s. first.0.trees (next_tree s) ≡ []) has made.empty,
      subst (λ (d : Database). KeepsRows schema.tables db.trees d.trees) (sym now) (subst (λ (s : Schema). KeepsRows s.tables db.trees first.0.trees) has made.others),
    )

pub makes_first : (old : State) (db after : Database) (tally : Tally) → db.schema ≡ no_schema → Does old.step_limit (mode_of old) [] db first_statement None CreateTable (Ok (tally, after))
    → (after.schema ≡ first_schema) × (after.trees 0 ≡ [])
makes_first old db after tally has h = let it = made old db after first_statement tally no_schema (overrides 0) has first_defines refl h in (it.0, it.1)

pub makes_second : (old : State) (db after : Database) (tally : Tally) → db.schema ≡ first_schema → Does old.step_limit (mode_of old) [] db second_statement None CreateTable (Ok (tally, after))
    → (after.schema ≡ both_schema) × (after.trees 2 ≡ []) × (after.trees 0 ≡ db.trees 0)
makes_second old db after tally has h = let it = made old db after second_statement tally first_schema (settings 0) has second_defines refl h in (it.0, it.1, it.2.0)
