-- What the values that clap found mean.
use Rattle.std.specs.Prelude.{◌≡◌, List, [], ◌∷◌, Bool, true, false, codes}
use Rattle.std.specs.Option.{option_map_or}
use Rattle.history_model.specs.Search.{is_same_text}
use Rattle.clap.specs.Words.{App, Row, Text, first_of, fault_of, found_of, matches_of, rows_of, subcommand_of, subcommand_rows_of}
use Rattle.clap.specs.declared.parser.matches.ArgMatches.{ArgMatches}
use Rattle.clap.specs.Simple.{on_top}

-- the flag was given
abbrev pub is_set : Text → List Row → Bool
is_set id rows = option_map_or (λ t. is_same_text t (codes "true")) (first_of id rows) false

-- the values that were found, row by row
abbrev pub rows_in : ArgMatches → List Row
rows_in m = rows_of (found_of m)

-- the command with a subcommand asked for
abbrev pub needs_subcommand : App → App
needs_subcommand = on_top (λ s. record s { subcommand_required = true })

-- nothing is on the list
abbrev pub is_empty_list : {A : Type 0} → List A → Bool
is_empty_list [] = true
is_empty_list (x ∷ xs) = false

-- clap finds no fault in the arguments, and these matches in them
pub record IsFound (app : App) (words : List Text) (m : ArgMatches) : Type 0 where
  pub none : is_empty_list (fault_of app words) ≡ true
  pub rows : rows_in m ≡ matches_of app words
  pub subcommand : subcommand_rows_of m ≡ subcommand_of app words
