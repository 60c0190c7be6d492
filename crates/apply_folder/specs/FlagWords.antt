-- The options of apply: which of them one is.
use Rattle.std.specs.Prelude.{Bool, true, false}
use Rattle.apply_folder.specs.declared.words.ApplyFlag.{ApplyFlag}
use Rattle.apply_folder.specs.declared.words.ApplyFlag.TheVariants.{DryRun, Prune, Now, Strict, Wait, Json}

abbrev pub is_dry_run : ApplyFlag → Bool
is_dry_run DryRun = true
is_dry_run _ = false

abbrev pub is_prune : ApplyFlag → Bool
is_prune Prune = true
is_prune _ = false

abbrev pub is_now : ApplyFlag → Bool
is_now Now = true
is_now _ = false

abbrev pub is_strict : ApplyFlag → Bool
is_strict Strict = true
is_strict _ = false

abbrev pub is_wait : ApplyFlag → Bool
is_wait Wait = true
is_wait _ = false

abbrev pub is_json : ApplyFlag → Bool
is_json Json = true
is_json _ = false
