-- What holds of a medium, by which of the two it is.
use Rattle.startup.specs.declared.medium.Medium.{Medium}
use Rattle.startup.specs.declared.medium.Medium.TheVariants.{Plain, Copied}

-- what the one or the other says
abbrev pub told : {F C T : Type 0} → (F → T) → (C → T) → Medium F C → T
told plain copied (Plain file) = plain file
told plain copied (Copied copy) = copied copy

-- the same of what it says
abbrev pub Says : {F C : Type 0} → (F → Type 0) → (C → Type 0) → Medium F C → Type 0
Says plain copied (Plain file) = plain file
Says plain copied (Copied copy) = copied copy

-- what holds of each of the two holds of a medium
pub of_each : {F C : Type 0} (P : Medium F C → Type 0) → ((file : F) → P (Plain file))
    → ((copy : C) → P (Copied copy)) → (medium : Medium F C) → P medium
of_each P plain copied (Plain file) = plain file
of_each P plain copied (Copied copy) = copied copy
