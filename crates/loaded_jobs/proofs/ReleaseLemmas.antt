-- The numbers that stand for no slot stay free.
use Rattle.std.proofs.Common.{◌≡◌, ℕ, zero, suc, ◌==◌, Bool, true, false, not, ◌&&◌, ◌||◌, cond, List, [], ◌∷◌, ◌++◌, map, take, drop, Option, Some, None, refl, ap, ◌∙◌, arith}
use Rattle.std.specs.Prelude.{◌≢◌}
use Rattle.std.specs.List.{list_any, filter}
use Rattle.slab.specs.Slab.{Slab, get, Updates}
use Rattle.history_model.specs.Described.{Described}
use Rattle.loaded_jobs.specs.Tables.{definition_of_number}
use Rattle.loaded_jobs.specs.JobSlots.{name, job_slot_stays, has_gone_under}
use Rattle.loaded_jobs.specs.Sound.{AreFree}
use Rattle.loaded_jobs.specs.declared.job_slot.JobSlot.{JobSlot}
use Rattle.history_model.proofs.BooleanLemmas.{or-false}

apart : (m n : ℕ) → (m == n) ≡ false → n ≢ m
apart m n differ = λ same. (let clash : true ≡ false = grind (arith, same, differ) in cc clash)

none-if : (b : Bool) (d : Described) (o : Option Described) → cond b (Some d) o ≡ None → (b ≡ false) × (o ≡ None)
none-if true d o none = cc
none-if false d o none = (refl, none)

-- a number of no job that is left, and of none that left, is a number of no job
of-none : (number : ℕ) (es : List JobSlot) → list_any (has_gone_under number) es ≡ false → definition_of_number (map name (filter job_slot_stays es)) number ≡ None →
    definition_of_number (map name es) number ≡ None
of-none number [] going none = refl
of-none number (e ∷ es) going none = go e.has_gone going none (of-none number es)
  where
    go : (b : Bool) → ((b && (e.number == number)) || list_any (has_gone_under number) es) ≡ false →
        definition_of_number (map name (cond (not b) (e ∷ filter job_slot_stays es) (filter job_slot_stays es))) number ≡ None →
        (list_any (has_gone_under number) es ≡ false → definition_of_number (map name (filter job_slot_stays es)) number ≡ None → definition_of_number (map name es) number ≡ None) →
        cond (e.number == number) (Some e.def) (definition_of_number (map name es) number) ≡ None
    go true going none later =
        let both = or-false (e.number == number) (list_any (has_gone_under number) es) going in
        ap (λ b. cond b (Some e.def) (definition_of_number (map name es) number)) both.0 ∙ later both.1 none
    go false going none later =
        let both = none-if (e.number == number) e.def (definition_of_number (map name (filter job_slot_stays es)) number) none in
        ap (λ b. cond b (Some e.def) (definition_of_number (map name es) number)) both.0 ∙ later going both.1

pub tidy-free : (old new : Slab (Unit {0})) (es : List JobSlot) → ((number : ℕ) → list_any (has_gone_under number) es ≡ true → get new number ≡ None) →
    ((number : ℕ) → list_any (has_gone_under number) es ≡ false → get new number ≡ get old number) → AreFree old (map name es) → AreFree new (map name (filter job_slot_stays es))
tidy-free old new es unheld others free = λ number none. go number none (list_any (has_gone_under number) es) refl
  where
    go : (number : ℕ) → definition_of_number (map name (filter job_slot_stays es)) number ≡ None → (b : Bool) → list_any (has_gone_under number) es ≡ b → get new number ≡ None
    go number none true going = unheld number going
    go number none false going = others number going ∙ free number (of-none number es going none)

-- so is one of no job among which a new one is
of-others : (number : ℕ) (e : JobSlot) (es : List JobSlot) (k : ℕ) → definition_of_number (map name (take k es ++ e ∷ drop k es)) number ≡ None →
    ((e.number == number) ≡ false) × (definition_of_number (map name es) number ≡ None)
of-others number e es zero none = none-if (e.number == number) e.def (definition_of_number (map name es) number) none
of-others number e [] (suc k) none = none-if (e.number == number) e.def None none
of-others number e (x ∷ xs) (suc k) none =
    let both = none-if (x.number == number) x.def (definition_of_number (map name (take k xs ++ e ∷ drop k xs)) number) none in
    let later = of-others number e xs k both.1 in
    (later.0, ap (λ b. cond b (Some x.def) (definition_of_number (map name xs) number)) both.0 ∙ later.1)

pub free-placed : (old new : Slab (Unit {0})) (e : JobSlot) (es : List JobSlot) (k : ℕ) → Updates old new e.number (Some tt) → AreFree old (map name es) →
    AreFree new (map name (take k es ++ e ∷ drop k es))
free-placed old new e es k updates free = λ number none. (
    let both = of-others number e es k none in
    updates.others number (apart e.number number both.0) ∙ free number both.1)
