-- Orders by number are the machine's orders by label.
use Rattle.std.proofs.Common.{◌≡◌, ℕ, zero, suc, ◌<◌, length, get_or, sym, cond, List, [], ◌∷◌, map, refl, ap, ◌∙◌, arith}
use Rattle.history_model.specs.declared.Act.{Act}
use Rattle.loaded_jobs.specs.Tables.{Name, IsOther, IsOnce, label_of}
use Rattle.loaded_jobs.specs.StandsFor.{numbered_orders, labelled}
use Rattle.loaded_jobs.specs.JobSlots.{name}
use Rattle.loaded_jobs.specs.declared.job_slot.JobSlot.{JobSlot}
use Rattle.history_model.proofs.LawfulLemmas.{eqb-self}

abbrev pub IsNamed : List Name → List JobSlot → Type 0
IsNamed names [] = Unit {0}
IsNamed names (e ∷ es) = (label_of names e.number ≡ (name e).described.label) × IsNamed names es

more-named : (n : Name) (names : List Name) (es : List JobSlot) → IsOther n (map name es) → IsNamed names es → IsNamed (n ∷ names) es
more-named n names [] other named = tt
more-named n names (e ∷ es) other named =
    (ap (λ b. cond b n.described.label (label_of names e.number)) other.0 ∙ named.0, more-named n names es other.2 named.1)

pub is-named : (es : List JobSlot) → IsOnce (map name es) → IsNamed (map name es) es
is-named [] once = tt
is-named (e ∷ es) once =
    (ap (λ b. cond b (name e).described.label (label_of (map name es) e.number)) (eqb-self e.number), more-named (name e) (map name es) es once.0 (is-named es once.1))

pub labelled-numbered : (names : List Name) (number : ℕ) (acts : List Act) → labelled names (numbered_orders number acts) ≡ map (λ act. (label_of names number, act)) acts
labelled-numbered names number [] = refl
labelled-numbered names number (act ∷ acts) = ap (λ os. (label_of names number, act) ∷ os) (labelled-numbered names number acts)

named-at : (names : List Name) (es : List JobSlot) (k : ℕ) (d : JobSlot) → k < length es → IsNamed names es → label_of names (get_or es k d).number ≡ (get_or es k d).def.label
named-at names [] k d within named = let none : k < 0 = within in absurd (omega (arith, none))
named-at names (e ∷ es) zero d within named = named.0
named-at names (e ∷ es) (suc k) d within named = named-at names es k d (omega arith) named.1

-- the number of a slot stands for its label
pub number-named : (es : List JobSlot) (k : ℕ) (e : JobSlot) → k < length es → e ≡ get_or es k e → IsOnce (map name es) → label_of (map name es) e.number ≡ e.def.label
number-named es k e within is once =
    ap (λ x. label_of (map name es) x.number) is ∙ named-at (map name es) es k e within (is-named es once) ∙ ap (λ x. x.def.label) (sym is)
