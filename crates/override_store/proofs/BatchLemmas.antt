-- A text of several statements is its statements in turn.
use Rattle.std.proofs.Common.{◌≡◌, inl, inr, ℕ, zero, suc, ◌<◌, List, [], ◌∷◌, append-nil, take, drop, length, true, Option, Some, None, Ok, sym, ap, subst, subst₂, ◌∙◌, arith}
use Rattle.std.proofs.lemmas.Bool.{cases_Bool}
use Rattle.sqlite.specs.Batch.{first_len, ExecutesAllInside, RunInTurn, Step}
use Rattle.sqlite.specs.Store.{Ghosts}
use Rattle.sqlite.specs.Held.{Held}
use Rattle.sqlite.specs.Command.{Command}
use Rattle.sqlite.specs.Schema.{Schema}
use Rattle.sqlite.specs.Clock.{timed}
use Rattle.sqlite.specs.Listing.{understood}
use Rattle.sqlite.specs.State.{State, ExecutesIn, Runs, shows_rows, text_of}
use Rattle.sqlite.proofs.Callers.{IsPlain, command_of, statement_of}
use Rattle.override_store.proofs.TextLemmas.{Means, open_text, first_text, second_text, move_text, clear_text, rest_one, rest_two, cut_one, cut_two, cut_three, cut_four}

-- a statement of a batch runs the command that its text means
pub runs_in_batch : (sql : List ℕ) (old new : State) (schema : Schema) (command : Command) → Means schema sql command → old.now.schema ≡ schema → (count : ℕ) → ExecutesIn true sql [] old new (Ok count)
    → Runs old new None command (statement_of sql (understood schema sql)) [] count
unfolding ExecutesIn
runs_in_batch sql old new schema command means has count h =
    let known = sym h.1.is ∙ ap (λ s. understood s sql) has in
    let bare = subst IsPlain (sym known) means.plain in
    let ran : Runs old new h.0.returning h.0.command (text_of sql h.0) (timed [] h.0.formats h.1.now) count = elim (cases_Bool (shows_rows true h.0)) [
      | inl shows ↦ absurd (let e = (rw shows at h.2).0 in cc)
      | inr runs ↦ rw runs at h.2
    ] in
    subst₂ (λ k t. Runs old new None k t [] count) (ap command_of known ∙ means.command_is) (ap (statement_of sql) known) (rw (bare.0, bare.1, append-nil []) at ran)

module _ {S : Type 0} (g : Ghosts S) where
  -- a batch that went through begins with its first statement
  turn : (inside : Option ℕ) (most : ℕ) (text : List ℕ) (old new : Held S) → 0 < length text → RunInTurn g inside most text old new (Ok tt)
      → (next : ℕ) × (mid : Held S) × (count : ℕ) × Step g (take (first_len text) text) old mid (Ok count) × RunInTurn g inside next (drop (first_len text) text) mid new (Ok tt)
  turn inside most [] old new some h = absurd (omega (arith, some))
  turn inside zero (b ∷ more) old new some h = absurd h
  turn inside (suc most) (b ∷ more) old new some (inl stopped) = absurd (let e = stopped.1 in cc)
  turn inside (suc most) (b ∷ more) old new some (inr went) = (most, went.0, went.1, went.2, went.3)

  ended : (inside : Option ℕ) (most : ℕ) (old new : Held S) → RunInTurn g inside most [] old new (Ok tt) → new ≡ old
  ended inside zero old new h = h.1
  ended inside (suc most) old new h = h.1

  -- one statement of a known text, and the rest
  cut : (inside : Option ℕ) (most : ℕ) (text first rest : List ℕ) (old new : Held S) → 0 < length text → (take (first_len text) text ≡ first) × (drop (first_len text) text ≡ rest)
      → RunInTurn g inside most text old new (Ok tt) → (next : ℕ) × (mid : Held S) × (count : ℕ) × Step g first old mid (Ok count) × RunInTurn g inside next rest mid new (Ok tt)
  cut inside most text first rest old new some is h =
      let a = turn inside most text old new some h in
      (a.0, a.1, a.2, subst (λ t. Step g t old a.1 (Ok a.2)) is.0 a.3, subst (λ t. RunInTurn g inside a.0 t a.1 new (Ok tt)) is.1 a.4)

  -- the last statement
  finish : (inside : Option ℕ) (most : ℕ) (text : List ℕ) (old new : Held S) → 0 < length text → (take (first_len text) text ≡ text) × (drop (first_len text) text ≡ []) → RunInTurn g inside most text old new (Ok tt)
      → (count : ℕ) × Step g text old new (Ok count)
  finish inside most text old new some is h =
      let a = cut inside most text text [] old new some is h in
      (a.2, subst (λ (x : Held S). Step g text old x (Ok a.2)) (sym (ended inside a.0 a.1 new a.4)) a.3)

  -- the statements of an open, in turn
  pub record Opened (old new : Held S) : Type 0 where
    pub one : Held S
    pub two : Held S
    pub three : Held S
    pub counts : ℕ × (ℕ × (ℕ × ℕ))
    pub first : Step g first_text old one (Ok counts.0)
    pub second : Step g second_text one two (Ok counts.1.0)
    pub moved : Step g move_text two three (Ok counts.1.1.0)
    pub cleared : Step g clear_text three new (Ok counts.1.1.1)

  pub unrolled : (old new : Held S) → ExecutesAllInside g 0 open_text old new (Ok tt) → Opened old new
  unfolding ExecutesAllInside
  unrolled old new h =
      let a = cut (Some 0) (length open_text) open_text first_text rest_one old new (omega arith) cut_one h in
      let b = cut (Some 0) a.0 rest_one second_text rest_two a.1 new (omega arith) cut_two a.4 in
      let c = cut (Some 0) b.0 rest_two move_text clear_text b.1 new (omega arith) cut_three b.4 in
      let d = finish (Some 0) c.0 clear_text c.1 new (omega arith) cut_four c.4 in
      record { one = a.1; two = b.1; three = c.1; counts = (a.2, (b.2, (c.2, d.0))); first = a.3; second = b.3; moved = c.3; cleared = d.1 }
