-- The text of an order, as the pieces of which it is written.
use Rattle.std.proofs.Common.{◌≡◌, ℕ, List, [], ◌++◌, codes, decimal, Some, None, refl, ap, ◌∙◌}
use Rattle.serde_json.specs.Data.{string}
use Rattle.serde_json.specs.Written.{compact_text}
use Rattle.serde_json.proofs.OnLiterals.{serde_json_on_literals}
use Rattle.history_model.specs.declared.Act.{Act}
use Rattle.history_model.specs.declared.Act.TheVariants.{Spawn, Term, Kill, Close, Gone}
use Rattle.ctl_protocol.specs.Objects.{plain_object}
use Rattle.ctl_protocol.specs.OutcomeLines.{order_members}

abbrev pub order_text : List ℕ → Act → List ℕ
order_text job act = compact_text (plain_object (order_members (job, act)))

-- the pieces of an order without a connection, and of one with it
abbrev pub without : List ℕ → List ℕ → List ℕ → List ℕ
without label middle run = codes "{\"job\":" ++ (label ++ (middle ++ (run ++ (codes "}" ++ []))))

abbrev pub within : List ℕ → List ℕ → List ℕ → List ℕ
within conn label rest = codes "{\"conn\":" ++ (conn ++ (codes ",\"job\":" ++ (label ++ rest)))

spawn_pieces : (job : List ℕ) (run : ℕ) → without (compact_text (string job)) (codes ",\"order\":\"spawn\",\"run\":") (decimal run) ≡ order_text job (Spawn run None)
unfolding serde_json_on_literals
spawn_pieces job run = refl

carry_pieces : (job : List ℕ) (run conn : ℕ)
    → within (decimal conn) (compact_text (string job)) (codes ",\"order\":\"spawn\",\"run\":" ++ (decimal run ++ (codes "}" ++ []))) ≡ order_text job (Spawn run (Some conn))
unfolding serde_json_on_literals
carry_pieces job run conn = refl

term_pieces : (job : List ℕ) (run : ℕ) → without (compact_text (string job)) (codes ",\"order\":\"term\",\"run\":") (decimal run) ≡ order_text job (Term run)
unfolding serde_json_on_literals
term_pieces job run = refl

kill_pieces : (job : List ℕ) (run : ℕ) → without (compact_text (string job)) (codes ",\"order\":\"kill\",\"run\":") (decimal run) ≡ order_text job (Kill run)
unfolding serde_json_on_literals
kill_pieces job run = refl

close_pieces : (job : List ℕ) (conn : ℕ) → within (decimal conn) (compact_text (string job)) (codes ",\"order\":\"close\"}" ++ []) ≡ order_text job (Close conn)
unfolding serde_json_on_literals
close_pieces job conn = refl

gone_pieces : (job : List ℕ) → codes "{\"job\":" ++ (compact_text (string job) ++ (codes ",\"order\":\"gone\"}" ++ [])) ≡ order_text job Gone
unfolding serde_json_on_literals
gone_pieces job = refl

-- what was written is the order's text, once its pieces are known
module _ (old new job label : List ℕ) (act : Act) (quoted : label ≡ compact_text (string job)) where
  pub spawn_written : (run : ℕ) (digits : List ℕ) → act ≡ Spawn run None → digits ≡ decimal run
      → new ≡ old ++ without label (codes ",\"order\":\"spawn\",\"run\":") digits → new ≡ old ++ order_text job act
  spawn_written run digits is d whole = whole ∙ rw (quoted, d, is) (ap (λ t. old ++ t) (spawn_pieces job run))

  pub carry_written : (run conn : ℕ) (digits more : List ℕ) → act ≡ Spawn run (Some conn) → digits ≡ decimal run → more ≡ decimal conn
      → new ≡ old ++ within more label (codes ",\"order\":\"spawn\",\"run\":" ++ (digits ++ (codes "}" ++ []))) → new ≡ old ++ order_text job act
  carry_written run conn digits more is d m whole = whole ∙ rw (quoted, d, m, is) (ap (λ t. old ++ t) (carry_pieces job run conn))

  pub term_written : (run : ℕ) (digits : List ℕ) → act ≡ Term run → digits ≡ decimal run
      → new ≡ old ++ without label (codes ",\"order\":\"term\",\"run\":") digits → new ≡ old ++ order_text job act
  term_written run digits is d whole = whole ∙ rw (quoted, d, is) (ap (λ t. old ++ t) (term_pieces job run))

  pub kill_written : (run : ℕ) (digits : List ℕ) → act ≡ Kill run → digits ≡ decimal run
      → new ≡ old ++ without label (codes ",\"order\":\"kill\",\"run\":") digits → new ≡ old ++ order_text job act
  kill_written run digits is d whole = whole ∙ rw (quoted, d, is) (ap (λ t. old ++ t) (kill_pieces job run))

  pub close_written : (conn : ℕ) (more : List ℕ) → act ≡ Close conn → more ≡ decimal conn
      → new ≡ old ++ within more label (codes ",\"order\":\"close\"}" ++ []) → new ≡ old ++ order_text job act
  close_written conn more is m whole = whole ∙ rw (quoted, m, is) (ap (λ t. old ++ t) (close_pieces job conn))

  pub gone_written : act ≡ Gone → new ≡ old ++ (codes "{\"job\":" ++ (label ++ (codes ",\"order\":\"gone\"}" ++ []))) → new ≡ old ++ order_text job act
  gone_written is whole = whole ∙ rw (quoted, is) (ap (λ t. old ++ t) (gone_pieces job))
