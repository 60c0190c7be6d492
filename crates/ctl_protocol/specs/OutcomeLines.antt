-- The lines of outcomes and of replies.
use Rattle.std.specs.Prelude.{ℕ, List, [], ◌∷◌, ◌++◌, map, codes, Option, Some, None}
use Rattle.std.specs.Borrow.{Bor}
use Rattle.serde_json.specs.Data.{Data, number, unsigned, string, array, object, Items, no_members, member}
use Rattle.serde_json.specs.View.{items_of}
use Rattle.history_model.specs.declared.Act.{Act}
use Rattle.history_model.specs.declared.Act.TheVariants.{Spawn, Term, Kill, Close, Gone}
use Rattle.history_model.specs.declared.Refusal.{Refusal}
use Rattle.history_model.specs.declared.Reply.{Reply}
use Rattle.history_model.specs.Labels.{Label}
use Rattle.history_model.specs.Step.{Outcome}
use Rattle.history_model.specs.RefusalTexts.{refusal_text, refusal_code}
use Rattle.ctl_protocol.specs.Objects.{Plain, text, count, plain_object, line_of}

-- ---- orders

-- the key `job`
abbrev job_of : Label → List ℕ × Plain
job_of job = (codes "job", text job)

-- the key `order`, which names the kind
abbrev named : List ℕ → List ℕ × Plain
named order = (codes "order", text order)

-- the key `run`
abbrev numbered : ℕ → List ℕ × Plain
numbered run = (codes "run", count run)

-- the key `conn`
abbrev carrying : ℕ → List ℕ × Plain
carrying conn = (codes "conn", count conn)

-- the keys of an order, in byte order
abbrev pub order_members : Label × Act → List (List ℕ × Plain)
order_members (job, Spawn run None) = job_of job ∷ named (codes "spawn") ∷ numbered run ∷ []
order_members (job, Spawn run (Some conn)) =
    carrying conn ∷ job_of job ∷ named (codes "spawn") ∷ numbered run ∷ []
order_members (job, Term run) = job_of job ∷ named (codes "term") ∷ numbered run ∷ []
order_members (job, Kill run) = job_of job ∷ named (codes "kill") ∷ numbered run ∷ []
order_members (job, Close conn) = carrying conn ∷ job_of job ∷ named (codes "close") ∷ []
order_members (job, Gone) = job_of job ∷ named (codes "gone") ∷ []

-- the orders as an array of objects
abbrev pub orders_data : List (Label × Act) → Items
orders_data orders = items_of (map (λ o. plain_object (order_members o)) orders)

-- the orders without where the labels lie in memory
abbrev pub plain_orders : List (Bor (List ℕ) × Act) → List (Label × Act)
plain_orders orders = map (λ o. (o.0.now, o.1)) orders

-- ---- outcomes and replies

-- 0, or the code of the refusal
abbrev pub code_of : Option Refusal → ℕ
code_of None = 0
code_of (Some refusal) = refusal_code refusal

-- a refusal's own text, or else the reply's
abbrev pub text_of : Reply → List ℕ
text_of reply = refused_text reply.refusal where
  refused_text : Option Refusal → List ℕ
  refused_text None = reply.text
  refused_text (Some refusal) = refusal_text refusal

-- what a reply and the orders of the step are together
abbrev pub replied : Reply → List (Label × Act) → Outcome
replied reply orders = record { refusal = reply.refusal; orders = orders; text = text_of reply }

-- the object of an outcome: its code, its orders and its text
abbrev pub outcome_object : ℕ → List ℕ → List (Label × Act) → Data
outcome_object code said orders =
    object (member (codes "code") (number (unsigned code))
    (member (codes "orders") (array (orders_data orders))
    (member (codes "text") (string said) no_members)))

-- the same of an outcome
abbrev pub outcome_data : Outcome → Data
outcome_data o = outcome_object (code_of o.refusal) o.text o.orders

-- the line of an outcome, with its newline
abbrev pub outcome_line : Outcome → List ℕ
outcome_line o = line_of (outcome_data o)

-- the object of a reply: its code and its text
abbrev pub reply_object : ℕ → List ℕ → Data
reply_object code said = plain_object ((codes "code", count code) ∷ (codes "text", text said) ∷ [])

-- the line of a reply, with its newline
abbrev pub reply_line : Reply → List ℕ
reply_line reply = line_of (reply_object (code_of reply.refusal) (text_of reply))

-- the line as the texts of its values
abbrev pub line_parts : List ℕ → List ℕ → List ℕ → List ℕ
line_parts code orders said =
    (((((codes "{\"code\":" ++ code) ++ codes ",\"orders\":") ++ orders) ++ codes ",\"text\":")
    ++ said) ++ codes "}\n"
