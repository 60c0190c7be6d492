-- Lines answered in one part and then in another are answered in both.
use Rattle.std.proofs.Common.{ℕ, List}
use Rattle.history_model.specs.declared.Reply.{Reply}
use Rattle.control_socket.specs.Serving.{Serves, nobody, one_more}

pub serves_append : {A : Type 0} {Answered : List ℕ → Reply → A → A → Type 0} {a b c : A} → Serves Answered a b → Serves Answered b c → Serves Answered a c
serves_append first nobody = first
serves_append first (one_more second answered) = one_more (serves_append first second) answered
