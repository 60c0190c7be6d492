-- Whether an input was a load that was accepted.
use Rattle.std.specs.Prelude.{Bool, true, false, ◌&&◌, Option, Some, is_none}
use Rattle.history_model.specs.declared.Refusal.{Refusal}
use Rattle.ctl_protocol.specs.declared.request.Request.TheVariants as requests
use Rattle.launcher.specs.Inputs.{Incoming, asked}

-- a load is asked for
abbrev pub is_load : Option Incoming → Bool
is_load (Some (asked (requests.Load load))) = true
is_load _ = false

-- and it was accepted
abbrev pub is_accepted_load : Option Incoming → Option Refusal → Bool
is_accepted_load incoming refusal = is_load incoming && is_none refusal
