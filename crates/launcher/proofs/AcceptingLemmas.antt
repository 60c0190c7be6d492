-- Whether an input was a load that was accepted.
use Rattle.std.proofs.Common.{◌≡◌, Bool, true, false, Option, Some, refl, sym, ap, subst}
use Rattle.std.specs.Prelude.{◌&&◌, is_none, option_map}
use Rattle.history_model.specs.declared.Refusal.{Refusal}
use Rattle.history_model.specs.Labels.{Label}
use Rattle.history_model.proofs.BooleanLemmas.{and-false}
use Rattle.ctl_protocol.specs.declared.request.Request.{Request}
use Rattle.launcher.specs.Accepting.{is_accepted_load, is_load}
use Rattle.launcher.specs.Inputs.{Incoming, asked}
use Rattle.launcher.specs.JournaledLines.{setting_asked}

-- a line that is a request is a load if that is
pub accepted_line : (line : Option Request) (r : Request) (refusal : Option Refusal) (b : Bool) → line ≡ Some r → b ≡ is_accepted_load (Some (asked r)) refusal → b ≡ is_accepted_load (option_map asked line) refusal
accepted_line line r refusal b is loaded = subst (λ (l : Option Request). b ≡ is_accepted_load (option_map asked l) refusal) (sym is) loaded

-- what was refused loaded nothing
pub refused_load : (incoming : Option Incoming) (refusal : Refusal) → false ≡ is_accepted_load incoming (Some refusal)
refused_load incoming refusal = sym (and-false (is_load incoming))

-- nor does what is no load
pub unloading : (incoming : Option Incoming) (refusal : Option Refusal) → is_load incoming ≡ false → false ≡ is_accepted_load incoming refusal
unloading incoming refusal is = sym (ap (λ (b : Bool). b && is_none refusal) is)

-- a setting is none
pub set_loads : (job : Label) (disabled unload : Bool) → is_load (Some (asked (setting_asked job disabled unload))) ≡ false
set_loads job disabled true = refl
set_loads job disabled false = refl
