-- Nothing of its dialogue is changed.
use Rattle.std.proofs.Common.{refl}
use Rattle.control_socket.proofs.WaitingLemmas.{waits_kept}
use Rattle.control_socket.proofs.client.Client.makes_way.Goals as goal

pub returns-then-is_silent-clause-waits : goal.returns-then-is_silent-clause-waits
returns-then-is_silent-clause-waits c = waits_kept refl refl refl

pub returns-clause-waits : goal.returns-clause-waits
returns-clause-waits c = waits_kept refl refl refl
