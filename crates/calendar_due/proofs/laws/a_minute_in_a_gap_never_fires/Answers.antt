-- The goals of `laws::a_minute_in_a_gap_never_fires` that the prover leaves open.
use Rattle.calendar_due.proofs.ChangeLemmas.{skipped}
use Rattle.calendar_due.proofs.CalendarLemmas.{mapped_from}
use Rattle.history_model.specs.Calendar.{crossed}
use Rattle.calendar_due.specs.Offsets.{shown_by}
use Rattle.calendar_due.proofs.laws.a_minute_in_a_gap_never_fires.Goals as goal

pub returns-clause-shown : goal.returns-clause-shown
returns-clause-shown c = skipped

pub returns-clause-crossed : goal.returns-clause-crossed
returns-clause-crossed c = λ ahead change before after at is gap previous now found.
    let from = mapped_from (shown_by ahead) (crossed previous now) at found in
    skipped ahead change before after at is gap from.0 from.1
