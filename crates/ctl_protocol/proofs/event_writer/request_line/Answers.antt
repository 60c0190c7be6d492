-- What the check of `event_writer::request_line` does not find by itself.
use Rattle.std.proofs.Common.{ap, ◌∙◌}
use Rattle.serde_json.specs.Written.{has_float}
use Rattle.ctl_protocol.specs.declared.members.Form.TheVariants as forms
use Rattle.history_model.specs.declared.event.Event.{Event}
use Rattle.ctl_protocol.specs.Requests.{event_with, unasked}
use Rattle.ctl_protocol.specs.EventWriter.{name_of, line_members, answer_members, event_object}
use Rattle.serde_json.specs.View.{view}
use Rattle.ctl_protocol.proofs.ObjectsLemmas.{line_no_float}
use Rattle.ctl_protocol.proofs.EventWriterLemmas.{request_back, on_ok}
use Rattle.ctl_protocol.proofs.event_writer.request_line.Goals as goal

pub line_from-requires : goal.line_from-requires
line_from-requires c =
    let e : Event = event_with unasked c.args.request.now in
    ap has_float (c.in_ok-value.ensures ∙ ap (event_object forms.Request) (c.with-event.ensures ∙ ap (λ o. event_with o c.args.request.now) c.unasked.ensures))
    ∙ line_no_float forms.Request (name_of e) (line_members e) (answer_members e)

pub returns-clause-reads_back : goal.returns-clause-reads_back
returns-clause-reads_back c =
    on_ok c.line_from.result
    (request_back c.args.request.now (view c.in_ok-value.value)
    (c.in_ok-value.ensures ∙ ap (event_object forms.Request) (c.with-event.ensures ∙ ap (λ o. event_with o c.args.request.now) c.unasked.ensures)))
    c.line_from.ensures.reads_back
