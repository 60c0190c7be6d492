-- A line that is a request is taken as that request, and can be written.
use Rattle.std.proofs.Common.{Option, sym, subst}
use Rattle.std.specs.Prelude.{option_map}
use Rattle.ctl_protocol.specs.EventLines.{request_at}
use Rattle.ctl_protocol.specs.declared.request.Request.{Request}
use Rattle.launcher.specs.Hosts.{HostReceives, HostStamps}
use Rattle.launcher.specs.Inputs.{asked}
use Rattle.launcher.proofs.AcceptingLemmas.{accepted_line}
use Rattle.launcher.proofs.WritableLemmas.{line_writable}
use Rattle.launcher.proofs.host.Host.line.Goals as goal

pub returns-in-Ok-clause-writable : goal.returns-in-Ok-clause-writable
returns-in-Ok-clause-writable g c = λ other. line_writable c.args.line.now c.in-Ok.request c.in-Ok.ensures c.lend_request.ensures

pub returns-in-Ok-clause-turn : goal.returns-in-Ok-clause-turn
returns-in-Ok-clause-turn g c =
    let turn = c.ask-reply.ensures.turn in
    let was = c.args.self.now in
    let mid = c.ask-reply.new.self in
    let refusal = c.ask-reply.result.refusal in
    let words = c.ask-reply.result.text in
    record {
      receives = subst (λ (line : Option Request). HostReceives g.E.Edge.told g.T.SettingStore.told g.T.SettingStore.holds (option_map asked line) refusal words was mid) (sym c.in-Ok.ensures) turn.receives;
      stamped = subst (λ (line : Option Request). HostStamps g.T.SettingStore.stamped (option_map asked line) refusal was mid) (sym c.in-Ok.ensures) turn.stamped;
      quiet = turn.quiet;
      loaded = accepted_line (request_at c.args.line.now) c.in-Ok.request refusal mid.has_loaded c.in-Ok.ensures turn.loaded;
    }
