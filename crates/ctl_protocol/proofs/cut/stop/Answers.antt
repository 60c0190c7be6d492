-- What the check of `cut::stop` does not find by itself.
use Rattle.std.proofs.Common.{◌-◌, ◌++◌, take, ap, sym, ◌∙◌, arith}
use Rattle.std.specs.List.{take_while}
use Rattle.std.proofs.lemmas.Result.{on_ok_weaker}
use Rattle.ctl_protocol.specs.Lines.{lines_of, rest_of, is_short}
use Rattle.ctl_protocol.proofs.CutLemmas.{stops, kept_longer, kept_shorter, lines_on}
use Rattle.ctl_protocol.proofs.cut.stop.Goals as goal

pub overflow_sub-keep-else-line_len-at : goal.overflow_sub-keep-else-line_len-at
overflow_sub-keep-else-line_len-at c =
    let s = stops c.args.buffer.now.items c.args.piece.now c.args.at c.args.line_len c.requires.0 c.requires.1 in
    omega (arith, s.within, c.len.ensures.value)

pub returns-then-line_len-at-clause-lines : goal.returns-then-line_len-at-clause-lines
returns-then-line_len-at-clause-lines c =
    let x = c.args.buffer.now.items in
    let s = stops x c.args.piece.now c.args.at c.args.line_len c.requires.0 c.requires.1 in
    let k = kept_longer x c.args.piece.now c.args.at c.args.line_len c.if-line_len-at.true c.requires.0 in
    on_ok_weaker c.extend_from_slice.result (λ e. ap lines_of (e ∙ sym k) ∙ s.lines_is ∙ ap (λ ls. lines_of x ++ ls) (sym c.requires.2 ∙ ap (take_while (is_short c.args.limit)) (sym (lines_on x c.args.piece.now)))) c.extend_from_slice.ensures.ok

pub returns-then-line_len-at-clause-rest : goal.returns-then-line_len-at-clause-rest
returns-then-line_len-at-clause-rest c =
    let x = c.args.buffer.now.items in
    let s = stops x c.args.piece.now c.args.at c.args.line_len c.requires.0 c.requires.1 in
    let k = kept_longer x c.args.piece.now c.args.at c.args.line_len c.if-line_len-at.true c.requires.0 in
    on_ok_weaker c.extend_from_slice.result (λ e. ap rest_of (e ∙ sym k) ∙ s.rest_is) c.extend_from_slice.ensures.ok

pub returns-else-line_len-at-clause-lines : goal.returns-else-line_len-at-clause-lines
returns-else-line_len-at-clause-lines c =
    let x = c.args.buffer.now.items in
    let s = stops x c.args.piece.now c.args.at c.args.line_len c.requires.0 c.requires.1 in
    let k = kept_shorter x c.args.piece.now c.args.at c.args.line_len c.if-line_len-at.false s.within in
    ap lines_of (c.truncate.ensures.items ∙ ap (λ n. take (n - (c.args.line_len - c.args.at)) x) c.len.ensures.value ∙ sym k) ∙ s.lines_is
    ∙ ap (λ ls. lines_of x ++ ls) (sym c.requires.2 ∙ ap (take_while (is_short c.args.limit)) (sym (lines_on x c.args.piece.now)))

pub returns-else-line_len-at-clause-rest : goal.returns-else-line_len-at-clause-rest
returns-else-line_len-at-clause-rest c =
    let x = c.args.buffer.now.items in
    let s = stops x c.args.piece.now c.args.at c.args.line_len c.requires.0 c.requires.1 in
    let k = kept_shorter x c.args.piece.now c.args.at c.args.line_len c.if-line_len-at.false s.within in
    ap rest_of (c.truncate.ensures.items ∙ ap (λ n. take (n - (c.args.line_len - c.args.at)) x) c.len.ensures.value ∙ sym k) ∙ s.rest_is
