-- What a further poll adds to those before.
use Rattle.std.proofs.Common.{rules, ◌≡◌, ℕ, ◌+◌, ◌-◌, ◌^◌, min, Option, Some, refl, inl, inr, subst, sym, arith}
use Rattle.live_loop.specs.Children.{Polls, no_poll, one_more}
use Rattle.live_loop.proofs.children.poll_children.Goals as goal

poll_on : {H : Type 0} {Polled : ℕ → Option ℕ → H → H → Type 0} {first n next job next' : ℕ} {old mid new : H} → Polls Polled first old n next mid →
    Polled next (Some job) mid new → next' ≡ min (job + 1) (2 ^ 32 - 1) → Polls Polled first old (n + 1) next' new
poll_on {H} {Polled} {first} {n} {next} {job} {next'} {old} {mid} {new} polls polled is =
    subst (λ (k : ℕ). Polls Polled first old (n + 1) k new) (sym is) (one_more polls polled)

pub loop-init : goal.loop-init
loop-init g c = no_poll

pub loop-preserved : goal.loop-preserved
loop-preserved g c = poll_on c.loop.invariant (search rules) c.saturating_add-next.ensures

pub returns-then-not-has_time-clause-polls : goal.returns-then-not-has_time-clause-polls
returns-then-not-has_time-clause-polls g c = record {
  polls = c.loop.counter + 1;
  behind = c.saturating_add-next.result;
  mid = c.poll_from.new.self;
  over = poll_on c.loop.invariant (search rules) c.saturating_add-next.ensures;
  rest = inr (inl (omega arith, refl, refl));
}

pub returns-then-not-has_time-clause-time : goal.returns-then-not-has_time-clause-time
returns-then-not-has_time-clause-time g c = inr (c.loop.time, search rules)
