use Rattle.std.proofs.Common.{◌≡◌, ℕ, suc, ◌-◌, sym, ap, ◌∙◌, arith}
use Rattle.die_service.specs.Feeds.{begins_at, writes_before}
use Rattle.die_service.proofs.Feeding.{begins_after, writes_after, get_at}
use Rattle.die_service.proofs.feeds.begin_of.Goals as goal

pub returns-clause-op : goal.returns-clause-op
returns-clause-op c =
    let next : c.args.place ≡ suc (c.args.place - 1) = omega (arith, c.if-place-eq0.false) in
    sym (ap (λ (n : ℕ). begins_at 0 c.args.rows.now n) next
    ∙ begins_after 0 c.args.rows.now (c.args.place - 1) c.in-Some.before.now
    (get_at c.args.rows.now (c.args.place - 1) c.in-Some.before.now c.in-Some.ensures.lookup.3.0
    (c.in-Some.ensures.lookup.3.1 c.in-Some.before.now)))

pub returns-clause-writes : goal.returns-clause-writes
returns-clause-writes c =
    let next : c.args.place ≡ suc (c.args.place - 1) = omega (arith, c.if-place-eq0.false) in
    sym (ap (λ (n : ℕ). writes_before 0 c.args.rows.now n) next
    ∙ writes_after 0 c.args.rows.now (c.args.place - 1) c.in-Some.before.now
    (get_at c.args.rows.now (c.args.place - 1) c.in-Some.before.now c.in-Some.ensures.lookup.3.0
    (c.in-Some.ensures.lookup.3.1 c.in-Some.before.now)))
