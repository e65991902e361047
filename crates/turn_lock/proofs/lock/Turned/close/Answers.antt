use Rattle.std.proofs.Common.{rules, refl, ap, ◌≡◌, ◌+◌, ◌-◌, ◌∙◌, length, arith}
use Rattle.std.proofs.lemmas.Grind.{common_steps}
use Rattle.turn_lock.proofs.Turns.{grown, sole_after, seen_before, none_left, none_out}
use Rattle.turn_lock.proofs.lock.Turned.close.Goals as goal

pub returns-then-out-gt0-clause-out : goal.returns-then-out-gt0-clause-out
returns-then-out-gt0-clause-out g c = rw (← c.pass.view_is) (
  c.take-kept.result.made - 1 - c.pass.inside.joined,
  refl,
  search rules,
  (
    grown g.B.Book.log g.B.Book.about g.B.Book.fits _ c.take-kept.new.seat.me.0 _ c.take-kept.result c.take-kept.result.book
        c.take-kept.ensures.won.1 c.pass.invariant.2 refl c.release.ensures.view,
    search rules,
    λ zero. sole_after g.B.Book.log g.B.Book.about g.B.Book.fits _ c.take-kept.new.seat.me.0 _ c.take-kept.result c.take-kept.result.book _
        c.take-kept.ensures.won.1 c.pass.invariant.1 c.release.ensures.view (search rules) zero,
    λ zero. seen_before g.B.Book.log g.B.Book.about g.B.Book.fits _ c.take-kept.new.seat.me.0 _ c.take-kept.result _
        c.take-kept.ensures.won.1 c.pass.invariant.1 c.release.ensures.view (search rules) zero,
    λ sole. none_out g.B.Book.log g.B.Book.about g.B.Book.fits _ c.take-kept.new.seat.me.0 c.take-kept.result _ c.take-kept.ensures.won.1
        c.pass.invariant.1 (search rules) sole,
  ),
)

pub returns-then-out-gt0-clause-sole : goal.returns-then-out-gt0-clause-sole
returns-then-out-gt0-clause-sole g c = λ sole.
    let v = c.pass.inside.seat.me.0 in
    let l : length v.joined + 1 ≡ c.take-kept.result.made = none_left g.B.Book.log g.B.Book.about g.B.Book.fits v c.take-kept.new.seat.me.0
    c.take-kept.result c.take-kept.ensures.won.1 c.pass.invariant.1 (ap (λ x. x.view.sole) c.pass.view_is ∙ sole) in
    absurd (omega arith)

pub invariant_of-pass : goal.invariant_of-pass
invariant_of-pass g c = grind (arith, common_steps)

pub returns-then-out-gt0-clause-closed : goal.returns-then-out-gt0-clause-closed
returns-then-out-gt0-clause-closed g c = grind (arith, common_steps)

pub returns-then-out-gt0-clause-own : goal.returns-then-out-gt0-clause-own
returns-then-out-gt0-clause-own g c = grind (arith, common_steps)

pub returns-then-out-gt0-clause-back : goal.returns-then-out-gt0-clause-back
returns-then-out-gt0-clause-back g c = grind (arith, common_steps)

pub returns-clause-closed : goal.returns-clause-closed
returns-clause-closed g c = grind (arith, common_steps)

pub returns-clause-own : goal.returns-clause-own
returns-clause-own g c = grind (arith, common_steps)

pub returns-clause-out : goal.returns-clause-out
returns-clause-out g c = grind (arith, common_steps)

pub returns-clause-back : goal.returns-clause-back
returns-clause-back g c = grind (arith, common_steps)

pub returns-clause-sole : goal.returns-clause-sole
returns-clause-sole g c = grind (arith, common_steps)
