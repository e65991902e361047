use Rattle.std.proofs.Common.{rules, refl}
use Rattle.turn_lock.proofs.Turns.{grown, sole_after, seen_before, none_out}
use Rattle.turn_lock.proofs.lock.Turned.out.Goals as goal

pub returns-clause-out : goal.returns-clause-out
returns-clause-out g c = rw (← c.pass.view_is) (
  grown g.B.Book.log g.B.Book.about g.B.Book.fits _ c.take-kept.new.seat.me.0 _ c.take-kept.result c.take-kept.result.book
      c.take-kept.ensures.won.1 c.pass.invariant.2 refl c.release-pass-inside.ensures.view,
  search rules,
  λ zero. sole_after g.B.Book.log g.B.Book.about g.B.Book.fits _ c.take-kept.new.seat.me.0 _ c.take-kept.result c.take-kept.result.book _
      c.take-kept.ensures.won.1 c.pass.invariant.1 c.release-pass-inside.ensures.view (search rules) zero,
  λ zero. seen_before g.B.Book.log g.B.Book.about g.B.Book.fits _ c.take-kept.new.seat.me.0 _ c.take-kept.result _ c.take-kept.ensures.won.1
      c.pass.invariant.1 c.release-pass-inside.ensures.view (search rules) zero,
  λ sole. none_out g.B.Book.log g.B.Book.about g.B.Book.fits _ c.take-kept.new.seat.me.0 c.take-kept.result _ c.take-kept.ensures.won.1
      c.pass.invariant.1 (search rules) sole,
)
