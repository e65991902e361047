use Rattle.std.proofs.Common.{arith}
use Rattle.std.proofs.lemmas.Grind.{common_steps}
use Rattle.std.proofs.Common.{rules, ap, ◌∙◌, refl}
use Rattle.turn_lock.proofs.Keeps.{splits}
use Rattle.turn_lock.proofs.Turns.{parts, grown, unused}
use Rattle.turn_lock.proofs.lock.Turned.split_pass.Goals as goal

pub split_seat-seat-requires : goal.split_seat-seat-requires
split_seat-seat-requires g c = let view_is = c.take-kept.ensures.won.1.view_is in
    (search rules, search rules, splits _ _ _ _ _ _ (ap (λ u. u.live) view_is ∙ c.pass.invariant.1) (ap (λ u. u.turn) view_is) (search rules))

pub returns-clause-parts : goal.returns-clause-parts
returns-clause-parts g c = let cut = c.split_seat-seat.ensures in
    rw (← c.pass.view_is) (parts g.B.Book.log g.B.Book.about g.B.Book.fits _ c.take-kept.new.seat.me.0 c.split_seat-seat.new.seat.me.0 _ _
    c.take-kept.result c.take-kept.result.book c.take-kept.ensures.won.1 c.pass.invariant.2
    c.if-number-ge-MAX_PASSES.false (ap (λ m. m.0) cut.2) (ap (λ m. m.0) cut.4) c.release-pass-inside-2.ensures.view refl)

pub returns-clause-unused : goal.returns-clause-unused
returns-clause-unused g c = unused g.B.Book.log g.B.Book.about g.B.Book.fits _ c.take-kept.new.seat.me.0 _ c.take-kept.result
    c.take-kept.ensures.won.1 (ap (λ m. m.0) c.split_seat-seat.ensures.4)

pub returns-then-number-ge-MAX_PASSES-clause-full : goal.returns-then-number-ge-MAX_PASSES-clause-full
returns-then-number-ge-MAX_PASSES-clause-full g c = rw (← c.pass.view_is) (
  grown g.B.Book.log g.B.Book.about g.B.Book.fits _ c.take-kept.new.seat.me.0 _ c.take-kept.result c.take-kept.result.book
      c.take-kept.ensures.won.1 c.pass.invariant.2 refl c.release-pass-inside.ensures.view,
  search rules,
)

pub invariant_of-pass : goal.invariant_of-pass
invariant_of-pass g c = grind (arith, common_steps)

pub returns-then-number-ge-MAX_PASSES-clause-same : goal.returns-then-number-ge-MAX_PASSES-clause-same
returns-then-number-ge-MAX_PASSES-clause-same g c = grind (arith, common_steps)

pub returns-then-number-ge-MAX_PASSES-clause-own : goal.returns-then-number-ge-MAX_PASSES-clause-own
returns-then-number-ge-MAX_PASSES-clause-own g c = grind (arith, common_steps)

pub returns-then-number-ge-MAX_PASSES-clause-parts : goal.returns-then-number-ge-MAX_PASSES-clause-parts
returns-then-number-ge-MAX_PASSES-clause-parts g c = grind (arith, common_steps)

pub returns-then-number-ge-MAX_PASSES-clause-live : goal.returns-then-number-ge-MAX_PASSES-clause-live
returns-then-number-ge-MAX_PASSES-clause-live g c = grind (arith, common_steps)

pub returns-then-number-ge-MAX_PASSES-clause-refused : goal.returns-then-number-ge-MAX_PASSES-clause-refused
returns-then-number-ge-MAX_PASSES-clause-refused g c = grind (arith, common_steps)

pub invariant_of-result : goal.invariant_of-result
invariant_of-result g c = grind (arith, common_steps)

pub invariant_of-pass-2 : goal.invariant_of-pass-2
invariant_of-pass-2 g c = grind (arith, common_steps)

pub returns-clause-same : goal.returns-clause-same
returns-clause-same g c = grind (arith, common_steps)

pub returns-clause-own : goal.returns-clause-own
returns-clause-own g c = grind (arith, common_steps)

pub returns-clause-live : goal.returns-clause-live
returns-clause-live g c = grind (arith, common_steps)

pub returns-clause-refused : goal.returns-clause-refused
returns-clause-refused g c = grind (arith, common_steps)

pub returns-clause-full : goal.returns-clause-full
returns-clause-full g c = grind (arith, common_steps)
