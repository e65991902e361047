use Rattle.std.proofs.Common.{arith}
use Rattle.demand_trials.proofs.Multiples.{first_divides, some_both}
use Rattle.demand_trials.proofs.repeats.multiple_of.Goals as goal

pub returns-then-both-le-MAX_SLOT-clause-some : goal.returns-then-both-le-MAX_SLOT-clause-some
returns-then-both-le-MAX_SLOT-clause-some c =
    let made = some_both c.args.first c.args.second c.greatest_divisor-divisor.result c.greatest_divisor-divisor.ensures.greatest c.requires.first c.requires.second in
    grind (arith, made, c.in_ok-both.ensures, c.checked_mul.ensures)

pub returns-then-both-le-MAX_SLOT-clause-first : goal.returns-then-both-le-MAX_SLOT-clause-first
returns-then-both-le-MAX_SLOT-clause-first c =
    let made = first_divides c.args.first c.args.second c.greatest_divisor-divisor.result c.greatest_divisor-divisor.ensures.greatest in
    grind (arith, made, c.in_ok-both.ensures, c.checked_mul.ensures)
