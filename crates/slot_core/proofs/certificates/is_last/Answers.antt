use Rattle.std.proofs.Common.{◌-◌, length, sym, ◌∙◌, eqb-true, arith}
use Rattle.slot_core.proofs.BusyIntervals.{listed_again}
use Rattle.slot_core.proofs.certificates.is_last.Goals as goal

pub returns-then-count-gt0 : goal.returns-then-count-gt0
returns-then-count-gt0 c =
    λ is k. listed_again c.args.numbers.now (length c.args.numbers.now - 1) c.args.number k c.index-numbers-count.result (omega arith)
    (sym c.index-numbers-count.is ∙ eqb-true _ _ (sym c.eq.ensures ∙ is))
