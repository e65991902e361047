use Rattle.std.proofs.Common.{◌≡◌, ◌++◌, take}
use Rattle.flashplan_design.specs.Alphas.{numbers_text}
use Rattle.flashplan_design.proofs.alpha_texts.put_numbers.Given as goal

abbrev pub invariant-loop-number : goal.invariant-loop-number
invariant-loop-number l = l.text.items ≡ l.initial.text.items ++ numbers_text (take l.number-index l.numbers)
