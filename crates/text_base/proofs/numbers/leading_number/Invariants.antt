use Rattle.std.proofs.Common.{◌^◌, ◌<◌}
use Rattle.text_base.specs.Number.{HasDigits}
use Rattle.text_base.proofs.numbers.leading_number.Given as goal

abbrev pub invariant-loop-i : goal.invariant-loop-i
invariant-loop-i l = record {
  has : HasDigits l.text l.i l.value;
  small : l.value < 10 ^ l.i;
}
