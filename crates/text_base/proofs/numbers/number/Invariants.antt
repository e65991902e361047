use Rattle.std.proofs.Common.{◌≡◌, ◌^◌, ◌<◌, drop}
use Rattle.text_base.specs.Number.{number_from}
use Rattle.text_base.proofs.numbers.number.Given as goal

abbrev pub invariant-loop-digit : goal.invariant-loop-digit
invariant-loop-digit l = record {
  same : number_from l.value (drop l.digit-index l.field) ≡ number_from 0 l.field;
  small : l.value < 10 ^ l.digit-index;
}
