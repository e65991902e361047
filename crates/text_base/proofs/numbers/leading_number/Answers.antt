use Rattle.std.proofs.Common.{◌≡◌, arith, rules, true}
use Rattle.std.proofs.lemmas.Grind.{common_steps}
use Rattle.std.specs.Char.{is_ascii_digit}
use Rattle.std.specs.Prelude.{slice_index}
use Rattle.text_base.proofs.StartLaws.{digits-more}
use Rattle.text_base.proofs.numbers.leading_number.Goals as goal

pub loop-i-preserved : goal.loop-i-preserved
loop-i-preserved c =
    let digit : is_ascii_digit (slice_index c.args.text.now c.loop-i.i) ≡ true = search rules in
    record {
      has = rw c.from.ensures (digits-more c.args.text.now c.loop-i.i c.loop-i.value (omega arith) digit c.loop-i.invariant.has);
      small = grind (arith, common_steps);
    }
