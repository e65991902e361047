use Rattle.std.proofs.Common.{None, ap, get_or, refl, take, arith}
use Rattle.std.proofs.lemmas.List.{take_more}
use Rattle.std.proofs.lemmas.List.Recursion.{max_push}
use Rattle.die_mount.specs.Erases.{above_told, one_more}
use Rattle.die_mount.proofs.erases.above_told.Goals as goal

pub loop-block-preserved : goal.loop-block-preserved
loop-block-preserved c =
    let told = c.args.told.now in
    let k = c.loop-block.block in
    let more = take_more told k None c.loop-block-test.true in
    let push = max_push above_told one_more refl (λ x xs. refl) (take k told) (get_or told k None) in (
      omega (arith, c.max-above.ensures, c.loop-block.invariant.0, c.one_more.ensures.value, push, ap above_told more),
      omega (arith, c.max-above.ensures, c.loop-block.invariant.1, c.one_more.ensures.range),
    )
