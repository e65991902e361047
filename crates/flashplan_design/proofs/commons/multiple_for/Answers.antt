use Rattle.std.proofs.Common.{◌≡◌, ◌+◌, ◌*◌, ◌%◌, ◌≤◌, arith}
use Rattle.slot_types.specs.declared.limits.TheConstants.{MAX_SLOT}
use Rattle.flashplan_design.proofs.Multiples.{few_product, least_divides, multiple_divides, none_divides, some_product}
use Rattle.flashplan_design.proofs.Tries.{next_up, no_true}
use Rattle.flashplan_design.proofs.commons.multiple_for.Goals as goal

pub loop-before-preserved : goal.loop-before-preserved
loop-before-preserved c =
    next_up (λ j. ¬ ((c.args.of * j) % c.args.period ≡ 0)) 1 (c.loop-before.before + 1) c.loop-before.invariant
    (λ whole. no_true _ c.if-divides.false (c.divides.ensures.1 whole))

pub returns-then-divides : goal.returns-then-divides
returns-then-divides c =
    let own : (c.args.of * (c.loop-before.before + 1)) % c.args.period ≡ 0 = c.divides.ensures.0 c.if-divides.true in
    let some : 1 ≤ c.args.of * (c.loop-before.before + 1) = some_product c.args.of (c.loop-before.before + 1) c.requires.some (omega arith) in
    record {
      some = some;
      few = few_product c.args.of (c.loop-before.before + 1) MAX_SLOT (omega (arith, c.loop-before-test.true));
      own = (multiple_divides c.args.of (c.loop-before.before + 1), own);
      all = λ n both. least_divides c.args.of c.args.period (c.loop-before.before + 1) n some own c.loop-before.invariant both.0 both.1;
    }

pub returns : goal.returns
returns c = λ n one few both.
    none_divides c.args.of c.args.period c.loop-before.before n MAX_SLOT c.requires.some (omega (arith, c.loop-before-test.false, c.loop-before.auto.before-end))
    one few c.loop-before.invariant both.0 both.1
