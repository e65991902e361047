use Rattle.std.proofs.Common.{length, ap, arith, rules}
use Rattle.flash_die.proofs.Fresh.{blocks_fresh, memory_fresh}
use Rattle.flash_die.proofs.memory.MemoryNand.new.Goals as goal

pub returns-clause-fresh : goal.returns-clause-fresh
returns-clause-fresh c =
    rw (
      c.in_ok-vec.ensures.items_if_clones_equal (λ _ same. same),
      c.in_ok-vec-2.ensures.items_if_clones_equal (λ _ same. same),
      c.in_ok-vec-3.ensures.items_if_clones_equal (λ _ same. same),
      blocks_fresh,
    )

pub invariant_of-result : goal.invariant_of-result
invariant_of-result c =
    let shape = c.args.shape in
    let cells = c.in_ok-with_capacity.field-0.items in
    record {
      memory = memory_fresh shape cells c.in_ok-vec.field-0.items c.in_ok-vec-2.field-0.items c.in_ok-vec-3.field-0.items
          (c.is_within_limits.ensures.0 (search rules)) c.in_ok-with_capacity.ensures.items
          (c.in_ok-vec.ensures.items_if_clones_equal (λ _ same. same)) (c.in_ok-vec-2.ensures.items_if_clones_equal (λ _ same. same))
          (c.in_ok-vec-3.ensures.items_if_clones_equal (λ _ same. same));
      some = omega (arith, ap length c.in_ok-with_capacity.ensures.items);
      room = c.in_ok-with_capacity.ensures.capacity;
    }
