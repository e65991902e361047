use Rattle.std.proofs.Common.{length, ap, arith, rules}
use Rattle.flash_die.proofs.Left.{memory_left}
use Rattle.flash_die.proofs.memory.MemoryNand.left.Goals as goal

pub returns-clause-left : goal.returns-clause-left
returns-clause-left c =
    rw (
      c.in_ok-reserve_exact.ensures.items,
      c.in_ok-from_slice.ensures.items,
      c.in_ok-vec.ensures.items_if_clones_equal (λ _ same. same),
      c.in_ok-from_slice-2.ensures.items,
    )

pub invariant_of-result : goal.invariant_of-result
invariant_of-result c =
    let shape = c.args.shape in
    record {
      memory = rw (c.in_ok-reserve_exact.ensures.items, c.in_ok-from_slice.ensures.items, c.in_ok-from_slice-2.ensures.items)
          (memory_left shape c.args.cells.items c.args.filled.now c.in_ok-vec.field-0.items c.args.erases.now
          (c.is_within_limits.ensures.0 (search rules)) c.requires.few_cells c.requires.filled_blocks c.requires.erased_blocks c.requires.within
          (c.in_ok-vec.ensures.items_if_clones_equal (λ _ same. same)));
      some = omega (arith, ap length c.in_ok-reserve_exact.ensures.items, c.requires.few_cells);
      room = omega (arith, c.in_ok-reserve_exact.ensures.ok);
    }
