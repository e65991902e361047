-- A cell that the part says is programmed, of a block that isn't in erase, may be read.
use Rattle.std.proofs.Common.{◌≡◌, ℕ, ◌<◌, ◌==◌, true, List, length, ap, sym, ◌∙◌, subst, arith}
use Rattle.std.specs.Prelude.{Some, slice_get}
use Rattle.std.proofs.lemmas.Bool.Decides.{nat_tests}
use Rattle.std.proofs.lemmas.List.{length-map}
use Rattle.std.proofs.lemmas.Option.{slice_get_within}
use Rattle.slot_types.specs.declared.pages.Place.{Place}
use Rattle.flash_die.specs.Flash.{Block, IsProgrammed}
use Rattle.spare_blocks.specs.declared.cells.Cell.{Cell}
use Rattle.spare_blocks.specs.Parts.{PartBlock, part_block}
use Rattle.spare_blocks.specs.Tables.{on_part}
use Rattle.spare_blocks.specs.Spares.{Spared, numbered, spared_blocks}
use Rattle.spare_blocks.specs.Wearing.{Wearing}
use Rattle.spare_blocks.proofs.PlanCells.{block_is, count_is}

pub is_zero : (n : ℕ) → (n == 0) ≡ true → n ≡ 0
is_zero n e = grind (arith, nat_tests)

pub programmed : (d : Spared Wearing) (place : Place) (on : ℕ) (p q : Wearing) (x : Cell) → place.block < d.shape.blocks
    → on ≡ on_part d.table place.block → p ≡ d.part → q ≡ d.part → slice_get (part_block p.blocks on).cells place.page ≡ Some x
    → (part_block q.blocks on).erasing ≡ 0 → IsProgrammed (spared_blocks (λ (m : Wearing). m.blocks) d) place
programmed d place on p q x lt on_is p_is q_is held quiet =
    let all : Wearing → List PartBlock = λ m. m.blocks in
    let e = block_is all d place.block lt in
    let here : numbered all d place.block ≡ part_block d.part.blocks on = ap (part_block d.part.blocks) (sym on_is) in
    let own : numbered all d place.block ≡ part_block p.blocks on = here ∙ ap (λ (m : Wearing). part_block m.blocks on) (sym p_is) in
    let same : numbered all d place.block ≡ part_block q.blocks on = here ∙ ap (λ (m : Wearing). part_block m.blocks on) (sym q_is) in
    record {
      in_range = omega (arith, lt, count_is all d);
      filled = subst (λ (n : ℕ). place.page < n)
          (sym (ap (λ (b : Block). length b.pages) e
          ∙ (length-map (numbered all d place.block).cells (λ (c : Cell). c.bytes) ∙ ap (λ (b : PartBlock). length b.cells) own)))
          (slice_get_within (part_block p.blocks on).cells place.page x held);
      quiet = ap (λ (b : Block). b.erasing) e ∙ (ap (λ (b : PartBlock). b.erasing) same ∙ quiet);
    }
