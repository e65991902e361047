use Rattle.std.proofs.Common.{◌≡◌, ℕ, ◌<◌, List, [], ◌∷◌, ◌++◌, length, sym, ◌∙◌, subst}
use Rattle.spare_blocks.specs.declared.cells.BlockUse.{BlockUse}
use Rattle.spare_blocks.specs.declared.cells.BlockUse.TheVariants as use_as
use Rattle.spare_blocks.specs.Tables.{Table, IsTable}
use Rattle.spare_blocks.proofs.Numbers.{other_sound, plan-spare, bad-plan}
use Rattle.spare_blocks.proofs.table.BlockTable.add_other.Goals as goal
use Rattle.spare_blocks.proofs.table.BlockTable.add_other.Goals.{then-is_spare, else-is_spare}

pub invariant_of-self-2 : goal.invariant_of-self-2
invariant_of-self-2 c =
    let t : Table = record { blocks = c.self.inside.blocks.items; uses = c.self.inside.uses.items } in
    let u = c.if-is_spare.becomes in
    let small : length t.uses < 4294967295 = rw (← c.self.view_is) at c.requires.few in
    let beside : (b : ℕ) → u ≡ use_as.InPlan b → ⊥ = λ b e. elim c.if-is_spare.branch [
      | then-is_spare w ↦ plan-spare b (sym e ∙ w.becomes-is)
      | else-is_spare w ↦ bad-plan b (sym w.becomes-is ∙ e)
    ] in
    let e : c.push.new.self.items ≡ t.uses ++ u ∷ [] = c.in_ok-push.ensures.items in
    subst (λ (l : List BlockUse). IsTable (record { blocks = t.blocks; uses = l })) (sym e) (other_sound t c.self.invariant u beside small)
