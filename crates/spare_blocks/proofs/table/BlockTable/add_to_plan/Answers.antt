use Rattle.std.proofs.Common.{rules, ◌≡◌, ℕ, ◌<◌, List, [], ◌∷◌, ◌++◌, length, vec_len, ap, sym, ◌∙◌, subst}
use Rattle.spare_blocks.specs.declared.cells.BlockUse.{BlockUse}
use Rattle.spare_blocks.specs.declared.cells.BlockUse.TheVariants as use_as
use Rattle.spare_blocks.specs.Tables.{Table, IsTable}
use Rattle.spare_blocks.proofs.Numbers.{plan_sound}
use Rattle.spare_blocks.proofs.table.BlockTable.add_to_plan.Goals as goal

pub invariant_of-self-2 : goal.invariant_of-self-2
invariant_of-self-2 c =
    let t : Table = record { blocks = c.self.inside.blocks.items; uses = c.self.inside.uses.items } in
    let small : length t.uses < 4294967295 = rw (← c.self.view_is) at c.requires.few in
    let whole : vec_len c.self.inside.blocks ≡ length c.self.inside.blocks.items = search rules in
    let all : vec_len c.self.inside.uses ≡ length c.self.inside.uses.items = search rules in
    let number : c.len-number.result ≡ length t.blocks = c.len-number.ensures ∙ whole in
    let block : c.len-block.result ≡ length t.uses = c.len-block.ensures ∙ all in
    let uses : c.push.new.self.items ≡ t.uses ++ use_as.InPlan (length t.blocks) ∷ [] =
    c.in_ok-push.ensures.items ∙ ap (λ (n : ℕ). t.uses ++ use_as.InPlan n ∷ []) number in
    let blocks : c.push_reserved.new.self.items ≡ t.blocks ++ length t.uses ∷ [] =
    c.push_reserved.ensures.items
    ∙ (ap (λ (l : List ℕ). l ++ c.len-block.result ∷ []) c.in_ok-reserve.ensures.items
    ∙ ap (λ (n : ℕ). t.blocks ++ n ∷ []) block) in
    subst (λ (l : List BlockUse). IsTable (record { blocks = c.push_reserved.new.self.items; uses = l })) (sym uses)
    (subst (λ (l : List ℕ). IsTable (record { blocks = l; uses = t.uses ++ use_as.InPlan (length t.blocks) ∷ [] })) (sym blocks)
    (plan_sound t c.self.invariant small))
