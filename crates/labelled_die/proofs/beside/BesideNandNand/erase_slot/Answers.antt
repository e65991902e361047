use Rattle.std.proofs.Common.{◌≡◌, ◌∙◌, ℕ, rules, ap, subst, List}
use Rattle.std.specs.Prelude.{is_ok}
use Rattle.flash_die.specs.Flash.{Block, free_block, blocks_after_erase_slot}
use Rattle.flash_die.specs.declared.nand.NandCall.TheVariants as calls
use Rattle.power_loss.specs.Aside.{on_part, without_aside}
use Rattle.labelled_die.specs.Beside.{Beside}
use Rattle.labelled_die.proofs.Besides.{below, erases_here}
use Rattle.labelled_die.proofs.Passing.{on_ok, passes, ready}
use Rattle.labelled_die.proofs.beside.BesideNandNand.erase_slot.Goals as goal

pub returns-clause-blocks : goal.returns-clause-blocks
returns-clause-blocks g c =
    let m = c.self.inside in
    let b = c.args.block in
    let d : Beside g.row.N.Denot = record { part = m.part; shape = m.shape; aside = m.aside; failed = m.failed; refused = m.refused } in
    let k = ready g.N.Nand.ends g.N.Nand.never_fails g.N.Nand.shape_of g.N.Nand.blocks g.N.LabelledNand.labels g.N.Nand.failures g.met.N.LabelledNand.follows d
    c.self.invariant c.if-self.false in
    let at : c.on_part-block.result ≡ on_part m.shape.blocks m.aside b = first_of (search rules, cc) in
    let h = rw (← c.self.view_is) at c.requires.erasable in
    let lt = below m.shape.blocks m.aside k.le (g.N.Nand.blocks m.part) b k.long h.in_range in
    rw (← c.self.view_is) (on_ok c.erase_slot-result.result
    (λ (e : g.N.Nand.blocks c.erase_slot-result.new.self
    ≡ blocks_after_erase_slot (g.N.Nand.blocks m.part) (g.N.Nand.shape_of m.part).erase_slots c.on_part-block.result).
    ap (λ (all : List Block). without_aside m.shape.blocks m.aside free_block all) (e
    ∙ (ap (λ (x : ℕ). blocks_after_erase_slot (g.N.Nand.blocks m.part) (g.N.Nand.shape_of m.part).erase_slots x) at
    ∙ ap (λ (n : ℕ). blocks_after_erase_slot (g.N.Nand.blocks m.part) n (on_part m.shape.blocks m.aside b)) k.slots))
    ∙ erases_here m.shape.blocks m.aside k.le (g.N.Nand.blocks m.part) m.shape.erase_slots b k.long lt) c.erase_slot-result.ensures.blocks)

pub returns-clause-ends : goal.returns-clause-ends
returns-clause-ends g c =
    let m = c.self.inside in
    let b = c.args.block in
    let r = c.erase_slot-result in
    let d : Beside g.row.N.Denot = record { part = m.part; shape = m.shape; aside = m.aside; failed = m.failed; refused = m.refused } in
    let k = ready g.N.Nand.ends g.N.Nand.never_fails g.N.Nand.shape_of g.N.Nand.blocks g.N.LabelledNand.labels g.N.Nand.failures g.met.N.LabelledNand.follows d
    c.self.invariant c.if-self.false in
    let at : c.on_part-block.result ≡ on_part m.shape.blocks m.aside b = first_of (search rules, cc) in
    let h = rw (← c.self.view_is) at c.requires.erasable in
    let lt = below m.shape.blocks m.aside k.le (g.N.Nand.blocks m.part) b k.long h.in_range in
    rw (← c.self.view_is) (passes g.N.Nand.ends g.N.Nand.never_fails g.N.Nand.shape_of g.N.Nand.blocks g.N.LabelledNand.labels g.N.Nand.failures
    g.met.N.LabelledNand.follows d (calls.EraseSlot b) r.result c.is_err-self-inside.result r.new.self c.self.invariant c.if-self.false lt
    (subst (λ (x : ℕ). g.N.Nand.ends m.part (calls.EraseSlot x) (is_ok r.result) r.new.self) at r.ensures.ends))
