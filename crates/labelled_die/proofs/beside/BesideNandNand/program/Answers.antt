use Rattle.std.proofs.Common.{◌≡◌, ◌∙◌, rules, ap, subst, List, None}
use Rattle.std.specs.Prelude.{is_ok}
use Rattle.slot_types.specs.declared.pages.Place.{Place}
use Rattle.flash_die.specs.Flash.{Block, free_block, blocks_after_program}
use Rattle.flash_die.specs.declared.nand.NandCall.TheVariants as calls
use Rattle.power_loss.specs.Aside.{on_part, renumbered, without_aside}
use Rattle.labelled_die.specs.Beside.{Beside}
use Rattle.labelled_die.proofs.Besides.{below, programs_here}
use Rattle.labelled_die.proofs.Passing.{on_ok, passes, ready}
use Rattle.labelled_die.proofs.beside.BesideNandNand.program.Goals as goal

pub returns-clause-blocks : goal.returns-clause-blocks
returns-clause-blocks g c =
    let m = c.self.inside in
    let b = c.args.place.block in
    let d : Beside g.row.N.Denot = record { part = m.part; shape = m.shape; aside = m.aside; failed = m.failed; refused = m.refused } in
    let k = ready g.N.Nand.ends g.N.Nand.never_fails g.N.Nand.shape_of g.N.Nand.blocks g.N.LabelledNand.labels g.N.Nand.failures g.met.N.LabelledNand.follows d
    c.self.invariant c.if-self.false in
    let at : c.cell_on_part-place.result ≡ renumbered (on_part m.shape.blocks m.aside) c.args.place = first_of (search rules, cc) in
    let h = rw (← c.self.view_is) at c.requires.next in
    let lt = below m.shape.blocks m.aside k.le (g.N.Nand.blocks m.part) b k.long h.in_range in
    rw (← c.self.view_is) (on_ok c.program-result.result
    (λ (e : g.N.Nand.blocks c.program-result.new.self ≡ blocks_after_program (g.N.Nand.blocks m.part) c.cell_on_part-place.result.block c.args.bytes).
    ap (λ (all : List Block). without_aside m.shape.blocks m.aside free_block all) (e
    ∙ ap (λ (q : Place). blocks_after_program (g.N.Nand.blocks m.part) q.block c.args.bytes) at)
    ∙ programs_here m.shape.blocks m.aside k.le (g.N.Nand.blocks m.part) b c.args.bytes k.long lt) c.program-result.ensures.blocks)

pub returns-clause-ends : goal.returns-clause-ends
returns-clause-ends g c =
    let m = c.self.inside in
    let b = c.args.place.block in
    let r = c.program-result in
    let d : Beside g.row.N.Denot = record { part = m.part; shape = m.shape; aside = m.aside; failed = m.failed; refused = m.refused } in
    let k = ready g.N.Nand.ends g.N.Nand.never_fails g.N.Nand.shape_of g.N.Nand.blocks g.N.LabelledNand.labels g.N.Nand.failures g.met.N.LabelledNand.follows d
    c.self.invariant c.if-self.false in
    let at : c.cell_on_part-place.result ≡ renumbered (on_part m.shape.blocks m.aside) c.args.place = first_of (search rules, cc) in
    let h = rw (← c.self.view_is) at c.requires.next in
    let lt = below m.shape.blocks m.aside k.le (g.N.Nand.blocks m.part) b k.long h.in_range in
    rw (← c.self.view_is) (passes g.N.Nand.ends g.N.Nand.never_fails g.N.Nand.shape_of g.N.Nand.blocks g.N.LabelledNand.labels g.N.Nand.failures
    g.met.N.LabelledNand.follows d (calls.Program c.args.place None c.args.bytes) r.result c.is_err-self-inside.result r.new.self
    c.self.invariant c.if-self.false lt
    (subst (λ (q : Place). g.N.Nand.ends m.part (calls.Program q None c.args.bytes) (is_ok r.result) r.new.self) at r.ensures.ends))
