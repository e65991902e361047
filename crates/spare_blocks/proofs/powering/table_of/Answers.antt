use Rattle.std.proofs.Common.{rules, ◌≡◌, ◌∙◌, List, ap, subst, length, arith}
use Rattle.std.specs.Prelude.{Option}
use Rattle.slot_types.specs.declared.plans.Shape.{Shape}
use Rattle.slot_types.specs.Shapes.{IsShape}
use Rattle.spare_blocks.specs.declared.powering.Labelled.{Labelled}
use Rattle.spare_blocks.specs.Parts.{PartBlock}
use Rattle.spare_blocks.specs.Powering.{AreNumbered}
use Rattle.spare_blocks.proofs.Tabled.{powered_table}
use Rattle.spare_blocks.proofs.powering.table_of.Goals as goal

pub returns-clause-made : goal.returns-clause-made
returns-clause-made g c =
    let limits : IsShape c.args.shape = search rules in
    let all = c.in_ok-all.all.items in
    let bad = c.args.bad.now in
    let t = c.in_ok-table.table in
    let after = g.D.WearingNand.blocks c.number_blocks.new.part in
    let count : length t.blocks ≡ c.args.shape.blocks = omega (arith, c.if-count-shape.false, c.count.ensures.count) in
    let numbered : AreNumbered bad all t (g.D.WearingNand.blocks c.args.part.now) after =
    subst (λ (l : List (Option Labelled)). AreNumbered bad l t (g.D.WearingNand.blocks c.args.part.now) after) c.as_slice-2.ensures.value
    (subst (λ (l : List PartBlock). AreNumbered bad c.as_slice-2.result.now t l after) c.in_ok-all.ensures.blocks c.in_ok-table.ensures.numbered) in
    powered_table (g.D.WearingNand.shape_of c.args.part.now) c.args.shape bad all t (g.D.WearingNand.blocks c.args.part.now) after c.requires.powered
    c.in_ok-all.ensures.seen c.count.ensures.sound numbered
    (c.in_ok-table.ensures.all ∙ ap (λ (s : Shape). s.blocks) c.see_blocks.ensures.shape) limits count
