use Rattle.std.proofs.Common.{◌∙◌, refl, sym, subst}
use Rattle.std.proofs.lemmas.Bool.{true≢false}
use Rattle.part_mount.specs.Going.{GoesBySeen}
use Rattle.part_mount.specs.OnPart.{OnPart}
use Rattle.part_mount.proofs.Carried.{IsCarried, may_carry, still_goes, still_on}
use Rattle.part_mount.proofs.part_mount.PartMount.step.Goals as goal

pub carry_out-requires-clause-can : goal.carry_out-requires-clause-can
carry_out-requires-clause-can g c =
    let m = c.self.inside in
    let v : OnPart g.row.N.Denot = record { part = m.part; mount = m.mount; erased = m.erased; held = m.held; failed = m.failed } in
    may_carry g.N.Nand.shape_of g.N.Nand.blocks g.N.LabelledNand.labels g.N.Nand.failures v c.in-Some.call (c.self.invariant.on c.if-self.false)
    c.next.ensures.stands (sym c.next.ensures.call ∙ c.in-Some.is)

pub invariant_of-self : goal.invariant_of-self
invariant_of-self g c =
    let m = c.self.inside in
    let v : OnPart g.row.N.Denot = record { part = m.part; mount = m.mount; erased = m.erased; held = m.held; failed = m.failed } in
    let after : OnPart g.row.N.Denot =
    record { part = c.carry_out.new.part; mount = c.done.new.self; erased = m.erased; held = c.carry_out.new.held; failed = m.failed } in
    let carried : IsCarried g.N.Nand.shape_of g.N.Nand.blocks g.N.LabelledNand.labels g.N.Nand.failures v after c.in-Some.call = record {
      is = sym c.next.ensures.call ∙ c.in-Some.is;
      step = c.done.ensures.step;
      stage = c.done.ensures.stage;
      erased = refl;
      held = c.in-Ok.ensures.held;
      blocks_are = c.in-Ok.ensures.blocks;
      labels_are = c.in-Ok.ensures.labels;
      failures_are = c.in-Ok.ensures.fails.well;
      shape = c.in-Ok.ensures.shape;
    } in
    record {
      on = λ _. still_on g.N.Nand.shape_of g.N.Nand.blocks g.N.LabelledNand.labels g.N.Nand.failures v after c.in-Some.call
          (c.self.invariant.on c.if-self.false) c.next.ensures.stands carried;
      faulted = λ failed. absurd (true≢false (sym failed ∙ c.if-self.false));
      never = c.self.invariant.never;
    }

pub returns-in-Ok-clause-goes_on : goal.returns-in-Ok-clause-goes_on
returns-in-Ok-clause-goes_on g c = λ _ pages seen goes.
    let m = c.self.inside in
    let v : OnPart g.row.N.Denot = record { part = m.part; mount = m.mount; erased = m.erased; held = m.held; failed = m.failed } in
    let after : OnPart g.row.N.Denot =
    record { part = c.carry_out.new.part; mount = c.done.new.self; erased = m.erased; held = c.carry_out.new.held; failed = m.failed } in
    let carried : IsCarried g.N.Nand.shape_of g.N.Nand.blocks g.N.LabelledNand.labels g.N.Nand.failures v after c.in-Some.call = record {
      is = sym c.next.ensures.call ∙ c.in-Some.is;
      step = c.done.ensures.step;
      stage = c.done.ensures.stage;
      erased = refl;
      held = c.in-Ok.ensures.held;
      blocks_are = c.in-Ok.ensures.blocks;
      labels_are = c.in-Ok.ensures.labels;
      failures_are = c.in-Ok.ensures.fails.well;
      shape = c.in-Ok.ensures.shape;
    } in
    still_goes g.N.Nand.shape_of g.N.Nand.blocks g.N.LabelledNand.labels g.N.Nand.failures v after c.in-Some.call
    (c.self.invariant.on c.if-self.false) c.next.ensures.stands carried pages seen
    (subst (GoesBySeen g.N.LabelledNand.labels pages seen) (sym c.self.view_is) goes)
