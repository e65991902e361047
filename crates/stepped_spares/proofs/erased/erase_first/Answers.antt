use Rattle.std.proofs.Common.{refl, ◌∙◌, sym, subst, Bool}
use Rattle.stepped_spares.proofs.ErasedBlocks.{IsErasingOn, erased_on, erasing_begins, has_erased, is_well, may_erase}
use Rattle.stepped_spares.proofs.erased.erase_first.Goals as goal

pub loop-call-init : goal.loop-call-init
loop-call-init g c = record {
  erasing = λ all begins. subst (λ (f : Bool). IsErasingOn all c.args.spares.now.table c.args.spares.now.table (g.D.WearingNand.blocks c.args.part.now)
      (g.D.WearingNand.blocks c.args.part.now) f c.args.spares.now.stage) (sym c.requires.well)
      (erasing_begins all c.args.spares.now.table (g.D.WearingNand.blocks c.args.part.now) c.args.spares.now.stage begins.next begins.whole);
  shape = refl;
  pages = refl;
}

pub returns-clause-erased : goal.returns-clause-erased
returns-clause-erased g c = λ all begins.
    has_erased all c.args.spares.now.table (g.D.WearingNand.blocks c.args.part.now) c.loop-call.spares.table (g.D.WearingNand.blocks c.loop-call.part)
    (g.D.WearingNand.faulted c.loop-call.part) c.loop-call.spares.stage (sym c.next.ensures.call ∙ c.in_default.is) (c.loop-call.invariant.erasing all begins)

pub carry-outcome-requires-clause-well : goal.carry-outcome-requires-clause-well
carry-outcome-requires-clause-well g c =
    let a = c.requires.begun in
    is_well a.0 c.args.spares.now.table (g.D.WearingNand.blocks c.args.part.now) c.loop-call.spares.table (g.D.WearingNand.blocks c.loop-call.part) _
    c.loop-call.spares.stage c.in-Some.call (sym c.next.ensures.call ∙ c.in-Some.is) (c.loop-call.invariant.erasing a.0 a.1)

pub carry-outcome-requires-clause-may : goal.carry-outcome-requires-clause-may
carry-outcome-requires-clause-may g c =
    let a = c.requires.begun in
    may_erase a.0 c.args.spares.now.table (g.D.WearingNand.blocks c.args.part.now) c.loop-call.spares.table (g.D.WearingNand.blocks c.loop-call.part) _ _
    c.loop-call.spares.stage c.in-Some.call (sym c.next.ensures.call ∙ c.in-Some.is) (c.loop-call.invariant.erasing a.0 a.1)

pub loop-call-preserved : goal.loop-call-preserved
loop-call-preserved g c =
    let i = c.loop-call.invariant in
    record {
      erasing = λ all begins. erased_on all c.args.spares.now.table (g.D.WearingNand.blocks c.args.part.now) c.loop-call.spares.table c.done.new.self.table
          (g.D.WearingNand.blocks c.loop-call.part) (g.D.WearingNand.blocks c.carry-outcome.new.part) _ _ _ _ c.loop-call.spares.pages c.done.new.self.pages
          (g.D.WearingNand.faulted c.loop-call.part) (g.D.WearingNand.faulted c.carry-outcome.new.part) c.loop-call.spares.stage c.done.new.self.stage
          c.carry-outcome.result c.in-Some.call c.next.ensures.table (sym c.next.ensures.call ∙ c.in-Some.is) (i.erasing all begins)
          c.carry-outcome.ensures.carried c.done.ensures.moved.moved;
      shape = c.carry-outcome.ensures.shape ∙ i.shape;
      pages = c.done.ensures.moved.pages ∙ i.pages;
    }
