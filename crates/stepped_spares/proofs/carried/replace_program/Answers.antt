use Rattle.std.proofs.Common.{◌≡◌, ◌∙◌, ℕ, ◌<◌, ap, sym, subst, Some}
use Rattle.slot_types.specs.declared.plans.Shape.{Shape}
use Rattle.spare_blocks.specs.Parts.{programmed_cell}
use Rattle.spare_blocks.specs.Tables.{Table, IsSpare, on_part}
use Rattle.spare_blocks.specs.Trying.{IsSource}
use Rattle.spare_blocks.proofs.Numbers.{not_spare}
use Rattle.stepped_spares.specs.Carrying.{IsCarried}
use Rattle.stepped_spares.specs.Stepping.{IsSoundAt, move_at}
use Rattle.stepped_spares.proofs.Filling.{may_carry, carried_on, serial_on, serial_kept, cost_on, is_well}
use Rattle.stepped_spares.proofs.carried.replace_program.Goals as goal

pub carry-outcome-requires-clause-may : goal.carry-outcome-requires-clause-may
carry-outcome-requires-clause-may g c =
    let i = c.loop-call.invariant in
    let first = c.program_failed.new.self.table in
    let b = c.args.place.block in
    let same = c.program_failed.ensures.table in
    let on : IsSource (g.D.WearingNand.blocks c.args.part.now) (on_part first b) c.args.place.page =
    subst (λ (t : Table). IsSource (g.D.WearingNand.blocks c.args.part.now) (on_part t b) c.args.place.page) (sym same) c.requires.source in
    let apart = subst (λ (t : Table). IsSpare t (on_part t b) → ⊥) (sym same) (not_spare c.args.spares.now.table c.program_failed.ensures.sound b c.requires.number) in
    let pages : c.loop-call.spares.pages ≡ (g.D.WearingNand.shape_of c.loop-call.part).pages =
    i.pages ∙ (c.program_failed.ensures.pages ∙ (c.requires.pages ∙ sym (ap (λ (x : Shape). x.pages) i.shape))) in
    may_carry first (g.D.WearingNand.blocks c.args.part.now) b c.args.place.page (g.D.WearingNand.shape_of c.loop-call.part).pages on apart
    (subst (λ (x : Shape). c.args.place.page < x.pages) (sym i.shape) c.requires.room)
    c.loop-call.spares.table (g.D.WearingNand.blocks c.loop-call.part) _ _ c.loop-call.spares.stage c.in-Some.call
    (subst (λ (n : ℕ). IsSoundAt c.loop-call.spares.table n c.loop-call.spares.stage) pages c.next.ensures.sound)
    (sym c.next.ensures.call ∙ c.in-Some.is) i.filling

pub loop-call-preserved : goal.loop-call-preserved
loop-call-preserved g c =
    let i = c.loop-call.invariant in
    let first = c.program_failed.new.self.table in
    let b = c.args.place.block in
    let n = c.args.place.page in
    let same = c.program_failed.ensures.table in
    let bf = g.D.WearingNand.blocks c.args.part.now in
    let t = c.loop-call.spares.table in
    let s = c.loop-call.spares.stage in
    let call = c.in-Some.call in
    let u = c.done.new.self.table in
    let v = c.done.new.self.stage in
    let pages = c.loop-call.spares.pages in
    let keeps = g.D.WearingNand.keeps_labels in
    let serial = g.D.WearingNand.next c.args.part.now in
    let last = programmed_cell keeps serial c.args.page c.args.bytes in
    let on : IsSource bf (on_part first b) n = subst (λ (x : Table). IsSource bf (on_part x b) n) (sym same) c.requires.source in
    let apart = subst (λ (x : Table). IsSpare x (on_part x b) → ⊥) (sym same) (not_spare c.args.spares.now.table c.program_failed.ensures.sound b c.requires.number) in
    let room : n < pages = subst (λ (x : ℕ). n < x) (sym (i.pages ∙ (c.program_failed.ensures.pages ∙ c.requires.pages))) c.requires.room in
    let e : move_at t s ≡ Some call = sym c.next.ensures.call ∙ c.in-Some.is in
    let well = is_well first bf b n t (g.D.WearingNand.blocks c.loop-call.part) last (g.D.WearingNand.faulted c.loop-call.part) s call e i.filling in
    let here : g.D.WearingNand.next c.loop-call.part ≡ serial = i.next well ∙ serial_kept t s call c.args.page serial e in
    let carried : IsCarried c.carry-outcome.result call last c.args.page (g.D.WearingNand.blocks c.loop-call.part) (g.D.WearingNand.blocks c.carry-outcome.new.part) serial
    (g.D.WearingNand.next c.carry-outcome.new.part) (g.D.WearingNand.faulted c.carry-outcome.new.part) =
    subst (λ (x : ℕ). IsCarried c.carry-outcome.result call (programmed_cell keeps x c.args.page c.args.bytes) c.args.page (g.D.WearingNand.blocks c.loop-call.part)
    (g.D.WearingNand.blocks c.carry-outcome.new.part) x (g.D.WearingNand.next c.carry-outcome.new.part) (g.D.WearingNand.faulted c.carry-outcome.new.part)) here
    c.carry-outcome.ensures.carried in
    record {
      filling = carried_on first bf b n pages on apart room t u (g.D.WearingNand.blocks c.loop-call.part) (g.D.WearingNand.blocks c.carry-outcome.new.part) last c.args.page
          serial (g.D.WearingNand.next c.carry-outcome.new.part) (g.D.WearingNand.faulted c.loop-call.part) (g.D.WearingNand.faulted c.carry-outcome.new.part) s v
          c.carry-outcome.result call pages c.done.new.self.pages c.next.ensures.sound e i.filling carried c.done.ensures.moved.moved;
      next = serial_on first bf b n t u (g.D.WearingNand.blocks c.loop-call.part) (g.D.WearingNand.blocks c.carry-outcome.new.part) last c.args.page serial
          (g.D.WearingNand.next c.carry-outcome.new.part) pages (g.D.WearingNand.faulted c.loop-call.part) (g.D.WearingNand.faulted c.carry-outcome.new.part) s v
          c.carry-outcome.result call pages c.done.new.self.pages c.next.ensures.sound e i.filling carried c.done.ensures.moved.moved;
      cost = cost_on first bf b n t u (g.D.WearingNand.blocks c.loop-call.part) last pages _ (g.D.WearingNand.spent c.loop-call.part)
          (g.D.WearingNand.spent c.carry-outcome.new.part) (g.D.WearingNand.faulted c.loop-call.part) s v c.carry-outcome.result call pages c.done.new.self.pages
          c.next.ensures.table c.next.ensures.sound e i.filling c.carry-outcome.ensures.spent i.cost c.done.ensures.moved.moved;
      shape = c.carry-outcome.ensures.shape ∙ i.shape;
      pages = c.done.ensures.moved.pages ∙ i.pages;
    }
