use Rattle.std.proofs.Common.{◌≡◌, false, [], Some, ap, sym, ◌∙◌, subst, slice_get}
use Rattle.job_table.specs.Order.{IsHead, NothingReady}
use Rattle.job_table.specs.Table.{Table}
use Rattle.slot_core.specs.HeadSteps.{is_fresh}
use Rattle.slot_core.proofs.Foreseeing.{foresees_start, foresees_idle, foresees_fits, foresees_turn, foresees_there}
use Rattle.slot_core.proofs.next_calls.look_at_head.Goals as goal

pub returns-in_default-clause-next : goal.returns-in_default-clause-next
returns-in_default-clause-next g c =
    let t : Table = record c.args.table.now { clock = c.args.present } in
    let f = foresees_start g.from.0 g.N.Nand.blocks g.from.1 c.args.present c.args.table.now c.args.volume.now c.requires.1.1.1.1
    c.requires.1.0 c.requires.1.1.0 in
    foresees_idle g.from.0 g.N.Nand.blocks g.from.1 c.args.present [] t c.args.volume.now c.args.volume.now.accounts.spare f
    (subst NothingReady c.head.ensures.clock c.in_default.ensures.idle)

pub unreachable-requires : goal.unreachable-requires
unreachable-requires g c =
    let t : Table = record c.args.table.now { clock = c.args.present } in
    let head : IsHead t c.in-Some.number = subst (λ (x : Table). IsHead x c.in-Some.number) c.head.ensures.clock c.in-Some.ensures.head in
    foresees_there t [] c.in-Some.number head
    (ap (λ (x : Table). slice_get x.jobs c.in-Some.number) (sym c.head.ensures.clock) ∙ c.in-None.ensures)

pub next_head_slot-requires-clause-fits : goal.next_head_slot-requires-clause-fits
next_head_slot-requires-clause-fits g c =
    let t : Table = record c.args.table.now { clock = c.args.present } in
    let f = foresees_start g.from.0 g.N.Nand.blocks g.from.1 c.args.present c.args.table.now c.args.volume.now c.requires.1.1.1.1
    c.requires.1.0 c.requires.1.1.0 in
    let head : IsHead t c.in-Some.number = subst (λ (x : Table). IsHead x c.in-Some.number) c.head.ensures.clock c.in-Some.ensures.head in
    let at : slice_get t.jobs c.in-Some.number ≡ Some c.in-Some-job.job = ap (λ (x : Table). slice_get x.jobs c.in-Some.number)
    (sym c.head.ensures.clock) ∙ c.in-Some-job.ensures in
    let unfresh : is_fresh c.in-Some-job.job ≡ false = sym c.is_fresh.ensures ∙ c.if-is_fresh.false in
    foresees_fits g.from.0 g.N.Nand.blocks g.from.1 c.args.present [] t c.in-Some.number c.args.volume.now c.args.volume.now.accounts.spare
    c.in-Some-job.job f head at unfresh

pub returns-clause-next : goal.returns-clause-next
returns-clause-next g c =
    let t : Table = record c.args.table.now { clock = c.args.present } in
    let f = foresees_start g.from.0 g.N.Nand.blocks g.from.1 c.args.present c.args.table.now c.args.volume.now c.requires.1.1.1.1
    c.requires.1.0 c.requires.1.1.0 in
    let head : IsHead t c.in-Some.number = subst (λ (x : Table). IsHead x c.in-Some.number) c.head.ensures.clock c.in-Some.ensures.head in
    let at : slice_get t.jobs c.in-Some.number ≡ Some c.in-Some-job.job = ap (λ (x : Table). slice_get x.jobs c.in-Some.number)
    (sym c.head.ensures.clock) ∙ c.in-Some-job.ensures in
    let unfresh : is_fresh c.in-Some-job.job ≡ false = sym c.is_fresh.ensures ∙ c.if-is_fresh.false in
    foresees_turn g.from.0 g.N.Nand.blocks g.from.1 c.args.present [] t c.in-Some.number c.args.volume.now c.args.volume.now.accounts.spare
    c.in-Some-job.job c.next_head_slot.result f head at unfresh c.next_head_slot.ensures
