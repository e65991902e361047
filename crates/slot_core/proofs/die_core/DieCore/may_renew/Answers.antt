use Rattle.std.proofs.Common.{◌≡◌, ◌∙◌, ap, false, subst, sym}
use Rattle.die_log.specs.Model.Start.{over}
use Rattle.die_log.specs.Model.Opening.{CanBeErased, renewed_start}
use Rattle.slot_core.specs.Core.{Core}
use Rattle.slot_core.specs.Device.{flash_of}
use Rattle.slot_core.specs.Renewals.{IsFirstWorn}
use Rattle.slot_core.specs.TableLog.{log_of}
use Rattle.slot_core.proofs.Renewing.{unworn_reported, worn_reported}
use Rattle.slot_core.proofs.die_core.DieCore.may_renew.Goals as goal

pub returns-in-Some-first_worn-clause-refused : goal.returns-in-Some-first_worn-clause-refused
returns-in-Some-first_worn-clause-refused g c =
    let f = c.self.inside in
    let runs : c.args.self.now.stopped ≡ false = sym c.is_stopped.ensures ∙ c.if-is_stopped.false in
    let alive : f.volume.failed ≡ false = ap (λ (d : Core g.row.N.Denot). d.stopped) c.self.view_is
    ∙ (ap (λ (d : Core g.row.N.Denot). d.stopped) c.next_job.ensures.same ∙ runs) in (
      runs,
      c.in_default.ensures.quiet,
      subst (λ (d : Core g.row.N.Denot). IsFirstWorn d.start d.log c.in-Some-first_worn.block)
          (c.self.view_is ∙ c.next_job.ensures.same)
          (worn_reported (over f.volume.accounts.plan f.start) (log_of f.table f.events.notes) (flash_of g.N.Nand.blocks f.volume)
          c.in-Some-first_worn.block (c.self.invariant.0.kept.flash alive) (sym c.first_worn.ensures ∙ c.in-Some-first_worn.is)),
    )

pub returns-clause-may : goal.returns-clause-may
returns-clause-may g c =
    let f = c.self.inside in
    let runs : c.args.self.now.stopped ≡ false = sym c.is_stopped.ensures ∙ c.if-is_stopped.false in
    let alive : f.volume.failed ≡ false = ap (λ (d : Core g.row.N.Denot). d.stopped) c.self.view_is
    ∙ (ap (λ (d : Core g.row.N.Denot). d.stopped) c.next_job.ensures.same ∙ runs) in
    record {
      runs = runs;
      quiet = c.in_default.ensures.quiet;
      unworn = subst (λ (d : Core g.row.N.Denot). CanBeErased (renewed_start d.start d.log)) (c.self.view_is ∙ c.next_job.ensures.same)
          (unworn_reported (over f.volume.accounts.plan f.start) (log_of f.table f.events.notes) (flash_of g.N.Nand.blocks f.volume)
          (c.self.invariant.0.kept.flash alive) (sym c.first_worn.ensures ∙ c.in_default-first_worn.is));
    }
