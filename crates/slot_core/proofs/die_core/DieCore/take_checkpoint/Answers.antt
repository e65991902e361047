use Rattle.std.proofs.Common.{◌≡◌, ◌∙◌, ap, false, subst, sym}
use Rattle.die_checkpoint.specs.Fits.{Fits}
use Rattle.flash_volume.specs.Checkpoints.{IsAsLeft}
use Rattle.die_log.specs.Model.Start.{over}
use Rattle.die_log.specs.Model.Opening.{IsQuiet, CanBeErased, renewed_start}
use Rattle.slot_core.specs.Core.{Core}
use Rattle.slot_core.specs.Resumptions.{checkpoint_of, resumed_start}
use Rattle.slot_core.specs.TableLog.{log_of}
use Rattle.slot_core.proofs.Resuming.{taken_reported, idle_reported, goes_on_reported, fits_reported}
use Rattle.slot_core.proofs.die_core.DieCore.take_checkpoint.Goals as goal

pub returns-in-Ok-clause-ok : goal.returns-in-Ok-clause-ok
returns-in-Ok-clause-ok g c =
    let f = c.self.inside in
    let alive : f.volume.failed ≡ false = ap (λ (d : Core g.row.N.Denot). d.stopped) c.self.view_is ∙ c.requires.may.runs in
    subst (λ (d : Core g.row.N.Denot). c.in-Ok.taken ≡ checkpoint_of (renewed_start d.start d.log)) c.self.view_is
    (taken_reported g.N.Nand.blocks (over f.volume.accounts.plan f.start) (log_of f.table f.events.notes) f.present f.table f.volume c.in-Ok.taken
    c.self.invariant.0.kept alive (subst (λ (d : Core g.row.N.Denot). IsQuiet d.start d.log) (sym c.self.view_is) c.requires.may.quiet)
    c.in-Ok.ensures.ok)

pub returns-in-Ok-clause-fits : goal.returns-in-Ok-clause-fits
returns-in-Ok-clause-fits g c =
    let f = c.self.inside in
    let alive : f.volume.failed ≡ false = ap (λ (d : Core g.row.N.Denot). d.stopped) c.self.view_is ∙ c.requires.may.runs in
    subst (λ (d : Core g.row.N.Denot). Fits d.start.plan c.in-Ok.taken) c.self.view_is
    (fits_reported g.N.Nand.blocks (over f.volume.accounts.plan f.start) (log_of f.table f.events.notes) f.present f.table f.volume c.in-Ok.taken
    c.self.invariant.0.kept alive (subst (λ (d : Core g.row.N.Denot). IsQuiet d.start d.log) (sym c.self.view_is) c.requires.may.quiet)
    c.in-Ok.ensures.ok (subst (λ (d : Core g.row.N.Denot). CanBeErased (renewed_start d.start d.log)) (sym c.self.view_is) c.requires.may.unworn))

pub returns-in-Ok-clause-left : goal.returns-in-Ok-clause-left
returns-in-Ok-clause-left g c =
    let f = c.self.inside in
    let alive : f.volume.failed ≡ false = ap (λ (d : Core g.row.N.Denot). d.stopped) c.self.view_is ∙ c.requires.may.runs in
    subst (λ (d : Core g.row.N.Denot). IsAsLeft c.in-Ok.taken (g.N.Nand.blocks d.device) (g.N.Nand.failures d.device)) c.self.view_is
    (c.in-Ok.ensures.left
    (idle_reported g.N.Nand.blocks (over f.volume.accounts.plan f.start) (log_of f.table f.events.notes) f.present f.table f.volume c.in-Ok.taken
    c.self.invariant.0.kept alive (subst (λ (d : Core g.row.N.Denot). IsQuiet d.start d.log) (sym c.self.view_is) c.requires.may.quiet)
    c.in-Ok.ensures.ok))

pub returns-in-Ok-clause-goes_on : goal.returns-in-Ok-clause-goes_on
returns-in-Ok-clause-goes_on g c =
    let f = c.self.inside in
    let alive : f.volume.failed ≡ false = ap (λ (d : Core g.row.N.Denot). d.stopped) c.self.view_is ∙ c.requires.may.runs in
    subst (λ (d : Core g.row.N.Denot). resumed_start d.start.plan c.in-Ok.taken (g.N.Nand.blocks d.device) ≡ renewed_start d.start d.log) c.self.view_is
    (goes_on_reported g.N.Nand.blocks (over f.volume.accounts.plan f.start) (log_of f.table f.events.notes) f.present f.table f.volume c.in-Ok.taken
    c.self.invariant.0.kept alive (subst (λ (d : Core g.row.N.Denot). IsQuiet d.start d.log) (sym c.self.view_is) c.requires.may.quiet)
    c.in-Ok.ensures.ok c.in-Ok.ensures.pages)
