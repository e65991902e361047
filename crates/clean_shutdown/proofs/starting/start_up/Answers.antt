use Rattle.std.proofs.Common.{Option, ap, sym, subst, ◌∙◌}
use Rattle.std.specs.Prelude.{IfSome}
use Rattle.std.proofs.lemmas.Result.{IfOk-weaker, IfErr-weaker}
use Rattle.power_loss.specs.Labels.{Labels}
use Rattle.saving_nand.specs.Saving.{IsLeftFor, numbered}
use Rattle.saving_nand.specs.declared.saved.Saved.{Saved}
use Rattle.clean_shutdown.proofs.Starts.{begins_again, goes_again, refuses_again}
use Rattle.clean_shutdown.proofs.starting.start_up.Goals as goal

pub returns-in-Ok-Some-clause-goes_on : goal.returns-in-Ok-Some-clause-goes_on
returns-in-Ok-Some-clause-goes_on g c =
    let part = c.args.part in
    let then = c.take_saved.new.self in
    let taken = c.in-Ok-Some.ensures in
    let is = c.in-Ok-Some.field-0-is in
    IfOk-weaker c.started.result _ _ (λ core goes s has from. goes_again g.N.SavingNand.saved g.N.LabelledNand.labels g.N.Nand.blocks c.args.plan core
    (g.N.Nand.shape_of part) (g.N.Nand.shape_of then) (g.N.Nand.blocks part) (g.N.Nand.blocks then) (g.N.LabelledNand.labels part)
    (g.N.LabelledNand.labels then) (g.N.SavingNand.saved part) c.in-Ok-Some.saved s c.take_saved.ensures.shape taken.blocks
    (taken.labels ∙ ap (λ (o : Option Saved). numbered o (g.N.LabelledNand.labels part)) is) (sym is ∙ taken.taken) has goes from)
    c.started.ensures.goes_on

pub returns-in-Ok-Some-clause-mounted : goal.returns-in-Ok-Some-clause-mounted
returns-in-Ok-Some-clause-mounted g c =
    let part = c.args.part in
    let then = c.take_saved.new.self in
    let taken = c.in-Ok-Some.ensures in
    let is = c.in-Ok-Some.field-0-is in
    IfOk-weaker c.started.result _ _ (λ core begins other. begins_again g.N.SavingNand.saved g.N.LabelledNand.labels g.N.Nand.blocks c.args.plan core
    (g.N.Nand.shape_of part) (g.N.Nand.shape_of then) (g.N.LabelledNand.labels part).blocks (g.N.LabelledNand.labels then).blocks
    (g.N.SavingNand.saved part) c.in-Ok-Some.saved c.take_saved.ensures.shape
    (ap (λ (l : Labels). l.blocks) (taken.labels ∙ ap (λ (o : Option Saved). numbered o (g.N.LabelledNand.labels part)) is)) (sym is ∙ taken.taken)
    begins other) c.started.ensures.mounted

pub returns-in-Ok-Some-clause-refused : goal.returns-in-Ok-Some-clause-refused
returns-in-Ok-Some-clause-refused g c =
    let part = c.args.part in
    let then = c.take_saved.new.self in
    let taken = c.in-Ok-Some.ensures in
    let is = c.in-Ok-Some.field-0-is in
    let left = subst (λ (o : Option Saved). IfSome o (IsLeftFor (g.N.Nand.shape_of part) (g.N.Nand.blocks part) (g.N.LabelledNand.labels part) (g.N.Nand.failures part)))
    is taken.left in
    IfErr-weaker c.started.result _ _ (λ no h. refuses_again c.args.plan (g.N.Nand.shape_of part) (g.N.Nand.shape_of then) (g.N.SavingNand.saved part)
    c.in-Ok-Some.saved (g.N.LabelledNand.labels part).blocks (g.N.LabelledNand.labels then).blocks (g.N.Nand.failures part) (g.N.Nand.failures no.part) no.refusal
    c.take_saved.ensures.shape (sym is ∙ taken.taken)
    (ap (λ (l : Labels). l.blocks) (taken.labels ∙ ap (λ (o : Option Saved). numbered o (g.N.LabelledNand.labels part)) is)) left.left.well h) c.started.ensures.refused
