use Rattle.std.proofs.Common.{refl, sym, subst, ◌∙◌}
use Rattle.late_cert.specs.Rows.{RowsRise}
use Rattle.slot_core.proofs.Certifying.{ok_where}
use Rattle.slot_core.proofs.Rowing.{rows_are, rising}
use Rattle.slot_core.proofs.die_core.DieCore.rows.Goals as goal

pub returns-clause-ok : goal.returns-clause-ok
returns-clause-ok g c =
    rw (← c.self.view_is) (ok_where c.rows_in.result _ _ c.rows_in.ensures.ok
    (λ made is. rows_are _ _ _ made c.self.invariant.0.kept.bound c.self.invariant.0.kept.exact c.self.invariant.0.kept.jobs_are is))

pub returns-clause-rise : goal.returns-clause-rise
returns-clause-rise g c =
    ok_where c.rows_in.result _ _ c.rows_in.ensures.ok
    (λ made is. subst RowsRise (sym (rows_are _ _ _ made c.self.invariant.0.kept.bound c.self.invariant.0.kept.exact
    c.self.invariant.0.kept.jobs_are is)) (rising _ _ c.self.invariant.0.kept.bound c.self.invariant.0.kept.exact))

pub returns-clause-nothing : goal.returns-clause-nothing
returns-clause-nothing g c =
    rw (← c.self.view_is) (λ is. c.rows_in.ensures.nothing (rows_are _ _ _ _ c.self.invariant.0.kept.bound c.self.invariant.0.kept.exact
    c.self.invariant.0.kept.jobs_are refl ∙ is))
