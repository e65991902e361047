use Rattle.std.proofs.Common.{arith, refl, subst, sym}
use Rattle.std.proofs.lemmas.List.{drop_all, drop_more}
use Rattle.flashplan_commands.specs.Acts.{AuditsFiles}
use Rattle.flashplan_commands.proofs.listed_acts.act_audits.Goals as goal

pub loop-name-preserved : goal.loop-name-preserved
loop-name-preserved g c = λ worst rest. c.loop-name.invariant worst (
    subst (λ names. AuditsFiles (g.D.Folder.held c.args.folder.now) names c.loop-name.status worst)
    (sym (drop_more c.args.names.now c.loop-name.name-index _ (omega (arith, c.loop-name-test.true))))
    (c.audit_file-audited.result, c.audit_file-audited.ensures, rw c.worse-status.ensures at rest))

pub returns-in-Ok-clause-worst : goal.returns-in-Ok-clause-worst
returns-in-Ok-clause-worst g c = λ differs. c.loop-name.invariant c.loop-name.status (
    subst (λ names. AuditsFiles (g.D.Folder.held c.args.folder.now) names c.loop-name.status c.loop-name.status)
    (sym (drop_all c.loop-name.name-index c.args.names.now (omega (arith, c.loop-name-test.false)))) refl)
