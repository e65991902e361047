use Rattle.std.proofs.Common.{arith, subst, sym}
use Rattle.std.proofs.lemmas.Grind.{common_steps}
use Rattle.std.proofs.lemmas.List.Elements.{filter_map-append}
use Rattle.late_cert.specs.Rows.{RowsRise}
use Rattle.report_texts.proofs.NumberLaws.{numbers-rise}
use Rattle.report_texts.proofs.reports.DieReport.job_rows.Goals as goal

pub loop-row-preserved : goal.loop-row-preserved
loop-row-preserved c = grind (arith, common_steps, filter_map-append)

pub returns-clause-rows : goal.returns-clause-rows
returns-clause-rows c = grind (arith, common_steps)

pub returns-clause-rise : goal.returns-clause-rise
returns-clause-rise c =
    λ numbered. subst RowsRise (sym (returns-clause-rows c)) (numbers-rise 0 c.args.self.now.rows numbered)
