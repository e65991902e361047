use Rattle.std.proofs.Common.{◌-◌, ◌∙◌, sym, ap, arith, Some}
use Rattle.late_cert.specs.declared.carried.Run.{Run}
use Rattle.late_cert.proofs.Runs.{get-here, get-more}
use Rattle.late_cert.proofs.carried.slot_in.Goals as goal

pub returns-then-left-length : goal.returns-then-left-length
returns-then-left-length c =
    let l = ap (λ (run : Run). run.length) c.run-item.is in
    sym (c.loop-run.invariant ∙ get-here c.args.runs.now c.loop-run.run-index c.run-item.result c.loop-run.left (omega arith)
    (omega (arith, l))
    ∙ ap (λ (run : Run). Some run.number) (sym c.run-item.is))

pub loop-run-preserved : goal.loop-run-preserved
loop-run-preserved c =
    let l = ap (λ (run : Run). run.length) c.run-item.is in
    c.loop-run.invariant
    ∙ get-more c.args.runs.now c.loop-run.run-index c.run-item.result c.loop-run.left (c.loop-run.left - c.run-item.result.length)
    (omega arith) (omega (arith, l))
