use Rattle.std.proofs.Common.{◌+◌, arith, drop}
use Rattle.task_script.proofs.RowsRun.{all_read, none_read_yet, one_read, row_at_fault}
use Rattle.task_script.proofs.row_dies.RowDie.read.Goals as goal

pub loop-place-init : goal.loop-place-init
loop-place-init c = none_read_yet c.args.texts.now c.requires.none.0 c.args.self.now c.requires.none.1

pub loop-place-preserved : goal.loop-place-preserved
loop-place-preserved c =
    one_read c.args.texts.now (drop c.loop-place.place c.args.texts.now) (drop (c.loop-place.place + 1) c.args.texts.now)
    c.row-head.result.0 c.row-head.result.1.now c.args.self.now c.loop-place.self _ c.row-head.ensures c.loop-place.invariant c.in-Ok.ensures

pub returns-in-Err : goal.returns-in-Err
returns-in-Err c =
    row_at_fault c.args.texts.now (drop c.loop-place.place c.args.texts.now) (drop (c.loop-place.place + 1) c.args.texts.now)
    c.row-head.result.0 c.row-head.result.1.now c.args.self.now c.loop-place.self c.add.new.self c.in-Err.refusal c.row-head.ensures c.loop-place.invariant c.in-Err.ensures

pub returns : goal.returns
returns c = all_read c.args.texts.now c.loop-place.place c.args.self.now c.loop-place.self
    (omega (arith, c.len-place-end.ensures)) c.loop-place.invariant
