use Rattle.std.proofs.Common.{◌*◌, ◌≤◌, arith}
use Rattle.std.proofs.Math.Nat.{div-le_self}
use Rattle.plan_rules.proofs.Zips.{product_within}
use Rattle.plan_rules.proofs.loads.one_demand.Goals as goal

pub returns-clause-within : goal.returns-clause-within
returns-clause-within c =
    let shape = c.requires.bound.shape in
    let jobs : c.from.result * c.from-2.result ≤ 64 * 1048576 =
    product_within c.from.result c.from-2.result 64 1048576 (omega (arith, c.from.ensures, c.requires.limits.few_work))
    (omega (arith, c.from-2.ensures, div-le_self c.args.common c.args.task.now.period, c.requires.common)) in
    let collections : c.from-3.result * c.from-4.result ≤ 576 * 1048576 =
    product_within c.from-3.result c.from-4.result 576 1048576 (omega (arith, c.from-3.ensures, shape.few_pages, shape.few_slots))
    (omega (arith, c.from-4.ensures, div-le_self c.args.common c.args.task.now.collect_period, c.requires.common)) in
    omega (arith, jobs, collections)
