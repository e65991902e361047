use Rattle.plan_texts.proofs.StoreLaws.{store_bound, store_few, store_passes, store_some}
use Rattle.plan_texts.proofs.stores.read_plan.Goals as goal

pub returns-clause-some : goal.returns-clause-some
returns-clause-some c = store_some _ c.store_of.result c.store_of.ensures.ok

pub returns-clause-few : goal.returns-clause-few
returns-clause-few c = store_few _ c.store_of.result c.store_of.ensures.ok

pub returns-clause-bound : goal.returns-clause-bound
returns-clause-bound c = store_bound _ c.store_of.result c.store_of.ensures.ok

pub returns-clause-passes : goal.returns-clause-passes
returns-clause-passes c = store_passes _ c.store_of.result c.store_of.ensures.ok
