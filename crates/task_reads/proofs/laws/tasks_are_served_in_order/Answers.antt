use Rattle.task_reads.proofs.Turns.{served_in_order}
use Rattle.task_reads.proofs.Doing.{operations_in_order}
use Rattle.task_reads.proofs.laws.tasks_are_served_in_order.Goals as goal

pub returns : goal.returns
returns c = record { jobs = served_in_order; operations = operations_in_order }
