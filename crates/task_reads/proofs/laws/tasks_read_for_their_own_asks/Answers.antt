use Rattle.task_reads.proofs.Alike.{read_alike, jobs_alike, ended_alike}
use Rattle.task_reads.proofs.laws.tasks_read_for_their_own_asks.Goals as goal

pub returns : goal.returns
returns c = record {
  reads = λ task first one other two h page own k i j kth_one kth_two. read_alike task first one other two h k i j kth_one kth_two page own;
  jobs = jobs_alike;
  ended = ended_alike;
}
