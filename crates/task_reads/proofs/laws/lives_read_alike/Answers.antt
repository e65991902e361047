use Rattle.task_reads.proofs.LivingOn.{next_alike, pages_alike}
use Rattle.task_reads.proofs.laws.lives_read_alike.Goals as goal

pub returns : goal.returns
returns c = record {
  next = λ task life terms first all other others. next_alike task life terms first other all others;
  pages = λ task life terms first all other others. pages_alike task life terms first other all others;
}
