use Rattle.task_reads.proofs.Standing.{reads_as_asked, ends_as_asked}
use Rattle.task_reads.proofs.laws.own_pages_stand_as_asked.Goals as goal

pub returns : goal.returns
returns c = record { reads = reads_as_asked; ended = ends_as_asked }
