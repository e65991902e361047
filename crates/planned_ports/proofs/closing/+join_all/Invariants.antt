use Rattle.std.proofs.Common.{vec_len}
use Rattle.planned_ports.proofs.closing.+join_all.Given as goal

abbrev pub decreases-join_all : goal.decreases-join_all
decreases-join_all g l = vec_len l.tasks.now
