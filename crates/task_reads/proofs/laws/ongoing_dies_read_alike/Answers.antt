use Rattle.std.proofs.Common.{refl}
use Rattle.die_log.specs.Model.Log.{Job}
use Rattle.task_reads.proofs.InLives.{all_lives, present_starts, asked_in_lives, alike_in_lives, own_in_lives, read_in_lives}
use Rattle.task_reads.proofs.laws.ongoing_dies_read_alike.Goals as goal

pub returns-clause-lives : goal.returns-clause-lives
returns-clause-lives c = all_lives

pub returns-clause-starts : goal.returns-clause-starts
returns-clause-starts c = present_starts

pub returns-clause-asked : goal.returns-clause-asked
returns-clause-asked c = asked_in_lives c.ongoing_tasks_are_answered_for_their_own_asks.ensures.ahead

pub returns-clause-releases : goal.returns-clause-releases
returns-clause-releases c = λ task life terms first past moves other before others h.
    alike_in_lives c.ongoing_tasks_are_answered_for_their_own_asks.ensures.ahead task life terms first past moves other before others h
    (λ (j : Job). j.release) (λ j. refl)

pub returns-clause-deadlines : goal.returns-clause-deadlines
returns-clause-deadlines c = λ task life terms first past moves other before others h.
    alike_in_lives c.ongoing_tasks_are_answered_for_their_own_asks.ensures.ahead task life terms first past moves other before others h
    (λ (j : Job). j.due) (λ j. refl)

pub returns-clause-pages : goal.returns-clause-pages
returns-clause-pages c = own_in_lives c.ongoing_tasks_are_answered_for_their_own_asks.ensures.ahead

pub returns-clause-reads : goal.returns-clause-reads
returns-clause-reads c = read_in_lives c.ongoing_tasks_are_answered_for_their_own_asks.ensures.ahead
