-- Two dies that keep their plan, life after life, and one task that sees the same in both.
use Rattle.std.specs.Prelude.{◌≡◌, ℕ, List, [], ◌∷◌, map}
use Rattle.demand_rules.specs.declared.terms.Terms.{Terms}
use Rattle.die_log.specs.Model.Start.{Start}
use Rattle.die_log.specs.Model.Lives.{Lives}
use Rattle.planned_log.specs.Laws.{StartsFull, seen_by}
use Rattle.planned_log.specs.Moves.{Move, ReachTheEnd}
use Rattle.task_reads.specs.OwnPages.{IsOwnPage}

-- the page is the task's own in each of these lives
abbrev pub IsOwnInLives : (task page : ℕ) → Lives → Type 0
IsOwnInLives task page [] = Unit {0}
IsOwnInLives task page (log ∷ earlier) = IsOwnInLives task page earlier × IsOwnPage task page log

-- Two dies of one plan start full, and the moves of each life reach its end. In each life the task sees the same in both: the
-- same slots and its own asks.
pub record AreLivesSeenAlike (task life : ℕ) (terms : Terms) (first : Start) (all : List (List Move)) (other : Start)
    (others : List (List Move)) : Type 0 where
  pub full_one : StartsFull first terms life
  pub full_two : StartsFull other terms life
  pub plan : first.plan ≡ other.plan
  pub ends_one : ReachTheEnd first terms life all
  pub ends_two : ReachTheEnd other terms life others
  pub seen : map (seen_by task) all ≡ map (seen_by task) others
