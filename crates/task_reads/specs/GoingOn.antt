-- Two dies of one plan that begin their lives themselves, and one task that sees the same in both.
use Rattle.std.specs.Prelude.{◌≡◌, ℕ, ◌-◌, List, [], ◌∷◌, length, map, take}
use Rattle.demand_rules.specs.declared.terms.Terms.{Terms}
use Rattle.die_log.specs.Model.Log.{Log, Job}
use Rattle.die_log.specs.Model.Flash.{content}
use Rattle.die_log.specs.Model.Start.{Start}
use Rattle.die_log.specs.Model.Lives.{Lives, all_slots, start_after}
use Rattle.planned_log.specs.Asks.{asked_by}
use Rattle.planned_log.specs.Laws.{IsKept}
use Rattle.ongoing_log.specs.PastLives.{PastLife, starts_after, counted, HavePassed}
use Rattle.ongoing_log.specs.Ongoing.{Ongoing, begun_after, AreLongEnough}
use Rattle.ongoing_log.specs.Ahead.{AheadMove, ahead_after, ahead_seen_by}
use Rattle.task_reads.specs.Asked.{task_jobs}
use Rattle.task_reads.specs.OwnPages.{AreAskedAlike}
use Rattle.task_reads.specs.Lives.{IsOwnInLives}

-- a die begins after these lives, which may be none: as a new one, from a checkpoint, or from a mount
pub record BeginsAfter (first : Start) (terms : Terms) (life : ℕ) (past : List PastLife) : Type 0 where
  pub long : AreLongEnough terms life
  pub passed : HavePassed first life past
  pub kept : IsKept (starts_after first past) terms (counted past) life 0 []

-- what stands of it after all that callers did then
abbrev pub gone_on : Start → Terms → ℕ → List PastLife → List AheadMove → Ongoing
gone_on first terms life past moves = ahead_after first terms life (begun_after past (length (starts_after first past).plan.caps)) moves

-- the logs of its lives since then, the newest first: of the present one, and of those that ended by themselves
abbrev pub lives_since : List PastLife → Ongoing → Lives
lives_since past d = d.log ∷ map (λ (p : PastLife). p.log) (take (length d.earlier - length past) d.earlier)

-- Two dies of one plan begin. The task sees the same in both: as many slots on the clock, the same asked for before, and then
-- the same slots and its own asks, for whichever slots. Other tasks may ask for whatever they like in either.
pub record GoOnAlike (task life : ℕ) (terms : Terms) (first : Start) (past : List PastLife) (moves : List AheadMove)
    (other : Start) (before : List PastLife) (others : List AheadMove) : Type 0 where
  pub begins_one : BeginsAfter first terms life past
  pub begins_two : BeginsAfter other terms life before
  pub plan : first.plan ≡ other.plan
  pub clock : all_slots (counted past) ≡ all_slots (counted before)
  pub asked : asked_by task ([] ∷ counted past) ≡ asked_by task ([] ∷ counted before)
  pub seen : ahead_seen_by task moves ≡ ahead_seen_by task others

-- it holds of the lives since then of each two such dies, with where the first of these started
abbrev pub ForGoneOnAlike : (ℕ → Start → Lives → Start → Lives → Type 0) → Type 0
ForGoneOnAlike Holds =
    (task life : ℕ) (terms : Terms) (first : Start) (past : List PastLife) (moves : List AheadMove) (other : Start) (before : List PastLife)
    (others : List AheadMove) → GoOnAlike task life terms first past moves other before others
    → Holds task (starts_after first past) (lives_since past (gone_on first terms life past moves))
    (starts_after other before) (lives_since before (gone_on other terms life before others))

-- Life by life

-- both are as many lives, and it holds of each two of them: of the lives before, and of the log
abbrev pub InEachLife : (Lives → Log → Lives → Log → Type 0) → Lives → Lives → Type 0
InEachLife Holds [] [] = Unit {0}
InEachLife Holds [] (twin ∷ before) = ⊥
InEachLife Holds (log ∷ earlier) [] = ⊥
InEachLife Holds (log ∷ earlier) (twin ∷ before) = InEachLife Holds earlier before × Holds earlier log before twin

-- in each life the task's jobs come in order, and ask for the same in both
abbrev pub AskAlikeInLives : ℕ → Start → Lives → Start → Lives → Type 0
AskAlikeInLives task first one other two =
    InEachLife (λ earlier log before twin. AreAskedAlike task (start_after first earlier) log (start_after other before) twin) one two

-- in each life the task's jobs have the same of this, one by one
abbrev pub HaveAlikeInLives : {X : Type 0} → (Job → X) → ℕ → Start → Lives → Start → Lives → Type 0
HaveAlikeInLives of task first one other two =
    InEachLife (λ earlier log before twin. map of (task_jobs task log) ≡ map of (task_jobs task twin)) one two

-- in each life this holds of a page that is the task's own in it and in all lives before, if the same stood on it in the first
abbrev pub ForOwnPages : (ℕ → Start → Log → Start → Log → Type 0) → ℕ → Start → Lives → Start → Lives → Type 0
ForOwnPages Holds task first one other two =
    InEachLife (λ earlier log before twin. (page : ℕ) → content first [] page ≡ content other [] page →
    IsOwnInLives task page (log ∷ earlier) → IsOwnInLives task page (twin ∷ before)
    → Holds page (start_after first earlier) log (start_after other before) twin) one two
