-- Two runs that agree on their slots and on one task's asks.
use Rattle.std.specs.Prelude.{◌≡◌, ℕ, List, [], ◌∷◌}
use Rattle.demand_rules.specs.declared.terms.Terms.{Terms}
use Rattle.die_log.specs.Model.Log.{Log}
use Rattle.die_log.specs.Model.Start.{Start}
use Rattle.die_log.specs.Model.Lives.{Lives, all_slots}
use Rattle.planned_log.specs.Asks.{asked_by}
use Rattle.planned_log.specs.Laws.{IsKept, seen_by}
use Rattle.planned_log.specs.Moves.{Move, after_moves}

-- Two dies of one plan begin a life, whatever stands on them. The task sees the same in both: as many slots on the clock, the
-- same asked for before, and then the same slots and its own asks. Other tasks may ask for whatever they like in either.
pub record AreSeenAlike (task life : ℕ) (terms : Terms) (first : Start) (earlier : Lives) (moves : List Move)
    (other : Start) (before : Lives) (others : List Move) : Type 0 where
  pub kept_one : IsKept first terms earlier life 0 []
  pub kept_two : IsKept other terms before life 0 []
  pub plan : first.plan ≡ other.plan
  pub clock : all_slots earlier ≡ all_slots before
  pub asked : asked_by task ([] ∷ earlier) ≡ asked_by task ([] ∷ before)
  pub seen : seen_by task moves ≡ seen_by task others

-- it holds of the logs that each two such runs leave
abbrev pub ForRunsSeenAlike : (ℕ → Start → Log → Start → Log → Type 0) → Type 0
ForRunsSeenAlike Holds =
    (task life : ℕ) (terms : Terms) (first : Start) (earlier : Lives) (moves : List Move) (other : Start) (before : Lives)
    (others : List Move) → AreSeenAlike task life terms first earlier moves other before others
    → Holds task first (after_moves first terms earlier life [] moves) other (after_moves other terms before life [] others)
