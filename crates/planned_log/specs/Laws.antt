-- What laws of logs say that keep their plan so far.
use Rattle.std.specs.Prelude.{◌≡◌, ℕ, ◌+◌, ◌≤◌, ◌==◌, false, if◌then◌else◌, Contains, IsTrue, List, [], ◌∷◌, Option}
use Rattle.std.specs.Prelude.{Some, None}
use Rattle.slot_types.specs.declared.events.Op.{Op}
use Rattle.slot_types.specs.declared.plans.DiePlan.{DiePlan}
use Rattle.demand_rules.specs.declared.terms.Terms.{Terms}
use Rattle.demand_rules.specs.Demand.{terms_of, PassesDemand}
use Rattle.demand_rules.specs.Supply.{PassesSupply}
use Rattle.die_log.specs.Model.Log.{Log, Job, jobs, now}
use Rattle.die_log.specs.Model.Work.{is_done, completion}
use Rattle.die_log.specs.Model.Start.{Start}
use Rattle.die_log.specs.Model.Opening.{IsOpening}
use Rattle.die_log.specs.Model.Answers.{IsExact}
use Rattle.die_log.specs.Model.Lives.{Lives, all_slots}
use Rattle.die_log.specs.Results.DemandedLives.{AreFull, AreStockedAfter}
use Rattle.planned_log.specs.declared.ask_kinds.AskKind.{AskKind}
use Rattle.planned_log.specs.declared.refusals.AskRefusal.{AskRefusal}
use Rattle.planned_log.specs.AskKinds.{refusal_as}
use Rattle.planned_log.specs.Lives.{IsLife, all_came, ArePlannedLives}
use Rattle.planned_log.specs.KeptLogs.{KeepsSoFar, AskForFew}
use Rattle.planned_log.specs.Moves.{Move, Ask, Slot, after_move}

-- The log starts at an opening that is stocked after what came in earlier lives, for a plan that passes both tests,
-- is exact from there, and keeps that plan so far; and in no period of all lives a task asked for more than it may.
pub record IsKept (start : Start) (terms : Terms) (earlier : Lives) (life entered : ℕ) (log : Log) : Type 0 where
  pub opens : IsOpening start
  pub demand : PassesDemand start.plan terms
  pub supply : PassesSupply start.plan terms
  pub is_life : IsLife start.plan terms life
  pub lived : ArePlannedLives life earlier
  pub stocked : AreStockedAfter start terms (all_came earlier) (all_slots earlier)
  pub exact : IsExact start log
  pub kept : KeepsSoFar start.plan terms life entered log
  pub few : AskForFew start.plan terms (log ∷ earlier)

-- it holds of each such log
abbrev pub ForKeptLogs : (Start → Terms → Lives → ℕ → ℕ → Log → Type 0) → Type 0
ForKeptLogs Holds =
    (start : Start) (terms : Terms) (earlier : Lives) (life entered : ℕ) (log : Log) → IsKept start terms earlier life entered log
    → Holds start terms earlier life entered log

-- a die starts full at an opening, whose plan passes both tests, and its lives have `life` slots
pub record StartsFull (start : Start) (terms : Terms) (life : ℕ) : Type 0 where
  pub opens : IsOpening start
  pub demand : PassesDemand start.plan terms
  pub supply : PassesSupply start.plan terms
  pub is_life : IsLife start.plan terms life
  pub full : AreFull start

-- each job that is due by now is done, and was by its deadline
abbrev pub AreDoneInTime : DiePlan → Log → Type 0
AreDoneInTime plan log =
    (j : Job) → Contains (jobs log) j → j.collects ≡ false → j.due ≤ now log
    → IsTrue (is_done plan log j) × (completion j.number log ≤ j.due)

-- What a task is answered

-- what a task sees of a move: a slot, or its own ask
pub data Seen : Type 0 where
  Asks : (kind : AskKind) (ops : List Op) → Seen
  Slots : Seen

abbrev pub seen_by : ℕ → List Move → List Seen
seen_by task [] = []
seen_by task (Ask kind caller other ops ∷ moves) = if other == task then Asks kind ops ∷ seen_by task moves else seen_by task moves
seen_by task (Slot caller ∷ moves) = Slots ∷ seen_by task moves

-- an ask was refused for this cause, or all its jobs have this release and this deadline
pub data Answer : Type 0 where
  Refused : AskRefusal → Answer
  Accepted : (release due : ℕ) → Answer

abbrev pub answer_by : Terms → ℕ → ℕ → Option AskRefusal → Answer
answer_by terms task slot None = Accepted slot (slot + (terms_of terms task).deadline)
answer_by terms task slot (Some refusal) = Refused refusal

-- what the asks of a task are answered as these moves are made
abbrev pub answers_of : Start → Terms → Lives → ℕ → ℕ → Log → List Move → List Answer
answers_of start terms earlier life task log [] = []
answers_of start terms earlier life task log (Ask kind caller other ops ∷ moves) =
    let rest = answers_of start terms earlier life task (after_move start terms earlier life log (Ask kind caller other ops)) moves in
    if other == task then answer_by terms task (now log) (refusal_as kind start.plan terms life earlier log task ops) ∷ rest else rest
answers_of start terms earlier life task log (Slot caller ∷ moves) =
    answers_of start terms earlier life task (after_move start terms earlier life log (Slot caller)) moves
