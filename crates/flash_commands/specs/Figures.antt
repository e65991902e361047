-- What the program prints of a plan.
use Rattle.std.specs.Prelude.{ℕ, ◌++◌, List, [], ◌∷◌, flat_map, codes, decimal, All, Option, Some, None}
use Rattle.std.specs.List.{enumerate_from}
use Rattle.plan_rules.specs.Bound.{MeetsBound, closed_of, fmax_of, live_of}
use Rattle.plan_rules.specs.Times.{PassesItsTimes, demand}
use Rattle.slot_types.specs.declared.plans.DiePlan.{DiePlan}
use Rattle.slot_types.specs.declared.plans.Times.{Times}

-- the line of a die, from its figures
abbrev pub figures_line : (die fmax closed live logical : ℕ) → List ℕ
figures_line die fmax closed live logical = codes "die " ++ decimal die ++ codes " fmax " ++ decimal fmax ++ codes " closed "
    ++ decimal closed
    ++ codes " live " ++ decimal live ++ codes " logical " ++ decimal logical ++ codes " accepted" ++ 10 ∷ []

-- the line of a die
abbrev pub plan_line : ℕ → DiePlan → List ℕ
plan_line die plan = figures_line die (fmax_of plan) (closed_of plan) (live_of plan) plan.logical

-- the line of a die's demand
abbrev pub load_line : (die load common : ℕ) → List ℕ
load_line die load common = codes "die " ++ decimal die ++ codes " load " ++ decimal load ++ codes " of " ++ decimal common ++ 10 ∷ []

-- the line of what a die's tasks ask for, where their times are known
abbrev pub load_text : ℕ → DiePlan → Option Times → List ℕ
load_text die plan None = []
load_text die plan (Some times) = load_line die (demand plan times) times.common

-- the lines of a die
abbrev pub numbered_lines : ℕ × DiePlan → List ℕ
numbered_lines p = plan_line p.0 p.1 ++ load_text p.0 p.1 p.1.times

-- the lines of all dies, numbered from 0
abbrev pub plan_text : List DiePlan → List ℕ
plan_text store = flat_map numbered_lines (enumerate_from 0 store)

-- each die may be used
abbrev pub AllMeetBound : List DiePlan → Type 0
AllMeetBound store = All MeetsBound store

-- each die passes the test of its times, if it has any
abbrev pub AllPass : List DiePlan → Type 0
AllPass store = All PassesItsTimes store
