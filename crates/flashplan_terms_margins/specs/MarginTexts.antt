-- How far the numbers of a die's tasks may change, in lines.
use Rattle.std.specs.Prelude.{◌≡◌, ℕ, ◌+◌, List, [], ◌∷◌, ◌++◌, codes, decimal, Option, Some, None}
use Rattle.demand_rules.specs.declared.terms.TaskTerms.{TaskTerms}
use Rattle.slot_types.specs.declared.plans.DiePlan.{DiePlan}
use Rattle.terms_texts.specs.declared.stores.DieTerms.{DieTerms}
use Rattle.flashplan_slot_times.specs.Times.{slots_text}
use Rattle.flashplan_terms_margins.specs.Changes.{AreMargins, FindsCap}
use Rattle.flashplan_terms_margins.specs.declared.margins.TaskMargins.{TaskMargins}

-- a number that would do, and what it is; or that none would
abbrev pub number_text : (what name : List ℕ) → Option ℕ → List ℕ
number_text what name (Some n) = what ++ name ++ codes " " ++ decimal n
number_text what name None = codes "no " ++ name

-- the same of the least number of slots, which is followed by its time, where it is known how many us a slot takes
abbrev pub shortest_text : Option ℕ → (name : List ℕ) → Option ℕ → List ℕ
shortest_text us name (Some n) = codes "least " ++ name ++ codes " " ++ slots_text us n
shortest_text us name None = codes "no " ++ name

-- what a line on what a die's bound allows begins with
abbrev pub of_bound : ℕ → List ℕ
of_bound die = codes "die " ++ decimal die ++ codes ": by its bound alone, one at a time: "

-- the greatest number of logical pages, and the least of blocks
abbrev pub room_text : (logical blocks : Option ℕ) → List ℕ
room_text logical blocks = number_text (codes "greatest ") (codes "logical") logical
    ++ codes ", " ++ number_text (codes "least ") (codes "blocks") blocks ++ codes "." ++ 10 ∷ []

-- those of a die that its bound allows
abbrev pub room_line : ℕ → (logical blocks : Option ℕ) → List ℕ
room_line die logical blocks = of_bound die ++ room_text logical blocks

-- the greatest cap of a task that its die's bound allows
abbrev pub greatest_text : Option ℕ → List ℕ
greatest_text (Some cap) = codes "by the bound alone, the greatest cap is " ++ decimal cap
greatest_text None = codes "by the bound alone, no cap would do"

abbrev pub cap_line : (die task : ℕ) → Option ℕ → List ℕ
cap_line die task found = codes "die " ++ decimal die ++ codes " task " ++ decimal task ++ codes ": " ++ greatest_text found ++ codes "." ++ 10 ∷ []

-- a line for each of these caps of a plan, the first of which has this number
abbrev pub SaysCaps : DiePlan → (die task : ℕ) → List ℕ → List ℕ → Type 0
SaysCaps plan die task [] said = said ≡ []
SaysCaps plan die task (cap ∷ more) said = (found : Option ℕ) × (rest : List ℕ) × FindsCap plan task found
    × (said ≡ cap_line die task found ++ rest) × SaysCaps plan die (task + 1) more rest

-- what a task asks for, and its times
abbrev pub asked_text : TaskMargins → List ℕ
asked_text m = number_text (codes "greatest ") (codes "work") m.work ++ codes ", " ++ number_text (codes "greatest ") (codes "writes") m.writes

abbrev pub times_text : Option ℕ → TaskMargins → List ℕ
times_text us m = shortest_text us (codes "period") m.period ++ codes ", " ++ shortest_text us (codes "deadline") m.deadline
    ++ codes ", " ++ shortest_text us (codes "collect_deadline") m.collect_deadline

abbrev pub margins_line : Option ℕ → (die task : ℕ) → TaskMargins → List ℕ
margins_line us die task m = codes "die " ++ decimal die ++ codes " task " ++ decimal task ++ codes ": one at a time, with these its die would do: "
    ++ asked_text m ++ codes ", " ++ times_text us m ++ codes "." ++ 10 ∷ []

-- a line for each of these tasks of a die, the first of which has this number: how far its numbers may change
abbrev pub SaysMargins : Option ℕ → DieTerms → (die task : ℕ) → List TaskTerms → List ℕ → Type 0
SaysMargins us made die task [] said = said ≡ []
SaysMargins us made die task (own ∷ more) said = (m : TaskMargins) × (rest : List ℕ) × AreMargins made task own m
    × (said ≡ margins_line us die task m ++ rest) × SaysMargins us made die (task + 1) more rest
