-- Lines of tasks, one after the other.
use Rattle.std.proofs.Common.{ℕ, List, ◌++◌, ◌+◌, ◌<◌, drop, length, Option, get_or, refl, drop-cons, add-one}
use Rattle.demand_rules.specs.declared.terms.TaskTerms.{TaskTerms}
use Rattle.slot_types.specs.declared.plans.DiePlan.{DiePlan}
use Rattle.terms_texts.specs.declared.stores.DieTerms.{DieTerms}
use Rattle.flashplan_terms_margins.specs.Changes.{AreMargins, FindsCap}
use Rattle.flashplan_terms_margins.specs.MarginTexts.{SaysCaps, SaysMargins, cap_line, margins_line}
use Rattle.flashplan_terms_margins.specs.declared.margins.TaskMargins.{TaskMargins}

-- the line of the cap at a place, and then those after it
pub caps-from : (plan : DiePlan) (die task : ℕ) (caps : List ℕ) (d : ℕ) (found : Option ℕ) (rest : List ℕ)
    → task < length caps → FindsCap plan task found → SaysCaps plan die (task + 1) (drop (task + 1) caps) rest
    → SaysCaps plan die task (drop task caps) (cap_line die task found ++ rest)
caps-from plan die task caps d found rest below finds more =
    rw (drop-cons caps task d below) (found, rest, finds, refl, rw (add-one task) (rw (add-one task) at more))

-- the line of the task at a place, and then those after it
pub lines-from : (us : Option ℕ) (made : DieTerms) (die task : ℕ) (tasks : List TaskTerms) (d : TaskTerms) (m : TaskMargins) (rest : List ℕ)
    → task < length tasks → AreMargins made task (get_or tasks task d) m → SaysMargins us made die (task + 1) (drop (task + 1) tasks) rest
    → SaysMargins us made die task (drop task tasks) (margins_line us die task m ++ rest)
lines-from us made die task tasks d m rest below margins more =
    rw (drop-cons tasks task d below) (m, rest, margins, refl, rw (add-one task) (rw (add-one task) at more))
