-- A die with another alpha, and the caps, collect periods and collect deadlines that go with it.
use Rattle.std.specs.Prelude.{◌≡◌, ◌==◌, ◌↔◌, ℕ, zero, suc, ◌+◌, ◌-◌, ◌*◌, ◌/◌, ◌<◌, min, List, [], ◌++◌, map, flat_map, codes, decimal, IsTrue}
use Rattle.std.specs.Prelude.{if◌then◌else◌, Option, Some, None}
use Rattle.slot_types.specs.declared.limits.TheConstants.{MAX_SLOT}
use Rattle.demand_rules.specs.Demand.{load}
use Rattle.demand_rules.specs.declared.terms.TaskTerms.{TaskTerms}
use Rattle.terms_texts.specs.Stores.{IsUsable, die_of}
use Rattle.terms_texts.specs.declared.numbers.TermsNumbers.{TermsNumbers}
use Rattle.terms_texts.specs.declared.stores.DieTerms.{DieTerms}
use Rattle.flashplan_slot_times.specs.Times.{slots_text}
use Rattle.flashplan_design.specs.Alphas.{caps_text, does_text, logical_text}
use Rattle.flashplan_design.specs.Trials.{with_logical}
use Rattle.flashplan_terms_changes.specs.declared.alphas.AlphaRow.{AlphaRow}

-- the longest collect period with which a task's collections give back what its jobs write; of a task that writes nothing,
-- the longest that there may be
abbrev pub longest : ℕ → TaskTerms → ℕ
longest alpha t = if t.writes == 0 then MAX_SLOT else min (alpha * t.period / t.writes) MAX_SLOT

-- a task whose collections come as seldom, and are each due by the next one
abbrev pub slowed : ℕ → TaskTerms → TaskTerms
slowed alpha t = record t { collect_period = longest alpha t; collect_deadline = longest alpha t }

-- what a task's cap has to cover: what it may write in a period and in as many slots as a job may be held, and two
-- collections; rounded up
abbrev pub least_cap : ℕ → TaskTerms → ℕ
least_cap alpha t = (t.writes * (t.period + t.held) + 2 * alpha * t.period + (t.period - 1)) / t.period

-- that, except for one that would be greater than the greatest number of a plan
abbrev pub cap_with : ℕ → TaskTerms → ℕ
cap_with alpha t = min (least_cap alpha t) 4294967295

-- a die with this alpha, the least caps, the longest collect periods and the longest collect deadlines, and all else as it is
abbrev pub with_alpha : DieTerms → ℕ → DieTerms
with_alpha made alpha = record {
  plan = record made.plan { alpha = alpha; caps = map (cap_with alpha) made.terms.tasks };
  terms = record { tasks = map (slowed alpha) made.terms.tasks };
}

-- a die that holds `logical` logical pages
abbrev pub holding : DieTerms → ℕ → DieTerms
holding made logical = record made { plan = with_logical made.plan logical }

-- what such a die comes to: the greatest number of logical pages with which it meets its bound and passes its tests, the
-- load in the long run, and whether it would do with as many as it has
pub record IsRow (made : DieTerms) (r : AlphaRow) : Type 0 where
  pub is : r.made ≡ made
  pub holds : IsUsable (holding made r.logical)
  pub greatest : (more : ℕ) → r.logical < more → ¬ IsUsable (holding made more)
  pub load : r.load ≡ load made.plan made.terms
  pub does : IsTrue r.does ↔ IsUsable made

-- that, or none where it would do with no number of logical pages
abbrev pub FindsRow : DieTerms → Option AlphaRow → Type 0
FindsRow made (Some row) = IsRow made row
FindsRow made None = (logical : ℕ) → ¬ IsUsable (holding made logical)

-- the collect periods, which are the collect deadlines, too
abbrev pub periods_text : Option ℕ → List TaskTerms → List ℕ
periods_text us tasks = flat_map (λ (t : TaskTerms). codes " " ++ slots_text us t.collect_period) tasks

abbrev pub slow_text : Option ℕ → DieTerms → List ℕ
slow_text us made = codes " and collect_periods and collect_deadlines" ++ periods_text us made.terms.tasks

abbrev pub load_text : ℕ → List ℕ
load_text load = codes ", in the long run " ++ decimal load ++ codes " of each 1000000 slots are asked for"

-- what an alpha comes to
abbrev pub found_text : AlphaRow → List ℕ
found_text r = load_text r.load ++ (logical_text r.logical ++ does_text r.does)

-- what a line on a die begins with
abbrev pub of_die : ℕ → List ℕ
of_die die = codes "die " ++ decimal die ++ codes ": "

-- how it is said, a line; where none is found nothing is
abbrev pub row_line : Option ℕ → ℕ → AlphaRow → List ℕ
row_line us die r = of_die die ++ ((caps_text r.made.plan ++ slow_text us r.made) ++ found_text r)

abbrev pub row_text : Option ℕ → ℕ → Option AlphaRow → List ℕ
row_text us die (Some row) = row_line us die row
row_text us die None = []

-- what is said of a die of a plan with this alpha
abbrev pub SaysRow : Option ℕ → TermsNumbers → (alpha die : ℕ) → List ℕ → Type 0
SaysRow us plan alpha die said =
    (found : Option AlphaRow) × FindsRow (with_alpha (die_of plan die) alpha) found × (said ≡ row_text us die found)

-- and of the first `dies` dies
abbrev pub SaysDies : Option ℕ → TermsNumbers → (alpha dies : ℕ) → List ℕ → Type 0
SaysDies us plan alpha zero said = said ≡ []
SaysDies us plan alpha (suc die) said =
    (first last : List ℕ) × SaysDies us plan alpha die first × SaysRow us plan alpha die last × (said ≡ first ++ last)

-- and of all dies with each alpha from 1 up to this one
abbrev pub SaysAlphas : Option ℕ → TermsNumbers → ℕ → List ℕ → Type 0
SaysAlphas us plan zero said = said ≡ []
SaysAlphas us plan (suc before) said =
    (first last : List ℕ) × SaysAlphas us plan before first × SaysDies us plan (suc before) plan.top.dies last × (said ≡ first ++ last)
