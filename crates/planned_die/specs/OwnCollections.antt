-- In which slots a die has no collection of its own to enter.
use Rattle.std.specs.Prelude.{◌≡◌, ℕ, ◌≤◌, ◌<◌, false, List, All}
use Rattle.demand_rules.specs.declared.terms.TaskTerms.{TaskTerms}
use Rattle.planned_log.specs.KeptLogs.{comes_at}

-- no collection of this period comes from slot `from` on, before slot `until`
abbrev pub IsQuiet : (period from until : ℕ) → Type 0
IsQuiet period from until = (slot : ℕ) → from ≤ slot → slot < until → comes_at period slot ≡ false

-- nor does one of any of these tasks
abbrev pub AreQuiet : List TaskTerms → (from until : ℕ) → Type 0
AreQuiet tasks from until = All (λ t. IsQuiet t.collect_period from until) tasks
