-- A law of wear over a die's lives that speaks of the last one alone: the erases of an earlier life would be lost.
use Rattle.std.proofs.Common.{◌≡◌, ℕ, ◌+◌, ◌≤◌, [], ◌∷◌, ◌⊎◌, inl, inr, refl, arith}
use Rattle.std.specs.Prelude.{IsTrue}
use Rattle.std.specs.List.{AllByRecursion}
use Rattle.std.proofs.lemmas.List.Elements.{All-contains, All-from_recursion}
use Rattle.plan_rules.specs.Bound.{MeetsBound}
use Rattle.die_log.specs.Model.Log.{Log, Job, jobs, is_waived}
use Rattle.die_log.specs.Model.Flash.{block_at}
use Rattle.die_log.specs.Model.Work.{is_done}
use Rattle.die_log.specs.Model.Start.{Start}
use Rattle.die_log.specs.Model.Answers.{IsExact, answer}
use Rattle.die_log.specs.Model.Opening.{IsOpening, IsQuiet}
use Rattle.die_log.specs.Model.Lives.{Lives, start_after, AreLives, erases_in}
use Rattle.die_log.proofs.Openings.{fresh_opens}
use Rattle.die_log.proofs.Runs.{run_exact}
use Rattle.die_log.proofs.Worked.Plans.{tight, tight_plan}
use Rattle.die_log.proofs.Worked.FillingHistory.{full, full_calls}
use Rattle.die_log.proofs.Worked.CollectionCopies.{collected, collect_calls}

abbrev OfTheLastAlone : Type 0
OfTheLastAlone = (first : Start) → IsOpening first → (log : Log) (earlier : Lives) → AreLives first (log ∷ earlier) → (block : ℕ)
    → (block_at (start_after first (log ∷ earlier)).cells block).erases ≡ (block_at first.cells block).erases + erases_in block log

bound : MeetsBound tight_plan
bound = record {
  shape = record {
    some_blocks = omega arith;
    few_blocks = omega arith;
    some_pages = omega arith;
    few_pages = omega arith;
    some_slots = omega arith;
    few_slots = omega arith;
  };
  limits = record {
    some_tasks = omega arith;
    few_tasks = omega arith;
    some_logical = omega arith;
    some_alpha = omega arith;
    alpha_fits = omega arith;
    some_cap = All-from_recursion (λ (c : ℕ). 1 ≤ c) (4 ∷ []) (omega arith, tt);
  };
  closed = omega arith;
  live = omega arith;
}

-- five collections were waived, and all else is done
abbrev IsOver : Job → Type 0
IsOver j = IsTrue (is_done tight_plan collected j) ⊎ IsTrue (is_waived collected j.number)

all_over : AllByRecursion IsOver (jobs collected)
unfolding answer
all_over = (
  inl refl,
  (inr refl, (inl refl, (inr refl, (inl refl, (inr refl, (inl refl, (inr refl, (inl refl, (inr refl, (inl refl, (inl refl, tt))))))))))),
)

quiet : IsQuiet tight collected
quiet j stands = All-contains IsOver (jobs collected) j (All-from_recursion IsOver (jobs collected) all_over) stands

exact : IsExact tight collected
exact = run_exact tight full collect_calls (run_exact tight [] full_calls tt)

erased_before : (block_at (start_after tight ([] ∷ collected ∷ [])).cells 1).erases ≡ 1
unfolding answer
erased_before = refl

not_a_law : OfTheLastAlone → ⊥
not_a_law law = absurd (omega (
  arith,
  law tight (fresh_opens tight_plan bound) [] (collected ∷ []) ((tt, exact, quiet), tt) 1,
  erased_before,
))
