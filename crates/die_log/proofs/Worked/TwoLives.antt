-- Two lives of a die: what was written in the first is read in the second, which starts with the tokens that the first
-- left.
use Rattle.std.proofs.Common.{◌≡◌, ℕ, ◌≤◌, [], ◌∷◌, Some, None, refl, inl, arith, ◌⊎◌}
use Rattle.std.specs.Prelude.{IsTrue}
use Rattle.std.specs.List.{AllByRecursion}
use Rattle.std.proofs.lemmas.List.Elements.{All-contains, All-from_recursion}
use Rattle.slot_types.specs.declared.acts.Act.TheVariants as does
use Rattle.slot_types.specs.declared.events.Op.TheVariants.{Read, Write}
use Rattle.plan_rules.specs.Bound.{MeetsBound}
use Rattle.die_log.specs.Model.Log.{Log, Job, jobs, acts, is_waived}
use Rattle.die_log.specs.Model.Accounts.{accounts}
use Rattle.die_log.specs.Model.Work.{is_done}
use Rattle.die_log.specs.Model.Answers.{run, answer}
use Rattle.die_log.specs.Model.Opening.{IsQuiet, renewed_start}
use Rattle.die_log.specs.Model.Lives.{Lives, start_after, HaveEnded, AreLives, last_content, rows_of_all, numbers_of_all}
use Rattle.die_log.specs.Results.PlannedLives.{Calls}
use Rattle.die_log.proofs.Runs.{run_exact}
use Rattle.die_log.proofs.Worked.Plans.{roomy, roomy_plan, amounts, submit, slot, bytes}

abbrev first_calls : Calls
first_calls = submit 0 2 (Write 3 (bytes 17) ∷ []) ∷ slot ∷ slot ∷ []

abbrev pub first_log : Log
first_log = run roomy [] first_calls

-- up to the slot of the read
abbrev pub asked : Log
asked = run (renewed_start roomy first_log) [] (submit 0 1 (Read 3 ∷ []) ∷ [])

abbrev second_calls : Calls
second_calls = submit 0 1 (Read 3 ∷ []) ∷ slot ∷ []

abbrev pub second_log : Log
second_log = run (renewed_start roomy first_log) [] second_calls

abbrev pub both : Lives
both = second_log ∷ first_log ∷ []

reads : acts 0 second_log ≡ does.Read 3 (bytes 17) ∷ []
unfolding answer
reads = refl

left : last_content roomy (asked ∷ first_log ∷ []) 3 ≡ bytes 17
unfolding answer
left = refl

-- the token of the write is still spent
tokens : accounts (start_after roomy (first_log ∷ [])) second_log ≡ amounts roomy.plan 26 3 0 2
unfolding answer
tokens = refl

carries : numbers_of_all both ≡ Some 0 ∷ None ∷ Some 1 ∷ []
unfolding answer
carries = refl

-- the second life's job is released in the third slot of all
rows_are : rows_of_all roomy_plan both
    ≡ record { number = 0; release = 0; due = 2; work = 1; completion = Some 1 }
    ∷ record { number = 1; release = 2; due = 3; work = 1; completion = Some 3 } ∷ []
unfolding answer
rows_are = refl

pub bound : MeetsBound roomy_plan
bound = record {
  shape = record {
    some_blocks = omega arith;
    few_blocks = omega arith;
    some_pages = omega arith;
    few_pages = omega arith;
    some_slots = omega arith;
    few_slots = omega arith;
  };
  limits = record {
    some_tasks = omega arith;
    few_tasks = omega arith;
    some_logical = omega arith;
    some_alpha = omega arith;
    alpha_fits = omega arith;
    some_cap = All-from_recursion (λ (c : ℕ). 1 ≤ c) (4 ∷ []) (omega arith, tt);
  };
  closed = omega arith;
  live = omega arith;
}

-- the only job is done
abbrev IsOver : Job → Type 0
IsOver j = IsTrue (is_done roomy_plan first_log j) ⊎ IsTrue (is_waived first_log j.number)

all_over : AllByRecursion IsOver (jobs first_log)
unfolding answer
all_over = (inl refl, tt)

quiet : IsQuiet roomy first_log
quiet j stands = All-contains IsOver (jobs first_log) j (All-from_recursion IsOver (jobs first_log) all_over) stands

pub ended : HaveEnded roomy (first_log ∷ [])
ended = (tt, run_exact roomy [] first_calls tt, quiet)

pub are_lives : AreLives roomy both
are_lives = (ended, run_exact (renewed_start roomy first_log) [] second_calls tt)
