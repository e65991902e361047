-- No more dies are saved of a store that was filled than it has plans.
use Rattle.std.proofs.Common.{◌≡◌, ◌≤◌, ℕ, zero, suc, List, [], ◌∷◌, Option, Some, None, length, map, ap, ◌∙◌, arith}
use Rattle.std.proofs.lemmas.List.{length-map}
use Rattle.std.proofs.lemmas.Slice.Zip.{AllZip-long}
use Rattle.slot_types.specs.declared.plans.DiePlan.{DiePlan}
use Rattle.checkpoint_texts.specs.declared.saved.SavedDie.{SavedDie}
use Rattle.die_log.specs.Model.Start.{fresh}
use Rattle.flashplan_script_runs.specs.RunningDies.{RunningDie, running_of, starts_of}
use Rattle.flashplan_script_runs.specs.ScriptRuns.{GoesOn}
use Rattle.flashplan_checkpoint_runs.specs.Runs.{running, starts_by}
use Rattle.flashplan_checkpoint_runs.specs.SavedDies.{saved_end, saved_starts}
use Rattle.flashplan_full_dies.specs.FullDies.{AreFilled, IsLeftAfter, IsLife}
use Rattle.flashplan_full_dies.specs.declared.fills.Filled.{Filled}

saved-starts-few : (plans : List DiePlan) (saved : List SavedDie) → length (saved_starts plans saved) ≤ length plans
saved-starts-few [] saved = omega arith
saved-starts-few (plan ∷ plans) [] = omega arith
saved-starts-few (plan ∷ plans) (die ∷ saved) = omega (arith, saved-starts-few plans saved)

starts-few : (plans : List DiePlan) (before : Option (List SavedDie)) → length (starts_by plans before) ≤ length plans
starts-few plans None = omega (arith, length-map plans fresh)
starts-few plans (Some saved) = saved-starts-few plans saved

life-few : (plans : List DiePlan) (before : Option (List SavedDie)) (refused : ℕ) (after : List SavedDie) → IsLife plans before refused after
    → length after ≤ length plans
life-few plans before refused after life =
    let came = life.ran.came in
    let few : length (starts_by plans before) ≤ length plans = starts-few plans before in
    let began : length (starts_of came) ≡ length (starts_by plans before) = ap length life.ran.ran.starts_are in
    let own : length (starts_of came) ≡ length came = length-map came (λ (die : RunningDie). die.start) in
    let on : length (running life.dies) ≡ length came = AllZip-long GoesOn came (running life.dies) life.ran.went_on in
    let ran : length (running life.dies) ≡ length life.dies = length-map life.dies running_of in
    let saved : length after ≡ length life.dies = ap length life.saved ∙ length-map life.dies saved_end in
    omega arith

left-few : (plans : List DiePlan) (lives refused : ℕ) (saved : List SavedDie) → IsLeftAfter plans lives refused (Some saved)
    → length saved ≤ length plans
left-few plans zero refused saved (none, is) = absurd (nothing is)
  where
    nothing : ◌≡◌ {A = Option (List SavedDie)} (Some saved) None → ⊥
    nothing e = cc
left-few plans (suc lives) refused saved (before, (earlier, (left, (after, (more, (is, (sum, life))))))) =
    let same : saved ≡ after = cc in
    let few : length after ≤ length plans = life-few plans before more after life in
    rw same few

pub filled-few : (plans : List DiePlan) (least : ℕ) (filled : Filled) → AreFilled plans least filled → length plans ≤ 8
    → length filled.saved ≤ 8
filled-few plans least filled full few =
    let own : length filled.saved ≤ length plans = left-few plans filled.lives filled.refused filled.saved full.left in
    omega arith
