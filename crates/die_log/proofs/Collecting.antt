-- Which tasks have a collection, after one more was taken.
use Rattle.std.proofs.Common.{◌≡◌, ℕ, ◌<◌, ◌==◌, true, false, List, [], ◌∷◌, Some, None, refl, arith}
use Rattle.std.proofs.Common.{length}
use Rattle.std.specs.List.{AllByRecursion, filter_map, list_any}
use Rattle.std.proofs.lemmas.Bool.Decides.{nat_tests}
use Rattle.slot_types.specs.declared.replies.Waived.{Waived}
use Rattle.die_log.specs.Model.Log.{Log, Job, Carried, jobs, carried_slots, waived_collections, is_waived, act_of, acts}
use Rattle.die_log.specs.Model.Answers.{IsExact}
use Rattle.die_log.proofs.Known.{CarriedBelow, WaivedBelow, known}
use Rattle.die_log.specs.Model.Start.{Start}

pub other_number : (m n : ℕ) → m < n → (m == n) ≡ false
other_number m n h = grind (arith, nat_tests)

no_act : (n : ℕ) (c : Carried) → CarriedBelow n c → act_of n c ≡ None
no_act n None p = refl
no_act n (Some (number, act)) p = rw (other_number number n p) refl

no_acts_in : (n : ℕ) (cs : List Carried) → AllByRecursion (CarriedBelow n) cs → filter_map (λ c. act_of n c) cs ≡ []
no_acts_in n [] h = refl
no_acts_in n (c ∷ cs) h = rw (no_act n c h.0) (no_acts_in n cs h.1)

not_waived_in : (n : ℕ) (ws : List Waived) → AllByRecursion (WaivedBelow n) ws → list_any (λ w. w.number == n) ws ≡ false
not_waived_in n [] h = refl
not_waived_in n (w ∷ ws) h = rw (other_number w.number n h.0) (not_waived_in n ws h.1)

-- what isn't taken yet has no acts
pub no_acts : (start : Start) (log : Log) → IsExact start log → acts (length (jobs log)) log ≡ []
no_acts start log h = no_acts_in (length (jobs log)) (carried_slots log) (known start log h).of_carried

pub not_waived : (start : Start) (log : Log) → IsExact start log → is_waived log (length (jobs log)) ≡ false
not_waived start log h = not_waived_in (length (jobs log)) (waived_collections log) (known start log h).of_waived

abbrev collection : ℕ → ℕ → ℕ → ℕ → Job
collection number task release due = record { number = number; collects = true; task = task; release = release; due = due; ops = [] }

zero_apart : (k : ℕ) → 0 < k → (0 == k) ≡ false
zero_apart k h = grind (arith, nat_tests)
