-- What the cells of a die need of its accounts, after a log.
use Rattle.std.proofs.Common.{◌≡◌, ℕ, true, Some, None}
use Rattle.die_log.specs.Model.Log.{Log, Job, Carried, work}
use Rattle.die_log.specs.Model.Answers.{choice, victim}
use Rattle.die_log.specs.Results.Legal.{FindsFree}
use Rattle.die_log.specs.Model.Start.{Start}

-- what a slot carries finds a free page where it programs one
abbrev pub FindsBy : Start → Log → Carried → Type 0
FindsBy start past None = Unit {0}
FindsBy start past (Some (number, act)) = FindsFree start past act

-- a collection that is the head of the next slot, and has not begun, finds a block
abbrev pub FindsVictim : Start → Log → Type 0
FindsVictim start past = (j : Job) → (choice start past).head ≡ Some j → j.collects ≡ true → work j.number past ≡ 0 → (b : ℕ)
    × (victim start past ≡ Some b)
