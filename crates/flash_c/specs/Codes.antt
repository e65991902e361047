-- The numbers of refusals as C has them.
use Rattle.std.specs.Prelude.{ℕ, ◌+◌, Option, Some, None}
use Rattle.slot_types.specs.Refusal.{number_of}
use Rattle.slot_types.specs.declared.refusals.Refusal.TheVariants.{BadPage, ReleasePast, NoTokens}
use Rattle.slot_core.specs.declared.renewals.RenewalRefusal.TheVariants.{DieStopped, NotQuiet, WornOut}
use Rattle.late_cert.specs.declared.verdicts.Verdict.{Verdict}
use Rattle.late_cert.specs.Verdict.{fault_number}
use Rattle.stepped_die.specs.declared.refusals.StepRefusal.{StepRefusal}
use Rattle.stepped_die.specs.declared.refusals.StepRefusal.TheVariants as steps
use Rattle.stepped_die.specs.declared.refusals.StepRenewalRefusal.{StepRenewalRefusal}
use Rattle.stepped_die.specs.declared.refusals.StepRenewalRefusal.TheVariants as renewals
use Rattle.flash_c.specs.declared.shapes.FlashWhy.{FlashWhy}

-- the number of a refusal: the store's own, or 100 and more
abbrev pub code_of : StepRefusal → ℕ
code_of (steps.Die refusal) = number_of refusal
code_of steps.Begun = 100
code_of steps.NotBegun = 101
code_of steps.CheckpointStands = 115

abbrev pub two : ℕ → ℕ → FlashWhy
two first second = record { first = first; second = second }

-- the numbers that a refusal has
abbrev pub why_of : StepRefusal → FlashWhy
why_of (steps.Die (BadPage page)) = two page 0
why_of (steps.Die (ReleasePast now)) = two now 0
why_of (steps.Die (NoTokens have need)) = two have need
why_of _ = two 0 0

abbrev pub renewal_code : StepRenewalRefusal → ℕ
renewal_code (renewals.Die DieStopped) = 16
renewal_code (renewals.Die (NotQuiet job)) = 105
renewal_code (renewals.Die (WornOut block)) = 106
renewal_code renewals.Begun = 100

-- the job that a renewal waits for, or the block that is worn out
abbrev pub renewal_why : StepRenewalRefusal → FlashWhy
renewal_why (renewals.Die DieStopped) = two 0 0
renewal_why (renewals.Die (NotQuiet job)) = two job 0
renewal_why (renewals.Die (WornOut block)) = two block 0
renewal_why renewals.Begun = two 0 0

-- a certificate that holds is 0, and its faults are 201 to 207
abbrev pub code_by : Option ℕ → ℕ
code_by None = 0
code_by (Some fault) = 200 + fault

abbrev pub verdict_code : Verdict → ℕ
verdict_code verdict = code_by (fault_number verdict)
