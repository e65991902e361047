-- An outcome with the status of a refusal is one.
use Rattle.std.proofs.Common.{◌≡◌, ℕ, List, [], Bool, Option, Some, Result, Ok, Err, IfErr, OnErr, arith, inl, inr, sym, subst}
use Rattle.std.specs.Prelude.{IsErrAnd, length}
use Rattle.slot_types.specs.declared.plans.DiePlan.{DiePlan}
use Rattle.slot_types.specs.declared.refusals.Refusal.{Refusal}
use Rattle.slot_types.specs.declared.refusals.Refusal.TheVariants.{WriteFault}
use Rattle.plan_texts.specs.PlanReading.{IsStoreOf}
use Rattle.task_script.specs.Feeds.{RefusesScript}
use Rattle.task_script.specs.PlannedRuns.{RunsSo}
use Rattle.text_base.specs.Flags.{SetsFlag}
use Rattle.text_base.specs.Writing.{AppendsPart, IsCut, RefusesOrCuts}
use Rattle.flash_commands.specs.Acts.{IsFaultOf, IsRefusedFor, PrintsRun, PrintsSome, Refuses, RefusesRun}
use Rattle.flash_commands.specs.Faults.{outcome_status}
use Rattle.flash_commands.specs.declared.commands.Command.{Command}
use Rattle.flash_commands.specs.declared.faults.Fault.{Fault}
use Rattle.flash_commands.specs.declared.faults.Fault.TheVariants.{Certificate, NotText, Refused, Words}

-- what is said of it
pub refusal-of : (P : Refusal → Type 0) (done : Result (Unit {0}) Fault) → IfErr done (IsFaultOf P) → outcome_status done ≡ 1
    → (refusal : Refusal) × P refusal
refusal-of P (Ok x) p ends = absurd (omega (arith, ends))
refusal-of P (Err (Refused refusal)) p ends = (refusal, p)
refusal-of P (Err (Words error)) p ends = absurd p
refusal-of P (Err NotText) p ends = absurd p
refusal-of P (Err Certificate) p ends = absurd (omega (arith, ends))

cut-as : {W : Type 0} (contents : W → Option (List ℕ)) (has_failed : W → Option Bool) (P Q : Option (List ℕ) → Option (List ℕ) → Type 0)
    (old new : W) (refusal : Refusal) → ((a b : Option (List ℕ)) → P a b → Q a b) → IsCut contents has_failed P old new refusal
    → IsCut contents has_failed Q old new refusal
cut-as contents has_failed P Q old new refusal turn cut =
    let (whole, prints, part) = cut.part in
    record { refusal_is = cut.refusal_is; failed = cut.failed; part = (whole, turn (Some []) (Some whole) prints, part) }

refuses-as : {W : Type 0} (contents : W → Option (List ℕ)) (has_failed : W → Option Bool) (R S : Refusal → Type 0)
    (P Q : Option (List ℕ) → Option (List ℕ) → Type 0) (old new : W) (refusal : Refusal)
    → (R refusal → S refusal) → ((a b : Option (List ℕ)) → P a b → Q a b) → RefusesOrCuts contents has_failed R P old new refusal
    → RefusesOrCuts contents has_failed S Q old new refusal
refuses-as contents has_failed R S P Q old new refusal why turn (inl (refuses, same)) = inl (why refuses, same)
refuses-as contents has_failed R S P Q old new refusal why turn (inr cut) =
    inr (cut-as contents has_failed P Q old new refusal turn cut)

-- what is said of the refusal that a call hands on
pub if-error : {A E : Type 0} (r : Result A E) (e : E) (P : E → Type 0) → IsErrAnd r (λ f. f ≡ e) → P e → IfErr r P
if-error (Ok x) e P is p = absurd is
if-error (Err f) e P is p = subst P (sym is) p

-- a text that prints so was written, or cut
pub cuts : {W : Type 0} (contents : W → Option (List ℕ)) (has_failed : W → Option Bool) (R : Refusal → Type 0)
    (P : Option (List ℕ) → Option (List ℕ) → Type 0) (old new : W) (text : List ℕ) (done : Result (Unit {0}) Refusal)
    → P (Some []) (Some text) → IfErr done (λ r. r ≡ WriteFault) → OnErr done (SetsFlag (has_failed old) (has_failed new))
    → OnErr done (AppendsPart (contents old) (contents new) text) → IfErr done (RefusesOrCuts contents has_failed R P old new)
cuts contents has_failed R P old new text (Ok x) prints is failed part = tt
cuts contents has_failed R P old new text (Err e) prints is failed part =
    inr (record { refusal_is = is; failed = failed; part = (text, prints, part) })

-- the refusal of a command
pub refused-for : {W : Type 0} (contents : W → Option (List ℕ)) (has_failed : W → Option Bool) (c : Command)
    (first second : Option (List ℕ)) (old new : W)
    (P : Option (List ℕ) → Option (List ℕ) → Type 0) (done : Result (Unit {0}) Fault)
    → ((a b : Option (List ℕ)) → P a b → PrintsSome c first second a b)
    → IfErr done (IsFaultOf (RefusesOrCuts contents has_failed (Refuses c first second) P old new))
    → IfErr done (IsFaultOf (IsRefusedFor contents has_failed c first second old new))
refused-for contents has_failed c first second old new P (Ok x) turn refuses = tt
refused-for contents has_failed c first second old new P (Err (Refused refusal)) turn refuses =
    refuses-as contents has_failed (Refuses c first second) (Refuses c first second) P (PrintsSome c first second) old new refusal
    (λ why. why) turn refuses
refused-for contents has_failed c first second old new P (Err (Words error)) turn refuses = refuses
refused-for contents has_failed c first second old new P (Err NotText) turn refuses = refuses
refused-for contents has_failed c first second old new P (Err Certificate) turn refuses = tt

-- a run is refused as its script is, for the dies of the plan that was read
pub refuses-run : {W : Type 0} (contents : W → Option (List ℕ)) (has_failed : W → Option Bool) (plan script : Option (List ℕ)) (slots : ℕ)
    (store : List DiePlan) (old new : W) (refusal : Refusal) → IsStoreOf plan store
    → RefusesOrCuts contents has_failed (RefusesScript script (length store) slots) (RunsSo script store slots) old new refusal
    → RefusesOrCuts contents has_failed (RefusesRun plan script slots) (PrintsRun plan script slots) old new refusal
refuses-run contents has_failed plan script slots store old new refusal read refuses =
    refuses-as contents has_failed (RefusesScript script (length store) slots) (RefusesRun plan script slots) (RunsSo script store slots)
    (PrintsRun plan script slots) old new refusal (λ why. inr (store, read, why))
    (λ a b (count, planned). record { store = store; read = read; count = count; as_planned = planned }) refuses
