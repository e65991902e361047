-- What is said of a script's text is said of the script that was read.
use Rattle.std.proofs.Common.{ℕ, Bool, true, false, List, Option}
use Rattle.slot_types.specs.declared.plans.DiePlan.{DiePlan}
use Rattle.plan_texts.specs.PlanReading.{IsStoreOf}
use Rattle.terms_texts.specs.TermsReading.{IsStoreOf as IsTermsStoreOf}
use Rattle.terms_texts.specs.declared.stores.DieTerms.{DieTerms}
use Rattle.flashplan_keeping.specs.Verdicts.{IsFrontOf}
use Rattle.flashplan_commands.specs.Acts.{BreaksPlans, BreaksTerms, KeepsPlans, KeepsTerms, SaysKept, SaysTermsKept, SaysTimesKept}
use Rattle.flashplan_commands.specs.PlanKinds.{IsOfKind}
use Rattle.flashplan_commands.proofs.PlansRead.{with-terms, without-terms}

pub says-times : (plan script : Option (List ℕ)) (slots : ℕ) (store : List DiePlan) (text : List ℕ) (keeps : Bool) → IsOfKind plan false
    → IsStoreOf plan store → IsFrontOf script text → SaysTimesKept store slots text keeps → SaysKept plan script slots keeps
says-times plan script slots store text true kind read whole said =
    without-terms plan (KeepsTerms plan script slots) (KeepsPlans plan script slots) kind
    (record { store = store; read = read; text = text; whole = whole; planned = said })
says-times plan script slots store text false kind read whole (die, breach, broken) =
    without-terms plan (BreaksTerms plan script slots) (BreaksPlans plan script slots) kind
    (record { store = store; read = read; text = text; whole = whole; die = die; breach = breach; broken = broken })

pub says-terms : (plan script : Option (List ℕ)) (slots : ℕ) (store : List DieTerms) (text : List ℕ) (keeps : Bool) → IsOfKind plan true
    → IsTermsStoreOf plan store → IsFrontOf script text → SaysTermsKept store slots text keeps → SaysKept plan script slots keeps
says-terms plan script slots store text true kind read whole said =
    with-terms plan (KeepsTerms plan script slots) (KeepsPlans plan script slots) kind
    (record { store = store; read = read; text = text; whole = whole; kept = said })
says-terms plan script slots store text false kind read whole (die, breach, broken, before) =
    with-terms plan (BreaksTerms plan script slots) (BreaksPlans plan script slots) kind
    (record { store = store; read = read; text = text; whole = whole; die = die; breach = breach; broken = broken; before = before })
