-- What is printed of a cut in one call, or in each, is how the command ends.
use Rattle.std.proofs.Common.{◌≡◌, ◌⊎◌, ℕ, zero, suc, refl, sym, subst, inl, inr, Bool, List, Option, Result, Ok, Err, IfOk, OnErr}
use Rattle.text_base.specs.Writing.{IsNotWhole}
use Rattle.flashplan_words.specs.declared.asked.Leftover.{Leftover}
use Rattle.flashplan_power_cuts.specs.declared.told.Told.{Told}
use Rattle.flashplan_commands.specs.Acts.{Says}
use Rattle.flashplan_commands.specs.CutActs.{CutStatus, EndsCut, PrintsCut, PrintsCutting, PrintsEach, cut_named}

-- none is named

pub each_printed : {E : Type 0} (plan script : Option (List ℕ)) (slots die at : ℕ) (named : Option Leftover) (looks : ℕ)
    (old new : Option (List ℕ)) (ran : Result Told E) → at ≡ 0
    → IfOk ran (λ (told : Told). PrintsEach plan script slots die told.right old new)
    → IfOk ran (λ (told : Told). PrintsCutting plan script slots die at named looks told.right old new)
each_printed plan script slots die at named looks old new ran none printed =
    subst (λ (k : ℕ). IfOk ran (λ (told : Told). PrintsCutting plan script slots die k named looks told.right old new)) (sym none) printed

pub each_part : {W E : Type 0} (contents : W → Option (List ℕ)) (has_failed : W → Option Bool) (plan script : Option (List ℕ))
    (slots die at : ℕ) (named : Option Leftover) (looks : ℕ) (old new : W) (ran : Result Told E) → at ≡ 0
    → OnErr ran (IsNotWhole contents has_failed (Says (PrintsEach plan script slots die)) old new)
    → OnErr ran (IsNotWhole contents has_failed (Says (PrintsCutting plan script slots die at named looks)) old new)
each_part contents has_failed plan script slots die at named looks old new ran none part =
    subst (λ (k : ℕ). OnErr ran (IsNotWhole contents has_failed (Says (PrintsCutting plan script slots die k named looks)) old new))
    (sym none) part

-- one is named

pub one_printed : {E : Type 0} (plan script : Option (List ℕ)) (slots die at : ℕ) (named : Option Leftover) (looks : ℕ)
    (old new : Option (List ℕ)) (ran : Result Told E) → (at ≡ 0 → ⊥)
    → IfOk ran (λ (told : Told). PrintsCut plan script slots (cut_named die at named looks) told.right old new)
    → IfOk ran (λ (told : Told). PrintsCutting plan script slots die at named looks told.right old new)
one_printed plan script slots die zero named looks old new ran some printed = absurd (some refl)
one_printed plan script slots die (suc at) named looks old new ran some printed = printed

pub one_part : {W E : Type 0} (contents : W → Option (List ℕ)) (has_failed : W → Option Bool) (plan script : Option (List ℕ))
    (slots die at : ℕ) (named : Option Leftover) (looks : ℕ) (old new : W) (ran : Result Told E) → (at ≡ 0 → ⊥)
    → OnErr ran (IsNotWhole contents has_failed (Says (PrintsCut plan script slots (cut_named die at named looks))) old new)
    → OnErr ran (IsNotWhole contents has_failed (Says (PrintsCutting plan script slots die at named looks)) old new)
one_part contents has_failed plan script slots die zero named looks old new ran some part = absurd (some refl)
one_part contents has_failed plan script slots die (suc at) named looks old new ran some part = part

pub ends_cut : {W E : Type 0} (contents : W → Option (List ℕ)) (has_failed : W → Option Bool)
    (prints : Bool → Option (List ℕ) → Option (List ℕ) → Type 0) (old new : W) (ran : Result Told E) (status : ℕ)
    → IfOk ran (λ (told : Told). prints told.right (contents old) (contents new))
    → OnErr ran (IsNotWhole contents has_failed (Says prints) old new)
    → IfOk ran (λ (told : Told). CutStatus told.right status) → OnErr ran ((status ≡ 1) ⊎ (status ≡ 3))
    → EndsCut contents has_failed prints old new status
ends_cut contents has_failed prints old new (Ok told) status printed part done refused = inl (told.right, printed, done)
ends_cut contents has_failed prints old new (Err e) status printed part done refused = inr (part, refused)
