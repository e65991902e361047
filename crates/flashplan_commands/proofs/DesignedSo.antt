-- A page that was printed or refused is how `design` ends.
use Rattle.std.proofs.Common.{◌≡◌, ℕ, Bool, List, Option, Result, Ok, Err, OnErr, OnOk, inl, inr}
use Rattle.text_base.specs.Writing.{IsNotWhole}
use Rattle.flashplan_design_pages.specs.Pages.{IsPageFor}
use Rattle.flashplan_fit.specs.declared.faults.FitFault.{FitFault}
use Rattle.flashplan_fit.specs.declared.faults.FitFault.TheVariants.{NotFound, Refused, Sheet}
use Rattle.flashplan_commands.specs.Acts.{EndsDesign, IsUnfound, fit_status}
use Rattle.flashplan_commands.specs.Designing.{IsDesignOf, PrintsDesign}
use Rattle.flashplan_commands.specs.PlanKinds.{IsReadOf}

pub ends_design : {W : Type 0} (contents : W → Option (List ℕ)) (has_failed : W → Option Bool) (sheet : Option (List ℕ)) (old new : W)
    (designed : Result (Unit {0}) FitFault) (status : ℕ)
    → OnOk designed (PrintsDesign sheet (contents old) (contents new))
    → OnErr designed (IsNotWhole contents has_failed (PrintsDesign sheet) old new)
    → (IsUnfound designed → new ≡ old) → status ≡ fit_status designed → EndsDesign contents has_failed sheet old new status
ends_design contents has_failed sheet old new (Ok x) status printed part unfound is = inl (inl (printed, is))
ends_design contents has_failed sheet old new (Err (NotFound reason)) status printed part unfound is = inr (unfound tt, is)
ends_design contents has_failed sheet old new (Err (Refused refusal)) status printed part unfound is = inl (inr (part, is))
ends_design contents has_failed sheet old new (Err (Sheet fault)) status printed part unfound is = inl (inr (part, is))

pub design_of : (sheet : Option (List ℕ)) (text page : List ℕ) → IsReadOf sheet text → IsPageFor text page → IsDesignOf sheet page
design_of sheet text page read designed = record { text = text; read = read; designed = designed }
