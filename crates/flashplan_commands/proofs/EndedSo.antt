-- What was printed or refused is how a command ends.
use Rattle.std.proofs.Common.{◌≡◌, ℕ, Bool, true, false, List, Option, Some, None, Result, Ok, Err, IfOk, IfSome, OnErr, OnOk, is_ok, inl, inr}
use Rattle.std.proofs.Common.{subst, sym, ◌∙◌}
use Rattle.std.specs.Prelude.{if◌then◌else◌, take, ◌++◌}
use Rattle.slot_types.specs.declared.refusals.Refusal.{Refusal}
use Rattle.text_base.specs.Writing.{IsNotWhole}
use Rattle.flashplan_design.specs.declared.explained.Explained.{Explained}
use Rattle.flashplan_fit.specs.Fits.{IsPlanFor}
use Rattle.flashplan_fit.specs.declared.faults.FitFault.{FitFault}
use Rattle.flashplan_fit.specs.declared.faults.FitFault.TheVariants.{NotFound, Refused, Sheet}
use Rattle.flashplan_commands.specs.Acts.{Ends, EndsFit, EndsSaying, IsFoundFor, IsReadOf, IsSlotFor, IsUnfound, PrintsPlanFor, Says, SaysOf, SaysTested, SaysText}
use Rattle.flashplan_commands.specs.Acts.{accepted_status, explained_status, fit_status, kept_status, verdict_status}

pub ends : {W A E : Type 0} (contents : W → Option (List ℕ)) (has_failed : W → Option Bool)
    (prints : Option (List ℕ) → Option (List ℕ) → Type 0) (old new : W) (ran : Result A E) (status : ℕ) → OnOk ran (prints (contents old) (contents new)) → OnErr ran (IsNotWhole contents has_failed prints old new)
    → status ≡ (if is_ok ran then 0 else 1) → Ends contents has_failed prints old new status
ends contents has_failed prints old new (Ok x) status printed part is = inl (printed, is)
ends contents has_failed prints old new (Err e) status printed part is = inr (part, is)

pub ends_explained : {W E : Type 0} (contents : W → Option (List ℕ)) (has_failed : W → Option Bool)
    (prints : Bool → Option (List ℕ) → Option (List ℕ) → Type 0) (old new : W) (said : Result Bool E) (status : ℕ) → IfOk said (λ (yes : Bool). prints yes (contents old) (contents new))
    → OnErr said (IsNotWhole contents has_failed (Says prints) old new) → status ≡ explained_status said
    → EndsSaying contents has_failed prints accepted_status old new status
ends_explained contents has_failed prints old new (Ok true) status printed part is = inl (true, printed, is)
ends_explained contents has_failed prints old new (Ok false) status printed part is = inl (false, printed, is)
ends_explained contents has_failed prints old new (Err e) status printed part is = inr (part, is)

pub ends_kept : {W E : Type 0} (contents : W → Option (List ℕ)) (has_failed : W → Option Bool)
    (prints : Bool → Option (List ℕ) → Option (List ℕ) → Type 0) (old new : W) (kept : Result Bool E) (status : ℕ)
    → IfOk kept (λ (yes : Bool). prints yes (contents old) (contents new)) → OnErr kept (IsNotWhole contents has_failed (Says prints) old new) → status ≡ kept_status kept
    → EndsSaying contents has_failed prints verdict_status old new status
ends_kept contents has_failed prints old new (Ok true) status printed part is = inl (true, printed, is)
ends_kept contents has_failed prints old new (Ok false) status printed part is = inl (false, printed, is)
ends_kept contents has_failed prints old new (Err e) status printed part is = inr (part, is)

pub ends_fit : {W : Type 0} (contents : W → Option (List ℕ)) (has_failed : W → Option Bool) (sheet : Option (List ℕ)) (old new : W)
    (fitted : Result (Unit {0}) FitFault) (status : ℕ)
    → OnOk fitted (PrintsPlanFor sheet (contents old) (contents new))
    → OnErr fitted (IsNotWhole contents has_failed (PrintsPlanFor sheet) old new)
    → (IsUnfound fitted → new ≡ old) → status ≡ fit_status fitted → EndsFit contents has_failed sheet old new status
ends_fit contents has_failed sheet old new (Ok x) status printed part unfound is = inl (inl (printed, is))
ends_fit contents has_failed sheet old new (Err (NotFound reason)) status printed part unfound is = inr (unfound tt, is)
ends_fit contents has_failed sheet old new (Err (Refused refusal)) status printed part unfound is = inl (inr (part, is))
ends_fit contents has_failed sheet old new (Err (Sheet fault)) status printed part unfound is = inl (inr (part, is))

pub found_for : (sheet : Option (List ℕ)) (text plan : List ℕ) → IsReadOf sheet text → IsPlanFor text plan → IsFoundFor sheet plan
found_for sheet text plan read found = record { text = text; read = read; found = found }

-- what is said of the text that was read is said of the plan's text
pub says_of : (asked : Option ℕ) (text : Option (List ℕ)) (read shown : List ℕ) (said : Result Explained Refusal)
    → IfSome text (λ bytes. read ≡ take 1048577 bytes) → shown ≡ read
    → IfOk said (λ (e : Explained). SaysText asked shown e.is_accepted e.text.items)
    → IfOk said (λ (e : Explained). SaysOf asked text e.is_accepted e.text.items)
says_of asked None read shown (Ok e) is same says = tt
says_of asked (Some bytes) read shown (Ok e) is same says =
    subst (λ (l : List ℕ). SaysText asked l e.is_accepted e.text.items) (same ∙ is) says
says_of asked text read shown (Err r) is same says = tt

-- what the tests answer, with lines after it
pub said_whole : (asked : Option ℕ) (plan : List ℕ) (slot_us : Option ℕ) (answered : Explained) (lives : List ℕ) (whole : Result Explained Refusal)
    → IsSlotFor asked plan slot_us → SaysTested slot_us plan answered.is_accepted answered.text.items
    → IfOk whole (λ (w : Explained). w.is_accepted ≡ answered.is_accepted)
    → IfOk whole (λ (w : Explained). w.text.items ≡ answered.text.items ++ lives)
    → IfOk whole (λ (w : Explained). SaysText asked plan w.is_accepted w.text.items)
said_whole asked plan slot_us answered lives (Ok w) slot tested verdict text = record {
  slot_us = slot_us;
  slot = slot;
  answered = answered.text.items;
  tested = subst (λ (yes : Bool). SaysTested slot_us plan yes answered.text.items) (sym verdict) tested;
  lives = lives;
  is = text;
}
said_whole asked plan slot_us answered lives (Err r) slot tested verdict text = tt
