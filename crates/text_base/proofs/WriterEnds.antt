-- Calls that write a text to one writer end in one way, except for memory and for where the writer fails.
use Rattle.std.proofs.Common.{◌≡◌, ◌⊎◌, inl, inr, ℕ, Bool, false, true, List, Option, Some, None, Result, Ok, Err, refl, sym, ap, ◌∙◌}
use Rattle.std.specs.Prelude.{◌↔◌, IfErr, OnOk}
use Rattle.std.specs.Io.KnownBytes.{Appends}
use Rattle.slot_types.specs.declared.refusals.Refusal.{Refusal}
use Rattle.slot_types.specs.declared.refusals.Refusal.TheVariants.{NoMemory, WriteFault}
use Rattle.text_base.specs.Flags.{KeepsFlag, SetsFlag}
use Rattle.text_base.specs.Writing.{EndsWriting, HaveOneEnd}

-- a text that is appended to known bytes leaves one text
pub appended : (text known : List ℕ) (old left right : Option (List ℕ)) → old ≡ Some known → Appends old left text → Appends old right text
    → left ≡ right
appended text known None left right is h h' = absurd (cc)
appended text known (Some k) None right is h h' = absurd h
appended text known (Some k) (Some a) None is h h' = absurd h'
appended text known (Some k) (Some a) (Some b) is h h' = ap (λ (l : List ℕ). Some l) (h ∙ sym h')

both_whole : (text known : List ℕ) (old left right : Option (List ℕ)) (one other : Result (Unit {0}) Refusal) → old ≡ Some known
    → OnOk one (Appends old left text) → OnOk other (Appends old right text) → OnOk one (OnOk other (left ≡ right))
both_whole text known old left right (Ok a) (Ok b) is h h' = appended text known old left right is h h'
both_whole text known old left right (Ok a) (Err e) is h h' = tt
both_whole text known old left right (Err d) other is h h' = tt

one_or_fault : (one other : Result (Unit {0}) Refusal) → IfErr one (λ r. (r ≡ NoMemory) ⊎ (r ≡ WriteFault))
    → IfErr other (λ r. (r ≡ NoMemory) ⊎ (r ≡ WriteFault))
    → (one ≡ other) ⊎ (one ≡ Err NoMemory) ⊎ (one ≡ Err WriteFault) ⊎ (other ≡ Err NoMemory) ⊎ (other ≡ Err WriteFault)
one_or_fault (Ok a) (Ok b) r r' = inl refl
one_or_fault (Err d) other (inl m) r' = inr (inl (ap Err m))
one_or_fault (Err d) other (inr f) r' = inr (inr (inl (ap Err f)))
one_or_fault (Ok a) (Err e) r (inl m) = inr (inr (inr (inl (ap Err m))))
one_or_fault (Ok a) (Err e) r (inr f) = inr (inr (inr (inr (ap Err f))))

-- whether the flag was set tells which answer it was, except for memory

pub fresh_flag : (old new : Option Bool) → old ≡ Some false → KeepsFlag old new → new ≡ Some false
fresh_flag None new is h = absurd (cc is)
fresh_flag (Some flag) new is h = h ∙ is

pub set_flag : (old new : Option Bool) → old ≡ Some false → SetsFlag old new → new ≡ Some true
set_flag None new is h = absurd (cc is)
set_flag (Some flag) new is h = h

pub no_flag : (new : Option Bool) → new ≡ Some false → new ≡ Some true → ⊥
no_flag new kept set = absurd (cc (sym kept ∙ set))

module _ {W : Type 0} (has_failed : W → Option Bool) (before : W) (fresh : has_failed before ≡ Some false) where
  abbrev EndsSo : W → Result (Unit {0}) Refusal → Type 0
  EndsSo left one = ((one ≡ Err NoMemory) × (has_failed left ≡ Some false)) ⊎ ((one ≡ Err WriteFault) × (has_failed left ≡ Some true))
      ⊎ ((one ≡ Ok tt) × (has_failed left ≡ Some false))

  ends_so : (left : W) (one : Result (Unit {0}) Refusal) → OnOk one (KeepsFlag (has_failed before) (has_failed left))
      → (one ≡ Err NoMemory → left ≡ before) → (one ≡ Err WriteFault → SetsFlag (has_failed before) (has_failed left))
      → IfErr one (λ r. (r ≡ NoMemory) ⊎ (r ≡ WriteFault)) → EndsSo left one
  ends_so left (Ok a) h m p r = inr (inr (refl, fresh_flag (has_failed before) (has_failed left) fresh h))
  ends_so left (Err d) h m p (inl none) = inl (ap Err none, ap has_failed (m (ap Err none)) ∙ fresh)
  ends_so left (Err d) h m p (inr fault) =
      inr (inl (ap Err fault, set_flag (has_failed before) (has_failed left) fresh (p (ap Err fault))))

  one_by_flag : (left right : W) (one other : Result (Unit {0}) Refusal) → EndsSo left one → EndsSo right other
      → has_failed left ≡ has_failed right → (one ≡ other) ⊎ (one ≡ Err NoMemory) ⊎ (other ≡ Err NoMemory)
  one_by_flag left right one other (inl none) k same = inr (inl none.0)
  one_by_flag left right one other (inr h) (inl none) same = inr (inr none.0)
  one_by_flag left right one other (inr (inl h)) (inr (inl k)) same = inl (h.0 ∙ sym k.0)
  one_by_flag left right one other (inr (inr h)) (inr (inr k)) same = inl (h.0 ∙ sym k.0)
  one_by_flag left right one other (inr (inl h)) (inr (inr k)) same = absurd (no_flag (has_failed right) k.1 (sym same ∙ h.1))
  one_by_flag left right one other (inr (inr h)) (inr (inl k)) same = absurd (no_flag (has_failed left) h.1 (same ∙ k.1))

  fault_by_flag : (left : W) (one : Result (Unit {0}) Refusal) → EndsSo left one → (one ≡ Err WriteFault) ↔ (has_failed left ≡ Some true)
  fault_by_flag left one (inl h) = (λ is. absurd (cc (sym h.0 ∙ is)), λ set. absurd (no_flag (has_failed left) h.1 set))
  fault_by_flag left one (inr (inl h)) = (λ is. h.1, λ set. h.0)
  fault_by_flag left one (inr (inr h)) = (λ is. absurd (cc (sym h.0 ∙ is)), λ set. absurd (no_flag (has_failed left) h.1 set))

pub one_end : {W : Type 0} (contents : W → Option (List ℕ)) (has_failed : W → Option Bool) (text : List ℕ) (old left right : W)
    (one other : Result (Unit {0}) Refusal) → EndsWriting contents has_failed text old one left
    → EndsWriting contents has_failed text old other right → HaveOneEnd contents has_failed old one other left right
one_end contents has_failed text old left right one other h k = record {
  text = λ known is. both_whole text known (contents old) (contents left) (contents right) one other is h.written k.written;
  memory = λ none none'. h.memory none ∙ sym (k.memory none');
  answers = one_or_fault one other h.refused k.refused;
  fault = λ fresh. fault_by_flag has_failed old fresh left one (ends_so has_failed old fresh left one h.works h.memory h.failed h.refused);
  flagged = λ fresh. one_by_flag has_failed old fresh left right one other
      (ends_so has_failed old fresh left one h.works h.memory h.failed h.refused)
      (ends_so has_failed old fresh right other k.works k.memory k.failed k.refused);
}
