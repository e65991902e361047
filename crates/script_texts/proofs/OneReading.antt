-- What is read next has one answer, and leaves one rest, unless memory or the reader fails.
use Rattle.std.proofs.Common.{◌≡◌, ◌⊎◌, inl, inr, List, [], ◌∷◌, Option, Some, None, Result, Ok, Err, refl, sym, ap, ◌∙◌}
use Rattle.std.specs.Prelude.{IfOk, IsErrAnd}
use Rattle.slot_types.specs.declared.refusals.Refusal.{Refusal}
use Rattle.text_base.specs.Readings.{IsOutside}
use Rattle.script_texts.specs.Script.{Gives, Reading, at_end, at_fault, with_first}

module _ {A : Type 0} where
  -- an end, a fault and an item are three things
  end_or_fault : (e : Refusal) (all : Reading A) → all ≡ at_end → all ≡ at_fault e → ⊥
  end_or_fault e all end is =
      let apart : ◌≡◌ {A = Option Refusal} None (Some e) = ap (λ (r : Reading A). r.fault) (sym end ∙ is) in absurd (cc)

  end_or_item : (x : A) (more all : Reading A) → all ≡ at_end → all ≡ with_first x more → ⊥
  end_or_item x more all end is =
      let apart : ◌≡◌ {A = List A} [] (x ∷ more.items) = ap (λ (r : Reading A). r.items) (sym end ∙ is) in absurd (cc)

  fault_or_item : (e : Refusal) (x : A) (more all : Reading A) → all ≡ at_fault e → all ≡ with_first x more → ⊥
  fault_or_item e x more all fault is =
      let apart : ◌≡◌ {A = List A} [] (x ∷ more.items) = ap (λ (r : Reading A). r.items) (sym fault ∙ is) in absurd (cc)

  one_fault : (d e : Refusal) (all : Reading A) → all ≡ at_fault d → all ≡ at_fault e → d ≡ e
  one_fault d e all is is' =
      let same : ◌≡◌ {A = Option Refusal} (Some d) (Some e) = ap (λ (r : Reading A). r.fault) (sym is ∙ is') in cc

  one_first : (x y : A) (more less all : Reading A) → all ≡ with_first x more → all ≡ with_first y less → x ≡ y
  one_first x y more less all is is' =
      let same : ◌≡◌ {A = List A} (x ∷ more.items) (y ∷ less.items) = ap (λ (r : Reading A). r.items) (sym is ∙ is') in cc

  one_rest : (x y : A) (more less all : Reading A) → all ≡ with_first x more → all ≡ with_first y less → more ≡ less
  one_rest x y more less all is is' =
      let same : ◌≡◌ {A = List A} (x ∷ more.items) (y ∷ less.items) = ap (λ (r : Reading A). r.items) (sym is ∙ is') in
      let items : more.items ≡ less.items = cc in
      let fault : more.fault ≡ less.fault = ap (λ (r : Reading A). r.fault) (sym is ∙ is') in
      λ i. record { items = items i; fault = fault i }

  -- one answer, and where it is no refusal one rest
  pub one_given : (all : Reading A) (new new' : Option (Reading A)) (one other : Result (Option A) Refusal) → Gives (Some all) new one
      → Gives (Some all) new' other
      → ((one ≡ other) × IfOk one (λ o. new ≡ new')) ⊎ IsErrAnd one IsOutside ⊎ IsErrAnd other IsOutside
  one_given all new new' (Err d) other (inl out) h' = inr (inl out)
  one_given all new new' (Err d) (Err e) (inr is) (inl out) = inr (inr out)
  one_given all new new' (Err d) (Err e) (inr is) (inr is') = inl (ap Err (one_fault d e all is is'), tt)
  one_given all new new' (Err d) (Ok None) (inr is) h' = absurd (end_or_fault d all h'.0 is)
  one_given all new new' (Err d) (Ok (Some y)) (inr is) (less, left, is') = absurd (fault_or_item d y less all is is')
  one_given all new new' (Ok None) (Err e) h (inl out) = inr (inr out)
  one_given all new new' (Ok None) (Err e) h (inr is') = absurd (end_or_fault e all h.0 is')
  one_given all new new' (Ok None) (Ok None) h h' = inl (refl, h.1 ∙ sym h'.1)
  one_given all new new' (Ok None) (Ok (Some y)) h (less, left, is') = absurd (end_or_item y less all h.0 is')
  one_given all new new' (Ok (Some x)) (Err e) h (inl out) = inr (inr out)
  one_given all new new' (Ok (Some x)) (Err e) (more, left, is) (inr is') = absurd (fault_or_item e x more all is' is)
  one_given all new new' (Ok (Some x)) (Ok None) (more, left, is) h' = absurd (end_or_item x more all h'.0 is)
  one_given all new new' (Ok (Some x)) (Ok (Some y)) (more, left, is) (less, left', is') =
      inl (
        ap (λ (z : A). Ok (Some z)) (one_first x y more less all is is'),
        left ∙ (ap (λ (r : Reading A). Some r) (one_rest x y more less all is is') ∙ sym left'),
      )
