-- The next row or item of a script and what it leaves are one, unless memory or the reader fails.
use Rattle.std.proofs.Common.{◌≡◌, ◌⊎◌, inl, inr, ℕ, Bool, List, Option, Some, None, Result, Ok, Err, refl, sym, ap, ◌∙◌, subst}
use Rattle.std.specs.Prelude.{IfOk, IfSome, IsErrAnd, option_map}
use Rattle.slot_types.specs.declared.refusals.Refusal.{Refusal}
use Rattle.text_base.specs.Readings.{IsOutside}
use Rattle.script_texts.specs.declared.script_rows.ScriptItem.{ScriptItem}
use Rattle.script_texts.specs.declared.scripts.ScriptReader.{ScriptReader}
use Rattle.script_texts.specs.Script.{EndsFit, Gives, Reading, items_in, whole}
use Rattle.script_texts.specs.ScriptLeft.{Recalls, reading_left, script_fits, script_left, unless_refused}
use Rattle.script_texts.proofs.OneReading.{one_given}

-- after a refusal nothing is known
nothing_left : {A : Type 0} (r : Option Refusal) (e : Refusal) (known : Option A) → r ≡ Some e → unless_refused r known ≡ None
nothing_left None e known is = absurd (cc)
nothing_left (Some d) e known is = refl

was_refused : (r : Option Refusal) (e d : Refusal) → IfSome r (λ was. e ≡ was) → r ≡ Some d → e ≡ d
was_refused None e d same is = absurd (cc)
was_refused (Some r) e d same is = let at : ◌≡◌ {A = Option Refusal} (Some r) (Some d) = is in cc

-- Rows and items

-- two answers, and what is left
abbrev pub AreOne : {A X : Type 0} → Result (Option A) Refusal → Result (Option A) Refusal → X → X → Type 0
AreOne one other left right = ((one ≡ other) × (left ≡ right)) ⊎ IsErrAnd one IsOutside ⊎ IsErrAnd other IsOutside

module _ {R A : Type 0} (left_of : ScriptReader R → Option (Reading A))
    (silent : (s : ScriptReader R) (e : Refusal) → s.refused ≡ Some e → left_of s ≡ None) where
  left_alike : (before left right : ScriptReader R) (one other : Result (Option A) Refusal) → one ≡ other
      → IfOk one (λ o. left_of left ≡ left_of right) → Recalls before left one → Recalls before right other
      → left_of left ≡ left_of right
  left_alike before left right (Ok x) other same known h h' = known
  left_alike before left right (Err d) (Ok y) same known h h' = absurd (cc)
  left_alike before left right (Err d) (Err e) same known h h' = silent left d h.0 ∙ sym (silent right e h'.0)

  given_at : (old : Option (Reading A)) (all : Reading A) (new : Option (Reading A)) (one : Result (Option A) Refusal) → old ≡ Some all
      → Gives old new one → Gives (Some all) new one
  given_at old all new one is h = subst (λ (o : Option (Reading A)). Gives o new one) is h

  alike : (all : Reading A) (before left right : ScriptReader R) (one other : Result (Option A) Refusal)
      → left_of before ≡ Some all → Gives (left_of before) (left_of left) one → Gives (left_of before) (left_of right) other
      → Recalls before left one → Recalls before right other → AreOne one other (left_of left) (left_of right)
  alike all before left right one other is h h' k k' =
      by (one_given all (left_of left) (left_of right) one other (given_at (left_of before) all _ one is h)
      (given_at (left_of before) all _ other is h'))
    where
      by : ((one ≡ other) × IfOk one (λ o. left_of left ≡ left_of right)) ⊎ IsErrAnd one IsOutside ⊎ IsErrAnd other IsOutside
          → AreOne one other (left_of left) (left_of right)
      by (inl same) = inl (same.0, left_alike before left right one other same.0 same.1 k k')
      by (inr out) = inr out

module _ {R : Type 0} (rem : R → Option (List ℕ)) where
  pub items_alike : (all : Reading ScriptItem) (before left right : ScriptReader R) (one other : Result (Option ScriptItem) Refusal)
      → reading_left rem before ≡ Some all → Gives (reading_left rem before) (reading_left rem left) one
      → Gives (reading_left rem before) (reading_left rem right) other → Recalls before left one → Recalls before right other
      → AreOne one other (reading_left rem left) (reading_left rem right)
  items_alike = alike (reading_left rem) (λ s e is. ap (option_map items_in) (nothing_left s.refused e _ is))

  -- Items

  with_whole : (left right : ScriptReader R) (one other : Result (Option ScriptItem) Refusal)
      → AreOne one other (reading_left rem left) (reading_left rem right)
      → ((one ≡ other) × (reading_left rem left ≡ reading_left rem right) × (script_left rem left ≡ script_left rem right))
      ⊎ IsErrAnd one IsOutside ⊎ IsErrAnd other IsOutside
  with_whole left right one other (inl same) =
      inl (same.0, same.1, ap (λ (r : Option (Reading ScriptItem)). option_map whole r) same.1)
  with_whole left right one other (inr out) = inr out

  pub one_item : (all : Reading ScriptItem) (before left right : ScriptReader R) (one other : Result (Option ScriptItem) Refusal)
      → reading_left rem before ≡ Some all → Gives (reading_left rem before) (reading_left rem left) one
      → Gives (reading_left rem before) (reading_left rem right) other → Recalls before left one → Recalls before right other
      → ((one ≡ other) × (reading_left rem left ≡ reading_left rem right) × (script_left rem left ≡ script_left rem right))
      ⊎ IsErrAnd one IsOutside ⊎ IsErrAnd other IsOutside
  one_item all before left right one other is h h' k k' =
      with_whole left right one other (items_alike all before left right one other is h h' k k')

  fits_alike : {A : Type 0} (fits : Bool) (old new new' : Option Bool) (o : Option A) → old ≡ Some fits
      → EndsFit {A = A} old new (Ok o) → EndsFit {A = A} old new' (Ok o) → new ≡ new'
  fits_alike fits None new new' o is h h' = absurd (cc)
  fits_alike fits (Some f) new new' None is h h' = h.1 ∙ sym h'.1
  fits_alike fits (Some f) new new' (Some x) is h h' = h ∙ sym h'

  pub one_fit : {A : Type 0} (fits : Bool) (before left right : ScriptReader R) (answer : Result (Option A) Refusal)
      → script_fits rem before ≡ Some fits → EndsFit (script_fits rem before) (script_fits rem left) answer
      → EndsFit (script_fits rem before) (script_fits rem right) answer → Recalls before left answer → Recalls before right answer
      → script_fits rem left ≡ script_fits rem right
  one_fit fits before left right (Ok o) is h h' k k' = fits_alike fits (script_fits rem before) _ _ o is h h'
  one_fit fits before left right (Err e) is h h' k k' = nothing_left left.refused e _ k.0 ∙ sym (nothing_left right.refused e _ k'.0)

  recalled : (refusal : Refusal) (before left : ScriptReader R) (answer : Result (Option ScriptItem) Refusal)
      → before.refused ≡ Some refusal → Recalls before left answer → answer ≡ Err refusal
  recalled refusal before left (Ok x) is h = let none : before.refused ≡ None = h.0 in absurd (cc)
  recalled refusal before left (Err e) is h = ap Err (was_refused before.refused e refusal h.1 is)

  pub again : (refusal : Refusal) (earlier before left : ScriptReader R) (past answer : Result (Option ScriptItem) Refusal)
      → past ≡ Err refusal → Recalls earlier before past → Recalls before left answer → answer ≡ Err refusal
  again refusal earlier before left (Ok x) answer is h k = absurd (cc)
  again refusal earlier before left (Err e) answer is h k =
      let same : ◌≡◌ {A = Result (Option ScriptItem) Refusal} (Err e) (Err refusal) = is in
      let as_same : e ≡ refusal = cc in
      recalled refusal before left answer (h.0 ∙ ap (λ (r : Refusal). Some r) as_same) k
