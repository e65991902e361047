-- What a step does to the records that are left.
use Rattle.std.proofs.Common.{◌≡◌, ℕ, List, ◌∷◌, Bool, true, false, Option, Some, None, Result, Ok, Err, refl, sym, ap}
use Rattle.std.proofs.Common.{◌∙◌, inl, inr}
use Rattle.std.specs.Prelude.{option_map, OnOk, IfErr, IfSome, ◌+◌}
use Rattle.slot_types.specs.declared.refusals.Refusal.{Refusal}
use Rattle.text_base.specs.Readings.{IsOutside}
use Rattle.report_texts.specs.RecordsLeft.{Loses, Stays, hand_of, with_fit, with_hand}
use Rattle.text_base.specs.CsvRecordsLeft.{KeepsFit}
use Rattle.report_texts.specs.ReportOf.{Reading, Reads}
use Rattle.text_base.specs.CsvRecords.{Fields, TakesRow}

-- the first record is taken to hand
pub hand-taken : (left new : Option (List Fields)) (found : Bool) (fields : Fields) → TakesRow left new found fields
    → Stays left (with_hand found fields new)
hand-taken None new found fields takes = tt
hand-taken (Some rows) new true fields takes = rw (takes.1, takes.2) refl
hand-taken (Some rows) new false fields takes = rw takes refl

-- the record at hand is freed for the next one
pub hand-lost : (left new : Option (List Fields)) (had found : Bool) (fields next : Fields) → had ≡ true → TakesRow left new found next
    → Loses (with_hand had fields left) (with_hand found next new)
hand-lost None new had found fields next yes_had takes = rw yes_had tt
hand-lost (Some rows) new had true fields next yes_had takes = rw (yes_had, takes.1, takes.2) refl
hand-lost (Some rows) new had false fields next yes_had takes = rw (yes_had, takes) refl

-- a refusal that is none of the text
pub reads-outside : {A : Type 0} (before : List Fields → Reading) (after : A → List Fields → Reading) (old new : Option (List Fields))
    (e : Refusal)
    → IsOutside e → Reads before after old new (Err e)
reads-outside before after None new e out = tt
reads-outside before after (Some records) new e out = inl out

-- no record is taken
pub reads-same : {A : Type 0} (before : List Fields → Reading) (after : A → List Fields → Reading) (left : Option (List Fields)) (x : A)
    → ((records : List Fields) → before records ≡ after x records) → Reads before after left left (Ok x)
reads-same before after None x same = tt
reads-same before after (Some records) x same = (records, refl, same records)

-- the record at hand is taken
pub reads-next : {A : Type 0} (before : List Fields → Reading) (after : A → List Fields → Reading) (found : Bool) (fields fields2 : Fields)
    (left new : Option (List Fields)) (x : A)
    → hand_of found fields ≡ Some fields2 → Loses (with_hand found fields left) new
    → ((rest : List Fields) → before (fields2 ∷ rest) ≡ after x rest)
    → Reads before after (with_hand found fields left) new (Ok x)
reads-next before after false fields fields2 left new x at loses same = absurd (cc at)
reads-next before after true fields fields2 None new x at loses same = tt
reads-next before after true fields fields2 (Some rest) new x at loses same =
    let is : fields ≡ fields2 = cc at in
    (rest, loses, ap (λ f. before (f ∷ rest)) is ∙ same rest)

-- the record at hand is taken, if the next one can be read
pub reads-advance : (before : List Fields → Reading) (after : ℕ → List Fields → Reading) (found : Bool) (own fields : Fields)
    (left new : Option (List Fields)) (line line2 : ℕ) (r : Result (Unit {0}) Refusal)
    → hand_of found own ≡ Some fields → OnOk r (Loses (with_hand found own left) new) → OnOk r (line2 ≡ line + 1) → IfErr r IsOutside
    → ((rest : List Fields) → before (fields ∷ rest) ≡ after (line + 1) rest)
    → Reads before (λ (u : Unit {0}). after line2) (with_hand found own left) new r
reads-advance before after found own fields left new line line2 (Ok u) at loses next out same =
    reads-next before (λ (v : Unit {0}). after line2) found own fields left new u at loses (λ rest. rw next (same rest))
reads-advance before after found own fields left new line line2 (Err e) at loses next out same =
    reads-outside before (λ (v : Unit {0}). after line2) (with_hand found own left) new e out

-- the record at hand breaks the report
pub reads-broken : {A : Type 0} (before : List Fields → Reading) (after : A → List Fields → Reading) (found : Bool)
    (fields fields2 : Fields) (left new : Option (List Fields)) (e : Refusal)
    → hand_of found fields ≡ Some fields2 → ((rest : List Fields) → before (fields2 ∷ rest) ≡ Err e)
    → Reads before after (with_hand found fields left) new (Err e)
reads-broken before after false fields fields2 left new e at bad = absurd (cc at)
reads-broken before after true fields fields2 None new e at bad = tt
reads-broken before after true fields fields2 (Some rest) new e at bad =
    let is : fields ≡ fields2 = cc at in
    inr (ap (λ f. before (f ∷ rest)) is ∙ bad rest)

-- what was read so far, and then a call
pub reads-on : {A : Type 0} (before here : List Fields → Reading) (after : A → List Fields → Reading)
    (left0 left new : Option (List Fields)) (r : Result A Refusal)
    → Stays (option_map before left0) (option_map here left) → Reads here after left new r → Reads before after left0 new r
reads-on before here after None left new r so-far step = tt
reads-on before here after (Some records) None new r so-far step = absurd (cc so-far)
reads-on before here after (Some records) (Some more) new (Ok x) so-far step =
    let same : here more ≡ before records = cc so-far in
    (step.0, step.1, sym same ∙ step.2)
reads-on before here after (Some records) (Some more) new (Err e) so-far (inl out) = inl out
reads-on before here after (Some records) (Some more) new (Err e) so-far (inr bad) =
    let same : here more ≡ before records = cc so-far in
    inr (sym same ∙ bad)

-- Whether a text fits its bound

-- what is known stays, from step to step
pub stays-then : (a b c : Option Bool) → Stays a b → Stays b c → Stays a c
stays-then None b c one two = tt
stays-then (Some fits) b c one two = rw one at two

pub fit-taken : (left new : Option Bool) (found : Bool) → KeepsFit left new found → Stays left (with_fit found new)
fit-taken None new found keeps = tt
fit-taken (Some fits) new true keeps = keeps
fit-taken (Some fits) new false keeps = rw keeps refl

pub fit-lost : (left new : Option Bool) (had found : Bool) → had ≡ true → KeepsFit left new found
    → Stays (with_fit had left) (with_fit found new)
fit-lost left new had found yes_had keeps = rw yes_had (fit-taken left new found keeps)

-- what fits after some steps fits as a whole
pub fit-on : {A : Type 0} (r : Result A Refusal) (a b : Option Bool) → Stays a b → OnOk r (IfSome b (λ fit. fit ≡ true))
    → OnOk r (IfSome a (λ fit. fit ≡ true))
fit-on (Err e) a b stays fit = tt
fit-on (Ok x) None b stays fit = tt
fit-on (Ok x) (Some own) b stays fit = rw stays at fit

-- The text

-- what the records of a known text say, the text says
pub text-left : {A X Y : Type 0} (rows : A → X) (before : X → Y) (text : Option A) (left : Option X) → left ≡ option_map rows text
    → option_map before left ≡ option_map (λ t. before (rows t)) text
text-left rows before None left is = rw is refl
text-left rows before (Some t) left is = rw is refl
