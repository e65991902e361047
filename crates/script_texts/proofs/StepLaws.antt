-- How a row follows from the records.
use Rattle.std.proofs.Common.{◌≡◌, ◌≢◌, ℕ, ◌+◌, List, true, false, Option, Some, None, Result, Ok, Err, refl, ap, ◌∙◌, ◌<◌, ◌==◌}
use Rattle.std.proofs.Common.{inl, inr, max, arith}
use Rattle.std.proofs.lemmas.Bool.{ne_eqb}
use Rattle.std.specs.Prelude.{nat_lt}
use Rattle.slot_types.specs.declared.refusals.Refusal.{Refusal}
use Rattle.script_texts.specs.declared.script_rows.RowHead.{RowHead}
use Rattle.script_texts.specs.ScriptHeader.{is_script_header}
use Rattle.script_texts.specs.RowTexts.{RowText, row_text}
use Rattle.script_texts.specs.ScriptRows.{head_of}
use Rattle.text_base.specs.Fields.{field_or}
use Rattle.text_base.specs.CsvRecords.{Fields, TakesRow}
use Rattle.script_texts.specs.Script.{Reading, StepOf, after_row, rows_from, script_from, script_at}

-- the record is a row
pub step-row : (slots : ℕ) (lasts : List ℕ) (line : ℕ) (old new : Option (List Fields)) (f : Fields) (head : RowHead)
    → TakesRow old new true f
    → nat_lt 1000001 line ≡ false → Ok head ≡ head_of slots lasts line f
    → StepOf (rows_from slots lasts line) (λ y. rows_from slots (after_row lasts y) (line + 1)) old new
    (Ok (Some (row_text head (field_or f 6))))
unfolding rows_from
step-row slots lasts line None new f head h low is = tt
step-row slots lasts line (Some rows) new f head h low is = (h.0, h.1, rw (h.2, low, ← is) refl)

-- the first record is the header, and the step is that of the second
pub step-header : (slots : ℕ) (lasts : List ℕ) (after : RowText → List Fields → Reading RowText) (old mid new : Option (List Fields)) (f : Fields)
    (r : Result (Option RowText) Refusal) → TakesRow old mid true f
    → is_script_header f ≡ true → StepOf (rows_from slots lasts 2) after mid new r → StepOf (script_from slots lasts) after old new r
step-header slots lasts after None mid new f r h is step = tt
step-header slots lasts after (Some rows) mid new f (Ok None) h is step = rw (h.2, is) (rw h.1 at step)
step-header slots lasts after (Some rows) mid new f (Ok (Some x)) h is step = let s = rw h.1 at step in (s.0, s.1, rw (h.2, is) s.2)
step-header slots lasts after (Some rows) mid new f (Err e) h is step = rw (h.2, is) (rw h.1 at step)

-- a step by other words for the same
same_step : (b b2 : List Fields → Reading RowText) (a a2 : RowText → List Fields → Reading RowText) (old new : Option (List Fields))
    (r : Result (Option RowText) Refusal)
    → ((rows : List Fields) → b2 rows ≡ b rows) → a ≡ a2 → StepOf b a old new r → StepOf b2 a2 old new r
same_step b b2 a a2 None new r e f step = tt
same_step b b2 a a2 (Some rows) new (Ok None) e f step = e rows ∙ step
same_step b b2 a a2 (Some rows) new (Ok (Some x)) e f step = (step.0, step.1, e rows ∙ step.2 ∙ rw f refl)
same_step b b2 a a2 (Some rows) new (Err e2) e f (inl out) = inl out
same_step b b2 a a2 (Some rows) new (Err e2) e f (inr step) = inr (e rows ∙ step)

-- the step from the first record, and from a later one
pub step-one : (slots : ℕ) (lasts : List ℕ) (line : ℕ) (old new : Option (List Fields)) (r : Result (Option RowText) Refusal) → line ≡ 1
    → StepOf (script_from slots lasts) (λ x. rows_from slots (after_row lasts x) 3) old new r
    → StepOf (script_at slots lasts line) (λ x. rows_from slots (after_row lasts x) (max line 2 + 1)) old new r
step-one slots lasts line old new r one step = rw one step

pub step-more : (slots : ℕ) (lasts : List ℕ) (line : ℕ) (old new : Option (List Fields)) (r : Result (Option RowText) Refusal) → line ≢ 1
    → 0 < line
    → StepOf (rows_from slots lasts line) (λ x. rows_from slots (after_row lasts x) (line + 1)) old new r
    → StepOf (script_at slots lasts line) (λ x. rows_from slots (after_row lasts x) (max line 2 + 1)) old new r
step-more slots lasts line old new r more counted step =
    let same : line ≡ max line 2 = omega arith in
    let other : (line == 1) ≡ false = ne_eqb line 1 more in
    same_step (rows_from slots lasts line) (script_at slots lasts line) (λ x. rows_from slots (after_row lasts x) (line + 1)) _ old new r
    (λ rows. rw other refl) (ap (λ n. λ (x : RowText). rows_from slots (after_row lasts x) (n + 1)) same) step
