-- What a row of a script is refused for is a fault of its record, and never of a reader.
use Rattle.std.proofs.Common.{◌≡◌, ◌≢◌, ◌==◌, ℕ, Bool, true, false, List, Option, Some, None, Result, Ok, Err, ap, ◌∙◌, length}
use Rattle.std.specs.Prelude.{◌||◌, codes, nat_eq, nat_lt, option_and_then, slice_index, if◌then◌else◌}
use Rattle.std.specs.Cmp.Lexicographic.{pointwise}
use Rattle.csv.specs.Records.{field_at}
use Rattle.slot_types.specs.declared.refusals.Cause.{Cause}
use Rattle.slot_types.specs.declared.refusals.Cause.TheVariants as cause
use Rattle.slot_types.specs.declared.refusals.Refusal.{Refusal}
use Rattle.slot_types.specs.declared.refusals.Refusal.TheVariants.{ReadFault, ScriptRow}
use Rattle.text_base.specs.Number.{number_of}
use Rattle.text_base.specs.Readings.{◌>>=◌}
use Rattle.script_texts.specs.declared.script_rows.RowHead.{RowHead}
use Rattle.script_texts.specs.ScriptRows.{at_in, collects_at, die_in, fault, head_of, kind_or, number_at, or_fault}

of-record : {A : Type 0} (line : ℕ) (c : Cause) (e : Refusal) → fault {A = A} line c ≡ Err e → e ≢ ReadFault
of-record line c e is read =
    let same : ScriptRow line c ≡ e = cc in absurd (cc (same ∙ read))

then-of-record : {A B : Type 0} (r : Result A Refusal) (f : A → Result B Refusal) (e : Refusal) → (r ≡ Err e → e ≢ ReadFault)
    → ((x : A) → f x ≡ Err e → e ≢ ReadFault) → (r >>= f) ≡ Err e → e ≢ ReadFault
then-of-record (Ok x) f e first more is = more x is
then-of-record (Err d) f e first more is = first (let same : d ≡ e = cc in ap Err same)

or-of-record : {A : Type 0} (line : ℕ) (c : Cause) (found : Option A) (e : Refusal) → or_fault line c found ≡ Err e → e ≢ ReadFault
or-of-record line c None e is = of-record line c e is
or-of-record line c (Some x) e is = absurd (cc)

kind-of-record : (job collection : Bool) (line : ℕ) (e : Refusal)
    → (if job then Ok false else if collection then Ok true else fault line cause.Kind) ≡ Err e → e ≢ ReadFault
kind-of-record true collection line e is = absurd (cc)
kind-of-record false true line e is = absurd (cc)
kind-of-record false false line e is = of-record line cause.Kind e is

collects-of-record : (line : ℕ) (found : Option (List ℕ)) (e : Refusal) → kind_or line found ≡ Err e → e ≢ ReadFault
collects-of-record line None e is = of-record line cause.Kind e is
collects-of-record line (Some field) e is =
    kind-of-record (pointwise nat_eq field (codes "job")) (pointwise nat_eq field (codes "collect")) line e is

die-of-record : (below : Bool) (line die : ℕ) (e : Refusal) → (if below then Ok die else fault line cause.Die) ≡ Err e → e ≢ ReadFault
die-of-record true line die e is = absurd (cc)
die-of-record false line die e is = of-record line cause.Die e is

at-of-record : (astray : Bool) (line at : ℕ) (e : Refusal) → (if astray then fault line cause.At else Ok at) ≡ Err e → e ≢ ReadFault
at-of-record true line at e is = of-record line cause.At e is
at-of-record false line at e is = absurd (cc)

pub head-of-record : (slots : ℕ) (lasts : List ℕ) (line : ℕ) (fields : List (List ℕ)) (e : Refusal)
    → head_of slots lasts line fields ≡ Err e → e ≢ ReadFault
unfolding head_of
head-of-record slots lasts line fields e = by (length fields == 7)
  where
    numbers : (i : ℕ) → number_at line fields i ≡ Err e → e ≢ ReadFault
    numbers i = or-of-record line cause.Number (option_and_then number_of (field_at fields i)) e

    by : (seven : Bool) → ◌≡◌ {A = Result RowHead Refusal} (if seven then (do
      a ← number_at line fields 0
      d ← number_at line fields 1
      t ← number_at line fields 2
      r ← number_at line fields 4
      u ← number_at line fields 5
      c ← collects_at line fields
      die ← die_in line (length lasts) d
      at ← at_in line slots (slice_index lasts die) a
      Ok (record { line = line; at = at; die = die; job = record { collects = c; task = t; release = r; due = u } }))
        else fault line cause.Fields) (Err e) → e ≢ ReadFault
    by false is = of-record line cause.Fields e is
    by true is =
        then-of-record _ _ e (numbers 0) (λ a.
        then-of-record _ _ e (numbers 1) (λ d.
        then-of-record _ _ e (numbers 2) (λ t.
        then-of-record _ _ e (numbers 4) (λ r.
        then-of-record _ _ e (numbers 5) (λ u.
        then-of-record _ _ e (collects-of-record line (field_at fields 3) e) (λ c.
        then-of-record _ _ e (die-of-record (nat_lt d (length lasts)) line d e) (λ die.
        then-of-record _ _ e (at-of-record (nat_lt a (slice_index lasts die) || nat_lt slots a) line a e) (λ at ok. absurd (cc)))))))))
        is
