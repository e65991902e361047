-- A mark after a text, which no read gives, and the records that are read of it.
use Rattle.std.proofs.Common.{◌≡◌, ℕ, ◌<◌, ◌≤◌, ◌==◌, ◌-◌, ◌+◌, List, [], ◌∷◌, ◌++◌, Bool, true, false, Option, Some, None, length, take}
use Rattle.std.proofs.Common.{length-append, refl, sym, ap, subst, ◌∙◌, append_assoc, arith, ◌⊎◌, inl, inr}
use Rattle.std.specs.Prelude.{All, ◌&&◌, is_some, nat_le, not, option_map, if◌then◌else◌}
use Rattle.std.specs.Io.KnownBytes.{Consumes, IsAtEnd}
use Rattle.std.proofs.lemmas.Bool.{cases_Bool, eqb-true, ne_eqb}
use Rattle.std.proofs.lemmas.List.{append-nil}
use Rattle.std.proofs.lemmas.List.Elements.{All-cons, All-drop, All-head, All-nil, All-tail, All-take}
use Rattle.std.proofs.Math.Seq.{take-append_seam}
use Rattle.csv.specs.Machine.{Read, after_end, ends_at_end, ends_with, field_after, fields_after, in_field, is_end, next_record}
use Rattle.csv.specs.Machine.{start_field, start_record, step}
use Rattle.csv.specs.Reading.{default_config, is_bom, strip_bom}
use Rattle.csv.specs.Records.{Row, cut_from, fields_of, text_of}
use Rattle.csv.specs.declared.parser.Action.{Action}
use Rattle.csv.specs.declared.parser.Action.TheVariants as act
use Rattle.csv.specs.declared.parser.State.{State}
use Rattle.csv.specs.declared.parser.State.TheVariants as st
use Rattle.csv.specs.declared.parser.Terminator.TheVariants as term
use Rattle.csv.proofs.ReadFacts.{prepend-nil}
use Rattle.text_base.specs.BoundedReaders.{text_left}
use Rattle.text_base.specs.declared.bounded.Bounded.{Bounded}
use Rattle.text_base.specs.Marks.{is_marked, is_within, last_of, with_mark, without_mark}
use Rattle.text_base.specs.CsvRecords.{Fields}
use Rattle.text_base.specs.CsvRecordsLeft.{is_between}

abbrev pub IsByte : ℕ → Type 0
IsByte b = b < 256

-- Texts

last-append : (b c : ℕ) (xs ys : List ℕ) → last_of b (xs ++ c ∷ ys) ≡ last_of c ys
unfolding last_of
last-append b c [] ys = refl
last-append b c (x ∷ xs) ys = last-append x c xs ys

last-byte : (b : ℕ) (xs : List ℕ) → b < 256 → All IsByte xs → last_of b xs < 256
unfolding last_of
last-byte b [] small h = small
last-byte b (x ∷ xs) small h = last-byte x xs (All-head IsByte x xs h) (All-tail IsByte x xs h)

pub bytes-plain : (xs : List ℕ) → All IsByte xs → is_marked xs ≡ false
bytes-plain xs h = ne_eqb _ _ (let small = last-byte 0 xs (omega arith) h in λ e. omega (arith, small, e))

pub marked-snoc : (xs : List ℕ) → is_marked (xs ++ 256 ∷ []) ≡ true
unfolding last_of
marked-snoc xs = rw (last-append 0 256 xs []) refl

pub unmarked-snoc : (xs : List ℕ) → without_mark (xs ++ 256 ∷ []) ≡ xs
unmarked-snoc xs =
    let len : length (xs ++ 256 ∷ []) - 1 ≡ length xs = omega (arith, length-append xs (256 ∷ [])) in
    rw (marked-snoc xs, len) (take-append_seam xs (256 ∷ []))

snoc-of : (c : ℕ) (rest : List ℕ) → last_of c rest ≡ 256 → (xs : List ℕ) × (c ∷ rest ≡ xs ++ 256 ∷ [])
unfolding last_of
snoc-of c [] e = ([], ap (λ x. x ∷ []) e)
snoc-of c (d ∷ rest) e =
    let r = snoc-of d rest e in
    (c ∷ r.0, ap (λ xs. c ∷ xs) r.1)

-- a text has no mark, or is another one with a mark after it
pub marked-cases : (text : List ℕ) → (is_marked text ≡ false) ⊎ ((xs : List ℕ) × (text ≡ xs ++ 256 ∷ []))
unfolding last_of
marked-cases [] = inl refl
marked-cases (c ∷ rest) = elim (cases_Bool (last_of c rest == 256)) [
  | inl is ↦ inr (snoc-of c rest (eqb-true _ _ is))
  | inr other ↦ inl other
]

pub rest-plain : (c : ℕ) (rest : List ℕ) → is_marked (c ∷ rest) ≡ false → is_marked rest ≡ false
unfolding last_of
rest-plain c [] plain = refl
rest-plain c (d ∷ rest) plain = plain

front-marked : (front rest : List ℕ) → is_marked front ≡ false → is_marked (front ++ rest) ≡ is_marked rest
unfolding last_of
front-marked front [] plain = rw (append-nil front) plain
front-marked front (c ∷ rest) plain = rw (last-append 0 c front rest) refl

-- bytes are taken off the front of a text and off its bound
pub marked-front : (bound n : ℕ) (front rest : List ℕ) → length front ≡ n → n ≤ bound → is_marked front ≡ false
    → with_mark bound (front ++ rest) ≡ front ++ with_mark (bound - n) rest
marked-front bound n front rest len few plain =
    let same : is_within bound (front ++ rest) ≡ is_within (bound - n) rest = within in
    elim (cases_Bool (is_within (bound - n) rest)) [
      | inl is ↦ rw (same, is) refl
      | inr past ↦ rw (same, past) (append_assoc front rest (256 ∷ []))
    ]
  where
    within : is_within bound (front ++ rest) ≡ is_within (bound - n) rest
    within =
        let total : length (front ++ rest) ≡ n + length rest = omega (arith, length-append front rest, len) in
        let le : nat_le (n + length rest) bound ≡ nat_le (length rest) (bound - n) = grind (arith) in
        rw (total, le, front-marked front rest plain) refl

pub marked-nil : (bound : ℕ) → with_mark bound [] ≡ []
unfolding last_of
marked-nil bound =
    let le : nat_le 0 bound ≡ true = grind (arith) in
    rw le refl

pub not-some : (o : Option ℕ) → is_some o ≡ false → o ≡ None
not-some None e = refl
not-some (Some n) e = cc e

-- a reader that has kept no byte has what the reader underneath has
pub left-fresh : {R : Type 0} (rem : R → Option (List ℕ)) (b : Bounded R) → b.ended ≡ false → b.past ≡ None → text_left rem b ≡ rem b.inner
left-fresh rem b more none = rw (more, none) (prepend-nil (rem b.inner))

pub consumes-none : (known : Option (List ℕ)) → Consumes known known []
consumes-none None = tt
consumes-none (Some text) = refl

-- a read within the bound gives what the reader underneath gives, and the end where that is at its end
pub read-marked : (bound n : ℕ) (old new : Option (List ℕ)) (front : List ℕ) → Consumes old new front → (n ≡ 0 → IsAtEnd new)
    → length front ≡ n → n ≤ bound → is_marked front ≡ false
    → Consumes (option_map (with_mark bound) old) (option_map (with_mark (bound - n)) (if n == 0 then Some [] else new)) front
    × (n ≡ 0 → IsAtEnd (option_map (with_mark (bound - n)) (if n == 0 then Some [] else new)))
read-marked bound n old new front taken end len few plain = (consumed old new taken end, λ zero. rw zero (marked-nil (bound - 0)))
  where
    at_end : (text : List ℕ) → n ≡ 0 → text ≡ [] → with_mark bound (front ++ text) ≡ front ++ with_mark (bound - n) []
    at_end text zero none = rw none (marked-front bound n front [] len few plain)

    consumed : (old new : Option (List ℕ)) → Consumes old new front → (n ≡ 0 → IsAtEnd new)
        → Consumes (option_map (with_mark bound) old) (option_map (with_mark (bound - n)) (if n == 0 then Some [] else new)) front
    consumed None new taken end = tt
    consumed (Some text) None taken end = absurd taken
    consumed (Some text) (Some rest) taken end = elim (cases_Bool (n == 0)) [
      | inl zero ↦ rw (zero, taken) (at_end rest (eqb-true n 0 zero) (end (eqb-true n 0 zero)))
      | inr some ↦ rw (some, taken) (marked-front bound n front rest len few plain)
    ]

-- a read past the bound that gives nothing shows that the text ended there
pub end-marked : (bound : ℕ) (old new : Option (List ℕ)) (front : List ℕ) → front ≡ [] → Consumes old new front → IsAtEnd new
    → Consumes (option_map (with_mark bound) old) (Some (with_mark bound [])) []
end-marked bound None new front none taken end = tt
end-marked bound (Some text) None front none taken end = absurd taken
end-marked bound (Some text) (Some rest) front none taken end = rw (taken, none, end) refl

-- A byte order mark

and-not : (a b : Bool) → (a && not b) ≡ true → b ≡ false
and-not true true e = cc e
and-not true false e = refl
and-not false b e = cc e

and-false : (a : Bool) → (a && false) ≡ false
and-false true = refl
and-false false = refl

strip-if : (bom : Bool) (a b c : ℕ) (rest : List ℕ) → is_bom a b c ≡ bom → strip_bom (a ∷ b ∷ c ∷ rest)
    ≡ (if bom then rest else a ∷ b ∷ c ∷ rest)
unfolding strip_bom
strip-if bom a b c rest e = rw e refl

strip-plain : (text : List ℕ) → is_marked text ≡ false → is_marked (strip_bom text) ≡ false
unfolding strip_bom
strip-plain [] plain = plain
strip-plain (a ∷ []) plain = plain
strip-plain (a ∷ b ∷ []) plain = plain
strip-plain (a ∷ b ∷ c ∷ rest) plain = elim (cases_Bool (is_bom a b c)) [
  | inl bom ↦ rw (strip-if true a b c rest bom) (rest-plain c rest (rest-plain b (c ∷ rest) (rest-plain a (b ∷ c ∷ rest) plain)))
  | inr other ↦ rw (strip-if false a b c rest other) plain
]

strip-snoc : (text : List ℕ) → strip_bom (text ++ 256 ∷ []) ≡ strip_bom text ++ 256 ∷ []
unfolding strip_bom
strip-snoc [] = refl
strip-snoc (a ∷ []) = refl
strip-snoc (a ∷ b ∷ []) = strip-if false a b 256 [] (and-false ((a == 239) && (b == 187)))
strip-snoc (a ∷ b ∷ c ∷ rest) = elim (cases_Bool (is_bom a b c)) [
  | inl bom ↦ rw (strip-if true a b c rest bom, strip-if true a b c (rest ++ 256 ∷ []) bom) refl
  | inr other ↦ rw (strip-if false a b c rest other, strip-if false a b c (rest ++ 256 ∷ []) other) refl
]

-- what a bounded text has after its byte order mark
pub begun : (bound : ℕ) (text : List ℕ) → (without_mark (strip_bom (with_mark bound text)) ≡ strip_bom text)
    × (not (is_marked (strip_bom (with_mark bound text))) ≡ is_within bound text)
begun bound text = elim (cases_Bool (is_within bound text)) [
  | inl within ↦
      let plain = strip-plain text (and-not _ _ within) in
      rw (within, plain) (refl, refl)
  | inr past ↦ rw (past, strip-snoc text, marked-snoc (strip_bom text)) (unmarked-snoc' (strip_bom text), refl)
]
  where
    unmarked-snoc' : (xs : List ℕ) → take (length (xs ++ 256 ∷ []) - 1) (xs ++ 256 ∷ []) ≡ xs
    unmarked-snoc' xs =
        let len : length (xs ++ 256 ∷ []) - 1 ≡ length xs = omega (arith, length-append xs (256 ∷ [])) in
        rw len (take-append_seam xs (256 ∷ []))

pub within-short : (bound : ℕ) (text : List ℕ) → is_within bound text ≡ true → length text ≤ bound
within-short bound text is = elim (cases_Bool (nat_le (length text) bound)) [
  | inl few ↦ grind (arith)
  | inr many ↦ cc (rw many at is)
]

-- The machine of csv

abbrev pub no_comment : State → Bool
no_comment st.StartRecord = true
no_comment st.AfterCr = true
no_comment st.StartField = true
no_comment st.InField = true
no_comment st.InQuoted = true
no_comment st.AfterQuote = true
no_comment st.InEscape = true
no_comment st.InComment = false

pub between-no_comment : (s : State) → is_between s ≡ true → no_comment s ≡ true
between-no_comment st.StartRecord e = refl
between-no_comment st.AfterCr e = refl
between-no_comment st.StartField e = cc e
between-no_comment st.InField e = cc e
between-no_comment st.InQuoted e = cc e
between-no_comment st.AfterQuote e = cc e
between-no_comment st.InEscape e = cc e
between-no_comment st.InComment e = cc e

-- a mark joins the field at hand
mark-copied : (s : State) → no_comment s ≡ true → ((step default_config s 256).1 ≡ act.Copy)
    × (ends_at_end (step default_config s 256).0 ≡ true)
mark-copied st.StartRecord e = (refl, refl)
mark-copied st.AfterCr e = (refl, refl)
mark-copied st.StartField e = (refl, refl)
mark-copied st.InField e = (refl, refl)
mark-copied st.InQuoted e = (refl, refl)
mark-copied st.AfterQuote e = (refl, refl)
mark-copied st.InEscape e = (refl, refl)
mark-copied st.InComment e = cc e

after-between : (c : ℕ) → is_between (after_end term.CRLF c) ≡ true
after-between c = elim (cases_Bool (c == 13)) [
  | inl is ↦ rw is refl
  | inr other ↦ rw other refl
]

plain-if : (b : Bool) (x y : State × Action) → no_comment x.0 ≡ true → no_comment y.0 ≡ true → no_comment (if b then x else y).0 ≡ true
plain-if true x y p q = p
plain-if false x y p q = q

in-plain : (c : ℕ) → no_comment (in_field default_config c).0 ≡ true
in-plain c =
    plain-if (c == 44) (st.StartField, act.EndField) (if ends_with term.CRLF c then (after_end term.CRLF c, act.EndRecord) else
    (st.InField, act.Copy)) refl
    (plain-if (ends_with term.CRLF c) (after_end term.CRLF c, act.EndRecord) (st.InField, act.Copy) (between-no_comment _ (after-between c))
    refl)

start-plain : (c : ℕ) → no_comment (start_field default_config c).0 ≡ true
start-plain c = plain-if (c == 34) (st.InQuoted, act.Skip) (in_field default_config c) refl (in-plain c)

record-plain : (c : ℕ) → no_comment (start_record default_config c).0 ≡ true
record-plain c = plain-if (ends_with term.CRLF c) (st.StartRecord, act.Skip) (start_field default_config c) refl (start-plain c)

step-plain : (s : State) (c : ℕ) → no_comment s ≡ true → no_comment (step default_config s c).0 ≡ true
step-plain st.StartRecord c e = record-plain c
step-plain st.AfterCr c e = plain-if (c == 10) (st.StartRecord, act.Skip) (start_record default_config c) refl (record-plain c)
step-plain st.StartField c e = start-plain c
step-plain st.InField c e = in-plain c
step-plain st.InQuoted c e = plain-if (c == 34) (st.AfterQuote, act.Skip) (st.InQuoted, act.Copy) refl refl
step-plain st.AfterQuote c e = plain-if (c == 34) (st.InQuoted, act.Copy) (in_field default_config c) refl (in-plain c)
step-plain st.InEscape c e = refl
step-plain st.InComment c e = cc e

-- where a record ends, its reader stands between two records
abbrev EndsBetween : State × Action → Type 0
EndsBetween q = is_end q.1 ≡ true → is_between q.0 ≡ true

ends-if : (b : Bool) (x y : State × Action) → EndsBetween x → EndsBetween y → EndsBetween (if b then x else y)
ends-if true x y p q = p
ends-if false x y p q = q

in-ends : (c : ℕ) → EndsBetween (in_field default_config c)
in-ends c =
    ends-if (c == 44) (st.StartField, act.EndField) (if ends_with term.CRLF c then (after_end term.CRLF c, act.EndRecord) else
    (st.InField, act.Copy)) (λ e. cc e)
    (ends-if (ends_with term.CRLF c) (after_end term.CRLF c, act.EndRecord) (st.InField, act.Copy) (λ e. after-between c) (λ e. cc e))

start-ends : (c : ℕ) → EndsBetween (start_field default_config c)
start-ends c = ends-if (c == 34) (st.InQuoted, act.Skip) (in_field default_config c) (λ e. cc e) (in-ends c)

record-ends : (c : ℕ) → EndsBetween (start_record default_config c)
record-ends c = ends-if (ends_with term.CRLF c) (st.StartRecord, act.Skip) (start_field default_config c) (λ e. cc e) (start-ends c)

step-ends : (s : State) (c : ℕ) → EndsBetween (step default_config s c)
step-ends st.StartRecord c = record-ends c
step-ends st.AfterCr c = ends-if (c == 10) (st.StartRecord, act.Skip) (start_record default_config c) (λ e. cc e) (record-ends c)
step-ends st.StartField c = start-ends c
step-ends st.InField c = in-ends c
step-ends st.InQuoted c = ends-if (c == 34) (st.AfterQuote, act.Skip) (st.InQuoted, act.Copy) (λ e. cc e) (λ e. cc e)
step-ends st.AfterQuote c = ends-if (c == 34) (st.InQuoted, act.Copy) (in_field default_config c) (λ e. cc e) (in-ends c)
step-ends st.InEscape c = λ e. cc e
step-ends st.InComment c = ends-if (c == 10) (st.StartRecord, act.Skip) (st.InComment, act.Skip) (λ e. cc e) (λ e. cc e)

-- Records

-- a record leaves its reader between two records
pub next-between : (s : State) (fields : Fields) (field text : List ℕ) (p : Read) → next_record default_config s fields field text ≡ Some p
    → is_between p.1 ≡ true
unfolding next_record
next-between s fields field [] p e = elim (cases_Bool (ends_at_end s)) [
  | inl last ↦
      let is : (fields ++ (field ∷ []), st.StartRecord, []) ≡ p = cc (rw last at e) in
      ap (λ (q : Read). is_between q.1) (sym is)
  | inr more ↦ absurd (cc (rw more at e))
]
next-between s fields field (c ∷ rest) p e = elim (cases_Bool (is_end (step default_config s c).1)) [
  | inl last ↦
      let is : (fields_after (step default_config s c).1 fields field, (step default_config s c).0, rest) ≡ p = cc (rw last at e) in
      ap (λ (q : Read). is_between q.1) (sym is) ∙ step-ends s c last
  | inr more ↦ next-between (step default_config s c).0 (fields_after (step default_config s c).1 fields field)
      (field_after (step default_config s c).1 c field) rest p (rw more at e)
]

-- a text without a mark has none after its first record
pub next-plain : (s : State) (fields : Fields) (field text : List ℕ) (p : Read) → next_record default_config s fields field text ≡ Some p
    → is_marked text ≡ false → is_marked p.2 ≡ false
unfolding next_record last_of
next-plain s fields field [] p e plain = elim (cases_Bool (ends_at_end s)) [
  | inl last ↦
      let is : (fields ++ (field ∷ []), st.StartRecord, []) ≡ p = cc (rw last at e) in
      ap (λ (q : Read). is_marked q.2) (sym is)
  | inr more ↦ absurd (cc (rw more at e))
]
next-plain s fields field (c ∷ rest) p e plain = elim (cases_Bool (is_end (step default_config s c).1)) [
  | inl last ↦
      let is : (fields_after (step default_config s c).1 fields field, (step default_config s c).0, rest) ≡ p = cc (rw last at e) in
      ap (λ (q : Read). is_marked q.2) (sym is) ∙ rest-plain c rest plain
  | inr more ↦ next-plain (step default_config s c).0 (fields_after (step default_config s c).1 fields field)
      (field_after (step default_config s c).1 c field) rest p (rw more at e) (rest-plain c rest plain)
]

-- the last field of a record ends with a mark
abbrev pub HasMark : Fields → Type 0
HasMark record_fields = (front : Fields) × (bytes : List ℕ) × (record_fields ≡ front ++ ((bytes ++ 256 ∷ []) ∷ []))

-- the next record of a text with a mark has the mark in it, or is that of the text without it
pub next-marked : (s : State) (fields : Fields) (field text : List ℕ) (p : Read) → no_comment s ≡ true
    → next_record default_config s fields field (text ++ 256 ∷ []) ≡ Some p
    → HasMark p.0 ⊎ ((rest : List ℕ) × (p.2 ≡ rest ++ 256 ∷ []) × (next_record default_config s fields field text ≡ Some (p.0, p.1, rest)))
unfolding next_record
next-marked s fields field [] p plain e =
    let copied = mark-copied s plain in
    let is : (fields ++ ((field ++ 256 ∷ []) ∷ []), st.StartRecord, []) ≡ p = cc (rw (copied.0, copied.1) at e) in
    inl (fields, field, ap (λ (q : Read). q.0) (sym is))
next-marked s fields field (c ∷ text) p plain e = elim (cases_Bool (is_end (step default_config s c).1)) [
  | inl last ↦
      let is : (fields_after (step default_config s c).1 fields field, (step default_config s c).0, text ++ 256 ∷ [])
      ≡ p = cc (rw last at e) in
      inr (text, ap (λ (q : Read). q.2) (sym is), rw last (ap (λ (q : Read). Some (q.0, q.1, text)) is))
  | inr more ↦ elim (next-marked (step default_config s c).0 (fields_after (step default_config s c).1 fields field)
      (field_after (step default_config s c).1 c field) text p (step-plain s c plain) (rw more at e)) [
        | inl has ↦ inl has
        | inr r ↦ inr (r.0, r.1, rw more r.2)
      ]
]

-- a text with a mark has a next record
pub next-there : (s : State) (fields : Fields) (field text : List ℕ) → no_comment s ≡ true
    → next_record default_config s fields field (text ++ 256 ∷ []) ≡ None → ⊥
unfolding next_record
next-there s fields field [] plain e =
    let copied = mark-copied s plain in
    cc (rw (copied.0, copied.1) at e)
next-there s fields field (c ∷ text) plain e = elim (cases_Bool (is_end (step default_config s c).1)) [
  | inl last ↦ cc (rw last at e)
  | inr more ↦ next-there (step default_config s c).0 (fields_after (step default_config s c).1 fields field)
      (field_after (step default_config s c).1 c field) text (step-plain s c plain) (rw more at e)
]

-- the fields of a record are bytes, as its text is
fields-bytes : (start : ℕ) (ends bytes : List ℕ) → All IsByte bytes → All (All IsByte) (cut_from start ends bytes)
unfolding cut_from
fields-bytes start [] bytes h = All-nil (All IsByte)
fields-bytes start (end ∷ ends) bytes h = All-cons (All IsByte) _ _ (All-take IsByte _ _ (All-drop IsByte start bytes h))
    (fields-bytes end ends bytes h)

pub row-bytes : (row : Row) (text : List ℕ) → text ≡ text_of row → All IsByte text → All (All IsByte) (fields_of row)
row-bytes row text is h = fields-bytes 0 row.ends row.bytes (subst (All IsByte) is h)

mark-no_byte : (bytes : List ℕ) → All IsByte (bytes ++ 256 ∷ []) → ⊥
mark-no_byte [] h = let small = All-head IsByte 256 [] h in omega (arith, small)
mark-no_byte (b ∷ bytes) h = mark-no_byte bytes (All-tail IsByte b _ h)

no-mark : (front : Fields) (bytes : List ℕ) → All (All IsByte) (front ++ ((bytes ++ 256 ∷ []) ∷ [])) → ⊥
no-mark [] bytes h = mark-no_byte bytes (All-head (All IsByte) _ [] h)
no-mark (f ∷ front) bytes h = no-mark front bytes (All-tail (All IsByte) f _ h)

-- no record that was read has a mark
pub bytes-unmarked : (record_fields : Fields) → All (All IsByte) record_fields → HasMark record_fields → ⊥
bytes-unmarked record_fields h m = no-mark m.0 m.1 (rw m.2 at h)
