-- The fields of a report need no quotes, so csv writes them as they are.
use Rattle.std.proofs.Common.{◌≡◌, ℕ, ◌+◌, ◌/◌, ◌%◌, ◌≤◌, ◌==◌, List, [], ◌∷◌, ◌++◌, Bool, true, false, map, get_or, refl, sym, ap, ◌∙◌}
use Rattle.std.proofs.Common.{append_assoc, arith, zero, suc, inl, inr, Result, Ok, Err, OnOk}
use Rattle.std.specs.Prelude.{ℤ, pos, negsuc, decimal, flat_map, ◌||◌, slice_index, nat_lt}
use Rattle.std.specs.List.{list_any, join_with_byte}
use Rattle.std.specs.Fmt.{signed_decimal, digits, digits_onto, digit_glyph}
use Rattle.std.proofs.lemmas.Bool.{ne_eqb, cases_Bool}
use Rattle.std.proofs.lemmas.List.{append-nil}
use Rattle.std.proofs.lemmas.List.Folds.{list_any-append}
use Rattle.csv.specs.Writing.{default_writer, needs_byte, row_text, fields_text, is_blank}
use Rattle.report_texts.specs.Commas.{after_commas}
use Rattle.hex.specs.Hex.{encode_with, encode_lower, lower_digits}

-- no byte of a text passes the test
abbrev pub Lacks : (ℕ → Bool) → List ℕ → Type 0
Lacks p text = list_any p text ≡ false

-- no byte of the field calls for quotes
abbrev pub IsPlain : List ℕ → Type 0
IsPlain field = Lacks (needs_byte default_writer) field

-- the test passes no byte from the digits on
abbrev pub PassesLow : (ℕ → Bool) → Type 0
PassesLow p = (b : ℕ) → 48 ≤ b → p b ≡ false

pub quotes-low : PassesLow (needs_byte default_writer)
quotes-low b above =
    let comma : (b == 44) ≡ false = ne_eqb b 44 (omega arith) in
    let quote : (b == 34) ≡ false = ne_eqb b 34 (omega arith) in
    let return : (b == 13) ≡ false = ne_eqb b 13 (omega arith) in
    let feed : (b == 10) ≡ false = ne_eqb b 10 (omega arith) in
    rw (comma, quote, return, feed) refl

pub lacks-append : (p : ℕ → Bool) (xs ys : List ℕ) → Lacks p xs → Lacks p ys → Lacks p (xs ++ ys)
lacks-append p xs ys a b = list_any-append p xs ys ∙ rw (a, b) refl

pub lacks-cons : (p : ℕ → Bool) (b : ℕ) (xs : List ℕ) → p b ≡ false → Lacks p xs → Lacks p (b ∷ xs)
lacks-cons p b xs first rest = rw (first, rest) refl

or-left : (a b : Bool) → (a || b) ≡ false → a ≡ false
or-left true b e = e
or-left false b e = refl

or-right : (a b : Bool) → (a || b) ≡ false → b ≡ false
or-right true b e = cc e
or-right false b e = e

pub lacks-head : (p : ℕ → Bool) (b : ℕ) (xs : List ℕ) → Lacks p (b ∷ xs) → p b ≡ false
lacks-head p b xs all = or-left (p b) (list_any p xs) all

pub lacks-tail : (p : ℕ → Bool) (b : ℕ) (xs : List ℕ) → Lacks p (b ∷ xs) → Lacks p xs
lacks-tail p b xs all = or-right (p b) (list_any p xs) all

-- numbers
lacks-glyph : (p : ℕ → Bool) → PassesLow p → (d : ℕ) → p (digit_glyph false d) ≡ false
lacks-glyph p low d = elim (cases_Bool (nat_lt d 10)) [
  | inl small ↦ rw small (low (48 + d) (omega arith))
  | inr large ↦ rw large (low (87 + d) (omega arith))
]

lacks-digits : (p : ℕ → Bool) → PassesLow p → (k n : ℕ) (acc : List ℕ) → Lacks p acc → Lacks p (digits_onto k 10 false n acc)
lacks-digits p low zero n acc so-far = so-far
lacks-digits p low (suc k) n acc so-far =
    let more : Lacks p (digit_glyph false (n % 10) ∷ acc) = lacks-cons p (digit_glyph false (n % 10)) acc (lacks-glyph p low (n % 10))
    so-far in
    elim (cases_Bool (n / 10 == 0)) [
      | inl last ↦ rw last more
      | inr left ↦ rw left (lacks-digits p low k (n / 10) (digit_glyph false (n % 10) ∷ acc) more)
    ]

pub lacks-decimal : (p : ℕ → Bool) → PassesLow p → (n : ℕ) → Lacks p (decimal n)
unfolding digits
lacks-decimal p low n = lacks-digits p low 64 n [] refl

pub plain-decimal : (n : ℕ) → IsPlain (decimal n)
plain-decimal n = lacks-decimal (needs_byte default_writer) quotes-low n

pub plain-signed : (z : ℤ) → IsPlain (signed_decimal z)
plain-signed (pos n) = plain-decimal n
plain-signed (negsuc n) = lacks-cons (needs_byte default_writer) 45 (decimal (suc n)) refl (plain-decimal (suc n))

-- hexadecimal digits
lacks-looked_up : (p : ℕ → Bool) → p 0 ≡ false → (digits : List ℕ) (i : ℕ) → Lacks p digits → p (get_or digits i 0) ≡ false
lacks-looked_up p none [] i all = none
lacks-looked_up p none (d ∷ ds) zero all = lacks-head p d ds all
lacks-looked_up p none (d ∷ ds) (suc i) all = lacks-looked_up p none ds i (lacks-tail p d ds all)

pub lacks-encode : (p : ℕ → Bool) → p 0 ≡ false → Lacks p lower_digits → (bytes : List ℕ) → Lacks p (encode_lower bytes)
unfolding encode_with
lacks-encode p none digits [] = refl
lacks-encode p none digits (b ∷ rest) =
    let low = lacks-cons p (slice_index lower_digits (b % 16)) (encode_lower rest) (lacks-looked_up p none lower_digits (b % 16) digits)
    (lacks-encode p none digits rest) in
    lacks-cons p (slice_index lower_digits (b / 16)) (slice_index lower_digits (b % 16) ∷ encode_lower rest)
    (lacks-looked_up p none lower_digits (b / 16) digits) low

pub plain-encode : (bytes : List ℕ) → IsPlain (encode_lower bytes)
plain-encode bytes = lacks-encode (needs_byte default_writer) refl refl bytes

-- words with a space between two
pub joined-text : {A : Type 0} (f : A → List ℕ) (x : A) (xs : List A) → join_with_byte 32 (map f (x ∷ xs)) ≡ f x
    ++ flat_map (λ y. 32 ∷ f y) xs
joined-text f x [] = sym (append-nil (f x))
joined-text f x (y ∷ ys) = ap (λ t. f x ++ 32 ∷ t) (joined-text f y ys)

pub plain-joined : {A : Type 0} (f : A → List ℕ) (xs : List A) → ((x : A) → IsPlain (f x)) → IsPlain (join_with_byte 32 (map f xs))
plain-joined f [] each = refl
plain-joined f (x ∷ []) each = each x
plain-joined f (x ∷ y ∷ ys) each = lacks-append (needs_byte default_writer) (f x) (32 ∷ join_with_byte 32 (map f (y ∷ ys))) (each x)
    (lacks-cons (needs_byte default_writer) 32 (join_with_byte 32 (map f (y ∷ ys))) refl (plain-joined f (y ∷ ys) each))

-- all of them are plain
unfoldable pub ArePlain : List (List ℕ) → Type 0
ArePlain [] = Unit {0}
ArePlain (field ∷ fields) = IsPlain field × ArePlain fields

fields-plain : (fields : List (List ℕ)) → ArePlain fields → fields_text default_writer fields ≡ after_commas fields
unfolding fields_text ArePlain after_commas
fields-plain [] all = refl
fields-plain (field ∷ fields) all = rw (all.0) (ap (λ t. 44 ∷ (field ++ t)) (fields-plain fields all.1))

-- the text of a record of plain fields
pub row-plain : (a b : List ℕ) (fields : List (List ℕ)) → ArePlain (a ∷ b ∷ fields)
    → row_text default_writer (a ∷ b ∷ fields) ≡ a ++ (after_commas (b ∷ fields) ++ 10 ∷ [])
unfolding ArePlain is_blank
row-plain a b fields all = rw (all.0, fields-plain (b ∷ fields) all.1) (append_assoc a (after_commas (b ∷ fields)) (10 ∷ []))

commas-append : (fields : List (List ℕ)) (field : List ℕ) → after_commas (fields ++ field ∷ []) ≡ after_commas fields ++ 44 ∷ field
unfolding after_commas
commas-append [] field = ap (λ t. 44 ∷ t) (append-nil field)
commas-append (x ∷ xs) field = ap (λ t. 44 ∷ (x ++ t)) (commas-append xs field)
    ∙ ap (λ t. 44 ∷ t) (sym (append_assoc x (after_commas xs) (44 ∷ field)))

-- one more field after a comma
pub field-made : (old first : List ℕ) (fields : List (List ℕ)) (field t1 t2 t3 : List ℕ) → t1 ≡ old ++ (first ++ after_commas fields) → t2
    ≡ t1 ++ 44 ∷ [] → t3 ≡ t2 ++ field
    → t3 ≡ old ++ (first ++ after_commas (fields ++ field ∷ []))
field-made old first fields field t1 t2 t3 one two three =
    three ∙ rw (two, one, commas-append fields field) (simp append_assoc)

-- the end of a record of plain fields
pub record-made : (old a b : List ℕ) (fields : List (List ℕ)) (t1 t2 : List ℕ) → ArePlain (a ∷ b ∷ fields)
    → t1 ≡ old ++ (a ++ after_commas (b ∷ fields)) → t2 ≡ t1 ++ 10 ∷ [] → t2 ≡ old ++ row_text default_writer (a ∷ b ∷ fields)
record-made old a b fields t1 t2 all one two = two ∙ rw (one, row-plain a b fields all) (simp append_assoc)

-- words with a space between two, from the first and the rest
pub joined-made : {A E : Type 0} (f : A → List ℕ) (r : Result (Unit {0}) E) (xs rest : List A) (x : A) (old mid new : List ℕ) → xs ≡ x
    ∷ rest
    → mid ≡ old ++ f x → OnOk r (new ≡ mid ++ flat_map (λ y. 32 ∷ f y) rest) → OnOk r (new ≡ old ++ join_with_byte 32 (map f xs))
joined-made f (Ok u) xs rest x old mid new split first more =
    more ∙ rw (first, split, joined-text f x rest) (append_assoc old (f x) (flat_map (λ y. 32 ∷ f y) rest))
joined-made f (Err e) xs rest x old mid new split first more = tt
