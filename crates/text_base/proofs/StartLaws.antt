-- What stands at the front of a text, word by word.
use Rattle.std.proofs.Common.{◌≡◌, ℕ, ◌+◌, ◌-◌, ◌*◌, ◌<◌, ◌≤◌, ◌==◌, List, [], ◌∷◌, ◌++◌, true, false, Option, Some, None, Result, Ok, Err}
use Rattle.std.proofs.Common.{length, take, drop, length-append, refl, sym, ap, ◌∙◌, append_assoc, arith, inl, inr, suc}
use Rattle.std.specs.Prelude.{All, IfSome, nat_lt, option_map, slice_index}
use Rattle.std.specs.Char.{is_ascii_digit}
use Rattle.std.specs.List.{slice_split}
use Rattle.std.proofs.lemmas.Bool.{cases_Bool, eqb-true, ne_eqb}
use Rattle.std.proofs.lemmas.List.{append-nil, length-take-le, take-append-drop, take_more}
use Rattle.std.proofs.lemmas.List.Elements.{All-append, All-cons, All-nil}
use Rattle.std.proofs.lemmas.List.Splits.{slice_split_at, slice_split_none}
use Rattle.std.proofs.lemmas.Option.{none-some}
use Rattle.std.proofs.Math.Seq.{take-append_seam}
use Rattle.hex.proofs.HexLemmas.{decode_of-ok, decode_sized-ok, decode_sized-twice}
use Rattle.hex.specs.Hex.{decode_sized, is_hex_digit}
use Rattle.hex.specs.declared.error.FromHexError.{FromHexError}
use Rattle.slot_types.specs.declared.pages.PageData.{PageData}
use Rattle.text_base.specs.Number.{HasDigits, number_from, number_of}
use Rattle.text_base.specs.Words.{IsFirstWord, StartsWith, all_of, beyond, words_of}
use Rattle.text_base.specs.Pages.{page_of, page_or}

abbrev pub NoSpace : ℕ → Type 0
NoSpace b = (b == 32) ≡ false

-- Numbers

digit-no_space : (c : ℕ) → is_ascii_digit c ≡ true → NoSpace c
digit-no_space c digit = elim (cases_Bool (c == 32)) [
  | inl is ↦ let e : c ≡ 32 = eqb-true c 32 is in cc (rw e at digit)
  | inr other ↦ other
]

number-whole : (n : ℕ) (xs : List ℕ) (v : ℕ) → number_from n xs ≡ Some v → All NoSpace xs
unfolding number_from
number-whole n [] v e = All-nil NoSpace
number-whole n (c ∷ cs) v e = elim (cases_Bool (is_ascii_digit c)) [
  | inl digit ↦ All-cons NoSpace c cs (digit-no_space c digit) (number-whole (10 * n + (c - 48)) cs v (rw digit at e))
  | inr other ↦ absurd (none-some v (rw other at e))
]

number-end : (v : ℕ) → v < 4294967296 → number_from v [] ≡ Some v
unfolding number_from
number-end v small = grind (arith)

-- one more digit
pub digits-more : (text : List ℕ) (i value : ℕ) → i < length text → is_ascii_digit (slice_index text i) ≡ true → HasDigits text i value
    → HasDigits text (i + 1) (10 * value + (slice_index text i - 48))
unfolding number_from
digits-more text i value inside digit has = λ rest. rw (take_more text i 0 inside, append_assoc) (has (slice_index text i ∷ rest)
    ∙ rw digit refl)

-- the digits of a number, and what stands after them
pub number-starts : (text : List ℕ) (digits value : ℕ) → 0 < digits → digits ≤ 10 → digits ≤ length text → HasDigits text digits value
    → value < 4294967296
    → StartsWith number_of text value (drop digits text)
number-starts text digits value some few inside has small =
    let len : length (take digits text) ≡ digits = length-take-le digits text inside in
    let zero_not : (digits == 0) ≡ false = ne_eqb digits 0 (omega arith) in
    let not_long : nat_lt 10 digits ≡ false = grind (arith) in
    let read : number_from 0 (take digits text) ≡ Some value = ap (number_from 0) (sym (append-nil (take digits text))) ∙ has []
    ∙ number-end value small in
    record {
      front = take digits text;
      parts = sym (take-append-drop digits text);
      says = rw (len, zero_not, not_long) read;
      whole = number-whole 0 (take digits text) value read;
    }

-- Pages

hex-no_space : (c : ℕ) → is_hex_digit c ≡ true → NoSpace c
hex-no_space c digit = elim (cases_Bool (c == 32)) [
  | inl is ↦ let e : c ≡ 32 = eqb-true c 32 is in cc (rw e at digit)
  | inr other ↦ other
]

-- the digits of a page are 32, and no spaces
pub page-digits : (digits : List ℕ) (page : PageData) → page_of digits ≡ Some page → (length digits ≡ 32) × All NoSpace digits
page-digits digits page = by_bytes (decode_sized digits 16) refl
  where
    by_bytes : (r : Result (List ℕ) FromHexError) → decode_sized digits 16 ≡ r → page_or r ≡ Some page → (length digits ≡ 32)
        × All NoSpace digits
    by_bytes (Ok bytes) at e =
        let twice : length digits ≡ 2 * 16 = decode_sized-ok digits 16 bytes at in
        let ok = decode_of-ok digits bytes (sym (decode_sized-twice digits 16 twice) ∙ at) in
        (omega (arith, twice), λ k d inside. hex-no_space _ (ok.1 k d inside))
    by_bytes (Err fault) at e = absurd (none-some page e)

pub page-starts : (text : List ℕ) (page : PageData) → page_of (take 32 text) ≡ Some page → StartsWith page_of text page (drop 32 text)
page-starts text page read = record {
  front = take 32 text;
  parts = sym (take-append-drop 32 text);
  says = read;
  whole = (page-digits (take 32 text) page read).1;
}

-- Words

word-split : (text front : List ℕ) (rest : Option (List ℕ)) → text ≡ front ++ beyond rest → All NoSpace front
    → slice_split (λ b. b == 32) text ≡ front ∷ words_of rest
word-split text front None parts whole = rw (parts, append-nil) (slice_split_none (λ b. b == 32) front whole)
word-split text front (Some rest) parts whole = rw parts (slice_split_at (λ b. b == 32) front 32 rest whole refl)

pub first-starts : {A : Type 0} (read : List ℕ → Option A) (text : List ℕ) (x : A) (rest : Option (List ℕ))
    → StartsWith read text x (beyond rest)
    → IsFirstWord read text x (words_of rest)
first-starts read text x rest s = record { word = s.front; parts = word-split text s.front rest s.parts s.whole; says = sym s.says }

pub first-shorter : {A B : Type 0} (read : List ℕ → Option A) (text : List ℕ) (x : A) (f : B → List ℕ) (rest : Option B)
    → StartsWith read text x (beyond (option_map f rest))
    → IfSome rest (λ more. length (f more) < length text)
first-shorter read text x f None s = tt
first-shorter read text x f (Some more) s = omega (arith, ap length s.parts, length-append s.front (32 ∷ f more))

-- a word that says nothing
pub first-none : {A : Type 0} (read : List ℕ → Option A) (word : List ℕ) (words more : List (List ℕ)) → words ≡ word ∷ more → None
    ≡ read word → all_of read words ≡ None
unfolding all_of
first-none read word words more split none = rw (split, ← none) refl
