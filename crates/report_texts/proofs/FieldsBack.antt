-- Each field of a report reads as what was written.
use Rattle.std.proofs.Common.{◌≡◌, ℕ, ◌+◌, ◌-◌, ◌*◌, ◌<◌, ◌==◌, List, [], ◌∷◌, ◌++◌, true, false, Option, Some, None, length, length-append}
use Rattle.std.proofs.Common.{get_or, map, refl, ap, ◌∙◌, rules, arith, suc}
use Rattle.std.specs.Prelude.{decimal, nat_lt, ◌^◌, ℤ, pos, negsuc, option_map, IfSome, All}
use Rattle.std.specs.Char.{is_ascii_digit}
use Rattle.std.specs.Fmt.{signed_decimal}
use Rattle.std.specs.List.{join_with_byte, slice_split}
use Rattle.std.specs.Str.{all_ascii_digits}
use Rattle.std.proofs.lemmas.Bool.{and_parts, ne_eqb}
use Rattle.std.proofs.lemmas.Fmt.{decimal_nonempty, digits_decimal, digits_value-decimal, length-decimal-le}
use Rattle.std.proofs.lemmas.List.Elements.{All-head, All-tail}
use Rattle.std.proofs.lemmas.Str.Parse.{IsNumeralModel, numerals_by_fold}
use Rattle.hex.proofs.HexLemmas.{decode_sized-encode_lower, length-encode_with}
use Rattle.hex.specs.Hex.{lower_digits}
use Rattle.slot_types.specs.declared.pages.PageData.{PageData}
use Rattle.text_base.specs.Number.{number_from, number_of}
use Rattle.report_texts.specs.ReportRows.{above_zero, if_filled, lateness_in}
use Rattle.report_texts.specs.ReportText.{lateness_field, number_field, numbers_field, pages_field}
use Rattle.text_base.specs.Pages.{page_word}
use Rattle.text_base.specs.Pages.{IsPage}
use Rattle.text_base.specs.Words.{all_of, list_of}
use Rattle.text_base.specs.Pages.{page_of}
use Rattle.report_texts.proofs.PlainFields.{Lacks, PassesLow, lacks-decimal, lacks-encode, lacks-head, lacks-tail}

-- Numbers

abbrev read_on : ℕ → List ℕ → ℕ
read_on n [] = n
read_on n (c ∷ cs) = read_on (10 * n + (c - 48)) cs

own : IsNumeralModel (λ ds. all_ascii_digits ds ≡ true) (read_on 0)
own = numerals_by_fold _ (search rules) read_on (search rules)

-- digits are read on
from-digits : (ds : List ℕ) (n : ℕ) → all_ascii_digits ds ≡ true → read_on n ds < 4294967296 → number_from n ds ≡ Some (read_on n ds)
unfolding number_from
from-digits [] n all small = grind (arith)
from-digits (c ∷ cs) n all small =
    let parts = and_parts (is_ascii_digit c) (all_ascii_digits cs) all in
    rw parts.0 (from-digits cs (10 * n + (c - 48)) parts.1 small)

pub some-digits : (n : ℕ) → n < 2 ^ 32 → 0 < length (decimal n)
some-digits n small = decimal_nonempty n (omega arith)

pub number-back : (n : ℕ) → n < 2 ^ 32 → number_of (decimal n) ≡ Some n
number-back n small =
    let big : n < 2 ^ 64 = omega arith in
    let digits = digits_decimal own n big in
    let value = digits_value-decimal own n big in
    let short = length-decimal-le 10 n (omega arith) (omega arith) big in
    let some = decimal_nonempty n big in
    let zero_not : (length (decimal n) == 0) ≡ false = ne_eqb _ 0 (omega arith) in
    let not_long : nat_lt 10 (length (decimal n)) ≡ false = grind (arith) in
    rw (zero_not, not_long) (from-digits (decimal n) 0 digits (omega (arith, value)) ∙ ap Some value)

-- Fields that may be empty

filled : {A : Type 0} (read : List ℕ → Option A) (field : List ℕ) → 0 < length field → if_filled read field ≡ option_map Some (read field)
filled read [] some = absurd (omega arith)
filled read (b ∷ bytes) some = refl

pub number-field-back : (o : Option ℕ) → IfSome o (λ n. n < 2 ^ 32) → if_filled number_of (number_field o) ≡ Some o
number-field-back None small = refl
number-field-back (Some n) small = filled number_of (decimal n) (some-digits n small) ∙ rw (number-back n small) refl

-- the size of a lateness
abbrev pub size_of : ℤ → ℕ
size_of (pos n) = n
size_of (negsuc n) = n + 1

-- digits have no sign before them
unsigned : (field : List ℕ) → 0 < length field → Lacks (λ b. b == 45) field → lateness_in field ≡ above_zero (number_of field)
unsigned [] some lacks = absurd (omega arith)
unsigned (c ∷ cs) some lacks =
    let other : (c == 45) ≡ false = lacks-head (λ b. b == 45) c cs lacks in
    rw other refl

sign-low : PassesLow (λ b. b == 45)
sign-low b above = ne_eqb b 45 (omega arith)

pub lateness-back : (z : ℤ) → size_of z < 2 ^ 32 → lateness_in (signed_decimal z) ≡ Some z
lateness-back (pos n) small = unsigned (decimal n) (some-digits n small) (lacks-decimal (λ b. b == 45) sign-low n)
    ∙ rw (number-back n small) refl
lateness-back (negsuc n) small =
    let fits : suc n < 2 ^ 32 = omega arith in
    let some : (suc n == 0) ≡ false = ne_eqb (suc n) 0 (omega arith) in
    let less : suc n - 1 ≡ n = omega arith in
    rw (number-back (suc n) fits, some, less) refl

some-signed : (z : ℤ) → size_of z < 2 ^ 32 → 0 < length (signed_decimal z)
some-signed (pos n) small = some-digits n small
some-signed (negsuc n) small = omega arith

pub lateness-field-back : (o : Option ℤ) → IfSome o (λ z. size_of z < 2 ^ 32) → if_filled lateness_in (lateness_field o) ≡ Some o
lateness-field-back None small = refl
lateness-field-back (Some z) small = filled lateness_in (signed_decimal z) (some-signed z small) ∙ rw (lateness-back z small) refl

-- Lists

-- a text without the byte is one part
split-whole : (c : ℕ) (word : List ℕ) → Lacks (λ b. b == c) word → slice_split (λ b. b == c) word ≡ word ∷ []
split-whole c [] lacks = refl
split-whole c (x ∷ xs) lacks = rw (lacks-head (λ b. b == c) x xs lacks, split-whole c xs (lacks-tail (λ b. b == c) x xs lacks)) refl

-- the first of several parts
split-part : (word rest : List ℕ) → Lacks (λ b. b == 32) word → slice_split (λ b. b == 32) (word ++ 32 ∷ rest) ≡ word
    ∷ slice_split (λ b. b == 32) rest
split-part [] rest lacks = refl
split-part (x ∷ xs) rest lacks = rw (lacks-head (λ b. b == 32) x xs lacks, split-part xs rest (lacks-tail (λ b. b == 32) x xs lacks)) refl

-- what is asked of a word: it reads back, has a byte, and no space
pub record IsWord {A : Type 0} (word : A → List ℕ) (read : List ℕ → Option A) (x : A) : Type 0 where
  pub back : read (word x) ≡ Some x
  pub whole : Lacks (λ b. b == 32) (word x)
  pub some : 0 < length (word x)

split-joined : {A : Type 0} (word : A → List ℕ) (read : List ℕ → Option A) (x : A) (xs : List A) → IsWord word read x
    → All (IsWord word read) xs
    → slice_split (λ b. b == 32) (join_with_byte 32 (map word (x ∷ xs))) ≡ map word (x ∷ xs)
split-joined word read x [] is all = split-whole 32 (word x) is.whole
split-joined word read x (y ∷ ys) is all =
    split-part (word x) (join_with_byte 32 (map word (y ∷ ys))) is.whole
    ∙ ap (λ parts. word x ∷ parts) (split-joined word read y ys (All-head (IsWord word read) y ys all)
    (All-tail (IsWord word read) y ys all))

all-back : {A : Type 0} (word : A → List ℕ) (read : List ℕ → Option A) (xs : List A) → All (IsWord word read) xs → all_of read (map word xs)
    ≡ Some xs
unfolding all_of
all-back word read [] all = refl
all-back word read (x ∷ xs) all =
    let is = All-head (IsWord word read) x xs all in
    rw (is.back, all-back word read xs (All-tail (IsWord word read) x xs all)) refl

some-list : {A : Type 0} (read : List ℕ → Option A) (field : List ℕ) → 0 < length field → list_of read field
    ≡ all_of read (slice_split (λ b. b == 32) field)
some-list read [] some = absurd (omega arith)
some-list read (b ∷ bytes) some = refl

some-joined : {A : Type 0} (word : A → List ℕ) (x : A) (xs : List A) → 0 < length (word x) → 0
    < length (join_with_byte 32 (map word (x ∷ xs)))
some-joined word x [] some = some
some-joined word x (y ∷ ys) some = omega (arith, length-append (word x) (32 ∷ join_with_byte 32 (map word (y ∷ ys))))

pub list-back : {A : Type 0} (word : A → List ℕ) (read : List ℕ → Option A) (xs : List A) → All (IsWord word read) xs
    → list_of read (join_with_byte 32 (map word xs)) ≡ Some xs
list-back word read [] all = refl
list-back word read (x ∷ xs) all =
    let is = All-head (IsWord word read) x xs all in
    some-list read (join_with_byte 32 (map word (x ∷ xs))) (some-joined word x xs is.some)
    ∙ rw (split-joined word read x xs is (All-tail (IsWord word read) x xs all)) (all-back word read (x ∷ xs) all)

space-low : PassesLow (λ b. b == 32)
space-low b above = ne_eqb b 32 (omega arith)

number-word : (n : ℕ) → n < 2 ^ 32 → IsWord decimal number_of n
number-word n small = record { back = number-back n small; whole = lacks-decimal (λ b. b == 32) space-low n; some = some-digits n small }

pub numbers-back : (numbers : List ℕ) → All (λ n. n < 2 ^ 32) numbers → list_of number_of (numbers_field numbers) ≡ Some numbers
numbers-back numbers small = list-back decimal number_of numbers
    (λ k d inside. number-word (get_or numbers k d) (small k d inside))

pub page-back : (page : PageData) → IsPage page → page_of (page_word page) ≡ Some page
page-back page is = rw (decode_sized-encode_lower page.0 16 is.len is.bytes) refl

page-word : (page : PageData) → IsPage page → IsWord page_word page_of page
page-word page is = record {
  back = page-back page is;
  whole = lacks-encode (λ b. b == 32) refl refl page.0;
  some = omega (arith, length-encode_with lower_digits page.0, is.len);
}

pub pages-back : (pages : List PageData) → All IsPage pages → list_of page_of (pages_field pages) ≡ Some pages
pages-back pages are = list-back page_word page_of pages (λ k d inside. page-word (get_or pages k d) (are k d inside))
