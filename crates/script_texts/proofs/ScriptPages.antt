-- The rows of a script ask for pages of sixteen bytes.
use Rattle.std.proofs.Common.{◌≡◌, ℕ, ◌+◌, ◌-◌, ◌*◌, ◌==◌, Bool, true, false, cond, List, [], ◌∷◌, Option, Some, None, Result, Ok, Err}
use Rattle.std.proofs.Common.{refl, ap, sym, ◌∙◌, subst, length, take, drop, arith, nat_lt}
use Rattle.std.specs.Prelude.{All, OnOk, option_map}
use Rattle.std.specs.List.{AllByRecursion, slice_split}
use Rattle.std.proofs.lemmas.Option.{none-some, same_Some}
use Rattle.std.proofs.lemmas.List.Elements.{All-from_recursion, All-nil}
use Rattle.hex.specs.Hex.{decode_sized}
use Rattle.hex.specs.declared.error.FromHexError.{FromHexError}
use Rattle.hex.proofs.HexLemmas.{decode_of-ok, decode_sized-ok, decode_sized-twice}
use Rattle.slot_types.specs.declared.events.Op.{Op}
use Rattle.slot_types.specs.declared.events.Op.TheVariants.{Read, Trim}
use Rattle.slot_types.specs.declared.pages.PageData.{PageData}
use Rattle.slot_types.specs.declared.refusals.Refusal.{Refusal}
use Rattle.script_texts.specs.AskedPages.{AsksPages, WritesPage}
use Rattle.text_base.specs.Readings.{Shows}
use Rattle.slot_types.specs.Arrivals.{arrival_of}
use Rattle.slot_types.specs.declared.events.JobHead.{JobHead}
use Rattle.script_texts.specs.ScriptRows.{fault}
use Rattle.text_base.specs.Number.{number_of}
use Rattle.text_base.specs.Ops.{op_of, ops_of, ops_or, write_of, write_to}
use Rattle.text_base.specs.Pages.{IsPage}
use Rattle.text_base.specs.Words.{all_of, and_word}
use Rattle.text_base.specs.Pages.{page_of, page_or}

-- Operations

decoded_page : (digits bytes : List ℕ) → decode_sized digits 16 ≡ Ok bytes → IsPage (record { 0 = bytes })
decoded_page digits bytes e =
    let twice : length digits ≡ 2 * 16 = decode_sized-ok digits 16 bytes e in
    let ok = decode_of-ok digits bytes (sym (decode_sized-twice digits 16 twice) ∙ e) in
    record { len = omega (arith, twice, ok.2); bytes = ok.3 }

page_read : (digits : List ℕ) (page : PageData) → page_of digits ≡ Some page → IsPage page
page_read digits page = by_bytes (decode_sized digits 16) refl
  where
    by_bytes : (r : Result (List ℕ) FromHexError) → decode_sized digits 16 ≡ r → page_or r ≡ Some page → IsPage page
    by_bytes (Ok bytes) at e = subst IsPage (same_Some _ page e) (decoded_page digits bytes at)
    by_bytes (Err fault) at e = absurd (none-some page e)

write_read : (digits : List ℕ) (number : Option ℕ) (op : Op) → write_to number (page_of digits) ≡ Some op → WritesPage op
write_read digits number op = by_parts number (page_of digits) refl
  where
    by_parts : (n : Option ℕ) (p : Option PageData) → page_of digits ≡ p → write_to n p ≡ Some op → WritesPage op
    by_parts None p at e = absurd (none-some op e)
    by_parts (Some n) None at e = absurd (none-some op e)
    by_parts (Some n) (Some page) at e = subst WritesPage (same_Some _ op e) (page_read digits page at)

write_word : (word : List ℕ) (op : Op) → write_of word ≡ Some op → WritesPage op
write_word word op = by_tests (nat_lt (length word) 33) _
  where
    IsWrite : Option Op → Type 0
    IsWrite o = o ≡ Some op → WritesPage op

    by_tests : (short equals : Bool) → IsWrite (cond short None
        (cond equals (write_to (number_of (take (length word - 33) word)) (page_of (drop (length word - 33 + 1) word))) None))
    by_tests true equals e = absurd (none-some op e)
    by_tests false true e = write_read (drop (length word - 33 + 1) word) (number_of (take (length word - 33) word)) op e
    by_tests false false e = absurd (none-some op e)

read_word : (number : Option ℕ) (op : Op) → option_map Read number ≡ Some op → WritesPage op
read_word None op e = absurd (none-some op e)
read_word (Some page) op e = subst WritesPage (same_Some _ op e) tt

trim_word : (number : Option ℕ) (op : Op) → option_map Trim number ≡ Some op → WritesPage op
trim_word None op e = absurd (none-some op e)
trim_word (Some page) op e = subst WritesPage (same_Some _ op e) tt

op_read : (word : List ℕ) (op : Op) → op_of word ≡ Some op → WritesPage op
op_read [] op e = absurd (none-some op e)
op_read (letter ∷ rest) op e = by_letter (letter == 82) (letter == 87) (letter == 84) e
  where
    by_letter : (reads writes trims : Bool)
        → cond reads (option_map Read (number_of rest)) (cond writes (write_of rest) (cond trims (option_map Trim (number_of rest)) None))
        ≡ Some op
        → WritesPage op
    by_letter true writes trims e = read_word (number_of rest) op e
    by_letter false true trims e = write_word rest op e
    by_letter false false true e = trim_word (number_of rest) op e
    by_letter false false false e = absurd (none-some op e)

words_read : (words : List (List ℕ)) (ops : List Op) → all_of op_of words ≡ Some ops → AllByRecursion WritesPage ops
unfolding all_of
words_read [] ops e = subst (λ (os : List Op). AllByRecursion WritesPage os) (same_Some [] ops e) tt
words_read (word ∷ words) ops e = by_word (op_of word) refl (all_of op_of words) (words_read words) e
  where
    by_word : (o : Option Op) → op_of word ≡ o → (more : Option (List Op))
        → ((found : List Op) → more ≡ Some found → AllByRecursion WritesPage found) → and_word o more ≡ Some ops
        → AllByRecursion WritesPage ops
    by_word None at more again e = absurd (none-some ops e)
    by_word (Some op) at None again e = absurd (none-some ops e)
    by_word (Some op) at (Some found) again e = subst (λ (os : List Op). AllByRecursion WritesPage os) (same_Some (op ∷ found) ops e)
        (op_read word op at, again found refl)

pub ops_read : (field : List ℕ) (ops : List Op) → ops_of field ≡ Some ops → All WritesPage ops
ops_read [] ops e = subst (All WritesPage) (same_Some [] ops e) (All-nil WritesPage)
ops_read (b ∷ bytes) ops e = All-from_recursion WritesPage ops (words_read (slice_split (λ c. c == 32) (b ∷ bytes)) ops e)

-- Rows

abbrev the_result : {A : Type 0} → A → Result A Refusal
the_result x = Ok x

abbrev given_or : {A : Type 0} → A → Result A Refusal → A
given_or other (Ok x) = x
given_or other (Err e) = other

same_ok : {A : Type 0} (x y : A) → the_result x ≡ Ok y → x ≡ y
same_ok x y e = ap (given_or x) e

pub ops_found : (line : ℕ) (o : Option (List Op)) (ops : List Op) → ops_or line o ≡ Ok ops → o ≡ Some ops
ops_found line None ops e = absurd cc
ops_found line (Some found) ops e = ap Some (same_ok found ops e)

-- the operations that were put write pages
pub put_read : (r : Result (Unit {0}) Refusal) (line : ℕ) (field : List ℕ) (ops : List Op) (head : JobHead) → head.collects ≡ false
    → Shows (λ _. ops) r (ops_or line (ops_of field)) → OnOk r (AsksPages (arrival_of head ops))
put_read (Ok x) line field ops head job put = rw job (ops_read field ops (ops_found line (ops_of field) ops put))
put_read (Err e) line field ops head job put = tt
