-- What stands at the front of a text, where that is an operation.
use Rattle.std.proofs.Common.{◌≡◌, ℕ, ◌+◌, ◌-◌, List, [], ◌∷◌, ◌++◌, false, Option, Some}
use Rattle.std.proofs.Common.{length, drop, length-append, refl, sym, ap, ◌∙◌, append_assoc, arith, suc}
use Rattle.std.specs.Prelude.{nat_lt, option_map, slice_index}
use Rattle.std.proofs.lemmas.List.Elements.{All-append, All-cons}
use Rattle.std.proofs.Math.Seq.{take-append_seam}
use Rattle.slot_types.specs.declared.events.Op.TheVariants.{Read, Write, Trim}
use Rattle.slot_types.specs.declared.pages.PageData.{PageData}
use Rattle.text_base.specs.Number.{number_of}
use Rattle.text_base.specs.Ops.{op_of, write_of}
use Rattle.text_base.specs.Pages.{page_of}
use Rattle.text_base.specs.Words.{StartsWith}
use Rattle.text_base.proofs.StartLaws.{NoSpace, page-digits}

pub read-starts : (text rest : List ℕ) (n : ℕ) → StartsWith number_of text n rest → StartsWith op_of (82 ∷ text) (Read n) rest
read-starts text rest n s = record {
  front = 82 ∷ s.front;
  parts = ap (λ (t : List ℕ). 82 ∷ t) s.parts;
  says = ap (option_map Read) s.says;
  whole = All-cons NoSpace 82 s.front refl s.whole;
}

pub trim-starts : (text rest : List ℕ) (n : ℕ) → StartsWith number_of text n rest → StartsWith op_of (84 ∷ text) (Trim n) rest
trim-starts text rest n s = record {
  front = 84 ∷ s.front;
  parts = ap (λ (t : List ℕ). 84 ∷ t) s.parts;
  says = ap (option_map Trim) s.says;
  whole = All-cons NoSpace 84 s.front refl s.whole;
}

at-seam : (xs : List ℕ) (y : ℕ) (ys : List ℕ) → slice_index (xs ++ y ∷ ys) (length xs) ≡ y
at-seam [] y ys = refl
at-seam (x ∷ xs) y ys = at-seam xs y ys

past-seam : (xs : List ℕ) (y : ℕ) (ys : List ℕ) → drop (length xs + 1) (xs ++ y ∷ ys) ≡ ys
past-seam [] y ys = refl
past-seam (x ∷ xs) y ys =
    let next : suc (length xs) + 1 ≡ suc (length xs + 1) = omega arith in
    rw next (past-seam xs y ys)

write-reads : (number digits : List ℕ) (n : ℕ) (page : PageData) → number_of number ≡ Some n → page_of digits ≡ Some page → length digits
    ≡ 32
    → write_of (number ++ 61 ∷ digits) ≡ Some (Write n page)
write-reads number digits n page says read long =
    let word : List ℕ = number ++ 61 ∷ digits in
    let len : length (number ++ 61 ∷ digits) ≡ length number + 33 = omega (arith, length-append number (61 ∷ digits), long) in
    let enough : nat_lt (length number + 33) 33 ≡ false = grind (arith) in
    let place : length number + 33 - 33 ≡ length number = omega arith in
    rw (len, enough, place, at-seam number 61 digits, take-append_seam number (61 ∷ digits), past-seam number 61 digits, says, read) refl

pub write-starts : (text left digits rest : List ℕ) (n : ℕ) (page : PageData) → StartsWith number_of text n left → left ≡ 61 ∷ digits
    → StartsWith page_of digits page rest
    → StartsWith op_of (87 ∷ text) (Write n page) rest
write-starts text left digits rest n page s sign p =
    let of_page = page-digits p.front page p.says in
    record {
      front = 87 ∷ (s.front ++ 61 ∷ p.front);
      parts = ap (λ (t : List ℕ). 87 ∷ t)
          (s.parts ∙ ap (λ (t : List ℕ). s.front ++ t) (sign ∙ ap (λ (t : List ℕ). 61 ∷ t) p.parts)
          ∙ sym (append_assoc s.front (61 ∷ p.front) rest));
      says = write-reads s.front p.front n page s.says p.says of_page.0;
      whole = All-cons NoSpace 87 _ refl (All-append NoSpace s.front (61 ∷ p.front) s.whole (All-cons NoSpace 61 p.front refl of_page.1));
    }
