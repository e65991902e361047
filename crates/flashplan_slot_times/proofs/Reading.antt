-- The length of a slot is read as it was written.
use Rattle.std.proofs.Common.{◌≡◌, ℕ, ◌+◌, ◌-◌, ◌*◌, ◌<◌, ◌==◌, List, [], ◌∷◌, ◌++◌, true, false, Option, Some, length, length-append}
use Rattle.std.proofs.Common.{take, drop, refl, ap, ◌∙◌, sym, append_assoc, rules, arith}
use Rattle.std.specs.Prelude.{codes, decimal, nat_lt, ◌^◌, position}
use Rattle.std.specs.List.{position_or_len}
use Rattle.std.specs.Char.{is_ascii_digit}
use Rattle.std.specs.Str.{all_ascii_digits}
use Rattle.std.proofs.Math.Seq.{take-append_seam}
use Rattle.std.proofs.lemmas.Bool.{and_parts, ne_eqb}
use Rattle.std.proofs.lemmas.Fmt.{decimal_nonempty, digits_decimal, digits_value-decimal, length-decimal-le}
use Rattle.std.proofs.lemmas.Option.{same_Some}
use Rattle.std.proofs.lemmas.Str.Parse.{IsNumeralModel, numerals_by_fold}
use Rattle.text_base.specs.Number.{number_from, number_of}
use Rattle.flashplan_slot_times.specs.Comments.{is_space, slot_line}

abbrev read_on : ℕ → List ℕ → ℕ
read_on n [] = n
read_on n (c ∷ cs) = read_on (10 * n + (c - 48)) cs

own : IsNumeralModel (λ ds. all_ascii_digits ds ≡ true) (read_on 0)
own = numerals_by_fold _ (search rules) read_on (search rules)

-- digits are read on
from-digits : (ds : List ℕ) (n : ℕ) → all_ascii_digits ds ≡ true → read_on n ds < 4294967296 → number_from n ds ≡ Some (read_on n ds)
unfolding number_from
from-digits [] n all small = grind (arith)
from-digits (c ∷ cs) n all small =
    let parts = and_parts (is_ascii_digit c) (all_ascii_digits cs) all in
    rw parts.0 (from-digits cs (10 * n + (c - 48)) parts.1 small)

-- what is written of a number is read as that number
number-back : (n : ℕ) → n < 2 ^ 32 → number_of (decimal n) ≡ Some n
number-back n small =
    let big : n < 2 ^ 64 = omega arith in
    let digits = digits_decimal own n big in
    let value = digits_value-decimal own n big in
    let short = length-decimal-le 10 n (omega arith) (omega arith) big in
    let some = decimal_nonempty n big in
    let zero_not : (length (decimal n) == 0) ≡ false = ne_eqb _ 0 (omega arith) in
    let not_long : nat_lt 10 (length (decimal n)) ≡ false = grind (arith) in
    rw (zero_not, not_long) (from-digits (decimal n) 0 digits (omega (arith, value)) ∙ ap Some value)

-- the first space after digits is the one that follows them
after-digits : (ds more : List ℕ) → all_ascii_digits ds ≡ true → position_or_len is_space (ds ++ 32 ∷ more) ≡ length ds
after-digits [] more all = refl
after-digits (c ∷ cs) more all =
    let parts = and_parts (is_ascii_digit c) (all_ascii_digits cs) all in
    let other : (c == 32) ≡ false = grind (arith, parts.0) in
    let next : position_or_len is_space (cs ++ 32 ∷ more) ≡ length cs = after-digits cs more parts.1 in
    rw other (omega (arith, next))

found-after : (ds more : List ℕ) → all_ascii_digits ds ≡ true → position is_space (ds ++ 32 ∷ more) ≡ Some (length ds)
found-after ds more all =
    let inside : nat_lt (length ds) (length (ds ++ 32 ∷ more)) ≡ true = grind (arith, length-append ds (32 ∷ more)) in
    rw (after-digits ds more all, inside) refl

-- what follows the front of a text that begins so
after-front : (text rest : List ℕ) (us : ℕ) → text ≡ slot_line us ++ rest → drop 12 text ≡ decimal us ++ 32 ∷ (codes "us; " ++ rest)
after-front text rest us is = ap (drop 12) is ∙ append_assoc (decimal us) (codes " us; ") rest

-- where the length ends, and what is read there
pub ends-there : (text rest : List ℕ) (us : ℕ) → us < 4294967296 → text ≡ slot_line us ++ rest
    → position is_space (drop 12 text) ≡ Some (length (decimal us))
ends-there text rest us small is =
    rw (after-front text rest us is) (found-after (decimal us) (codes "us; " ++ rest) (digits_decimal own us (omega arith)))

pub read-there : (text rest : List ℕ) (us at : ℕ) → us < 4294967296 → text ≡ slot_line us ++ rest
    → position is_space (drop 12 text) ≡ Some at → number_of (take at (drop 12 text)) ≡ Some us
read-there text rest us at small is found =
    let same : at ≡ length (decimal us) = same_Some at (length (decimal us)) (sym found ∙ ends-there text rest us small is) in
    rw (same, after-front text rest us is, take-append_seam (decimal us) (32 ∷ (codes "us; " ++ rest))) (number-back us (omega arith))
