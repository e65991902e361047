-- How the digits of a page are read.
use Rattle.std.proofs.Common.{◌≡◌, ℕ, ◌+◌, ◌*◌, ◌%◌, ◌<◌, ◌≤◌, List, length, take, drop, slice_index, slice_set}
use Rattle.std.proofs.Common.{Option, Some, None, unwrap_or, Ok, refl, sym, ap, arith, ◌⊎◌, inl, inr, ◌∙◌, zero, suc, replicate, length-set}
use Rattle.std.proofs.Math.Nat.{eq-or-lt_of_le}
use Rattle.std.proofs.lemmas.List.{length-take-le}
use Rattle.text_base.proofs.StartLaws.{page-starts}
use Rattle.slot_types.specs.declared.pages.PageData.{PageData}
use Rattle.hex.specs.Hex.{decode_pairs, digit_or_error, hex_digit_value, pair_value}
use Rattle.hex.proofs.Pairs.{decode_start, decode_done, decode_sized-pairs, decode_step, prepend}
use Rattle.text_base.specs.PageStarts.{AreUpTo, BeginsWithPage, value_of}
use Rattle.text_base.specs.Pages.{page_of}

-- a byte that has the value of a digit is one
digit-read : (c i v : ℕ) (o : Option ℕ) → v ≡ unwrap_or o 255 → v ≤ 15 → digit_or_error c i o ≡ Ok v
digit-read c i v (Some w) is small = ap Ok (sym is)
digit-read c i v None is small = absurd (omega arith)

pair-read : (a b i high low : ℕ) → high ≡ value_of a → low ≡ value_of b → high ≤ 15 → low ≤ 15 → pair_value a b i ≡ Ok (high * 16 + low)
pair-read a b i high low is-high is-low small-high small-low =
    rw (digit-read a i high (hex_digit_value a) is-high small-high, digit-read b (i + 1) low (hex_digit_value b) is-low small-low) refl

-- the first bytes are those of the first digits
abbrev pub HasRead : List ℕ → List ℕ → ℕ → Type 0
HasRead text bytes i = decode_pairs 0 text ≡ prepend (take i bytes) (decode_pairs (2 * i) (drop (2 * i) text))

-- one more byte, from two digits
pub read-more : (text bytes : List ℕ) (i high low v : ℕ) → length text ≡ 32 → i < 16 → i < length bytes
    → high ≡ value_of (slice_index text (2 * i)) → low ≡ value_of (slice_index text (2 * i + 1)) → high ≤ 15 → low ≤ 15
    → v ≡ (high * 16 % 256 + low) % 256 → HasRead text bytes i → HasRead text (slice_set bytes i v) (i + 1)
read-more text bytes i high low v long inside room is-high is-low small-high small-low made so-far =
    let byte : v ≡ high * 16 + low = omega (arith, made, small-high, small-low) in
    rw byte (decode_step text bytes i (high * 16 + low) (omega arith) room
    (pair-read (slice_index text (2 * i)) (slice_index text (2 * i + 1)) (2 * i) high low is-high is-low small-high small-low) so-far)

-- all sixteen bytes
pub read-all : (text bytes : List ℕ) (i : ℕ) → length text ≡ 32 → length bytes ≡ 16 → 16 ≤ i → HasRead text bytes i → page_of text
    ≡ Some (record { 0 = bytes })
read-all text bytes i long room over so-far =
    rw (decode_sized-pairs text 16 (omega (arith, long)) (omega (arith, long)), decode_done text bytes i (omega arith) (omega arith) so-far)
    refl

-- Pages that aren't made

-- one more digit is looked at
pub up-to-more : (digits : List ℕ) (most most2 i v : ℕ) → AreUpTo most digits i → v ≡ value_of (slice_index digits i) → most ≤ most2
    → v ≤ most2 → AreUpTo most2 digits (i + 1)
up-to-more digits most most2 i v h is grows small k below = by (eq-or-lt_of_le (omega (arith, below)))
  where
    by : (k ≡ i) ⊎ (k < i) → value_of (slice_index digits k) ≤ most2
    by (inl same) = rw (same, ← is) small
    by (inr less) = omega (arith, h k less, grows)

-- the first bytes of the page that 32 digits write
record Front (text : List ℕ) (i : ℕ) : Type 0 where
  pub bytes : List ℕ
  pub len : length bytes ≡ 16
  pub read : HasRead text bytes i

front : (text : List ℕ) → length text ≡ 32 → AreUpTo 15 text 32 → (i : ℕ) → i ≤ 16 → Front text i
front text long small zero low = record { bytes = replicate 16 0; len = refl; read = decode_start text (replicate 16 0) }
front text long small (suc i) low =
    let h = front text long small i (omega (arith, low)) in
    let high = value_of (slice_index text (2 * i)) in
    let next = value_of (slice_index text (2 * i + 1)) in
    let made = (high * 16 % 256 + next) % 256 in
    record {
      bytes = slice_set h.bytes i made;
      len = length-set h.bytes i made ∙ h.len;
      read = rw (← suc-is i) (read-more text h.bytes i high next made long (omega (arith, low)) (omega (arith, low, h.len)) refl refl
          (small (2 * i) (omega (arith, low))) (small (2 * i + 1) (omega (arith, low))) refl h.read);
    }
  where
    suc-is : (n : ℕ) → n + 1 ≡ suc n
    suc-is n = omega arith

-- 32 digits write a page
pub writes-page : (text : List ℕ) (most : ℕ) → length text ≡ 32 → AreUpTo most text 32 → most ≤ 15
    → (page : PageData) × (page_of text ≡ Some page)
writes-page text most long are small =
    let f = front text long (λ i below. omega (arith, are i below, small)) 16 (omega arith) in
    (record { 0 = f.bytes }, read-all text f.bytes 16 long f.len (omega arith) f.read)

-- so a text begins with a page
pub begins-with-page : (text rest : List ℕ) (most : ℕ) → 32 ≤ length text → AreUpTo most (take 32 text) 32 → most ≤ 15
    → rest ≡ drop 32 text → BeginsWithPage text rest
begins-with-page text rest most room are small is =
    let page = writes-page (take 32 text) most (length-take-le 32 text room) are small in
    (page.0, rw is (page-starts text page.0 page.1))
