-- Sets of blocks as bits.
use Rattle.std.proofs.Common.{◌≡◌, ◌≢◌, ℕ, ◌+◌, ◌*◌, ◌/◌, ◌%◌, ◌^◌, ◌<◌, List, length, get_or, set, bit_and, bit_or, w64, sym, ap, ◌∙◌, inl, inr, arith}
use Rattle.std.proofs.Common.{length-set, get_or-set_same, get_or-set_other}
use Rattle.std.specs.Int.{bit_at, bit_not, trailing_zeros}
use Rattle.std.proofs.lemmas.Bool.{cases_eq, cases_lt}
use Rattle.std.proofs.lemmas.List.{get_or_past}
use Rattle.std.proofs.lemmas.Nat.Bits.{bit_at-zero, bit_at-trailing_zeros, bit_at_and, bit_at_set_same, bit_at_set_other, bit_at-lt}
use Rattle.std.proofs.lemmas.Nat.Bits.{bit_at_clear_same, bit_at_clear_other}
use Rattle.flash_volume.specs.FreeBlocks.{bit_of, Summarizes, HasSet, IsLeastIn}
use Rattle.flash_volume.proofs.Running.{in_list}

-- a word with the bit of a block set, and without it
abbrev pub word_with : ℕ → ℕ → ℕ
word_with word bit = bit_or word (1 * 2 ^ bit % 2 ^ 64)

abbrev pub word_without : ℕ → ℕ → ℕ
word_without word bit = bit_and word (bit_not w64 (1 * 2 ^ bit % 2 ^ 64))

module _ (words : List ℕ) (block word : ℕ) (within : block / 64 < length words) where
  bit_same : bit_of (set words (block / 64) word) block ≡ bit_at word (block % 64)
  bit_same = ap (λ (n : ℕ). bit_at n (block % 64)) (get_or-set_same words (block / 64) word 0 within)

  -- a word that keeps its other bits keeps those of the other blocks
  bit_other : ((i : ℕ) → i < 64 → i ≢ block % 64 → bit_at word i ≡ bit_at (get_or words (block / 64) 0) i) → (other : ℕ)
      → other ≢ block → bit_of (set words (block / 64) word) other ≡ bit_of words other
  bit_other kept other differs =
      elim (cases_eq (other / 64) (block / 64)) [
        | inl same ↦ rw (same, get_or-set_same words (block / 64) word 0 within)
            (kept (other % 64) (omega arith) (λ index. differs (omega arith)))
        | inr apart ↦ ap (λ (n : ℕ). bit_at n (other % 64)) (get_or-set_other words (block / 64) (other / 64) word 0 apart)
      ]

module _ (words : List ℕ) (block old : ℕ) (within : block / 64 < length words) (is : old ≡ get_or words (block / 64) 0) where
  pub was_set : HasSet block 1 words (set words (block / 64) (word_with old (block % 64)))
  was_set =
      let index : block % 64 < 64 = omega arith in
      record {
        here = bit_same words block (word_with old (block % 64)) within ∙ bit_at_set_same w64 old (block % 64) index;
        others = bit_other words block (word_with old (block % 64)) within
            (λ i below differs. bit_at_set_other w64 old (block % 64) index i differs ∙ ap (λ (n : ℕ). bit_at n i) is);
        len = length-set words (block / 64) (word_with old (block % 64));
      }

  pub was_cleared : HasSet block 0 words (set words (block / 64) (word_without old (block % 64)))
  was_cleared =
      let index : block % 64 < 64 = omega arith in
      record {
        here = bit_same words block (word_without old (block % 64)) within ∙ bit_at_clear_same w64 old (block % 64) index;
        others = bit_other words block (word_without old (block % 64)) within
            (λ i below differs. bit_at_clear_other w64 old (block % 64) index i below differs ∙ ap (λ (n : ℕ). bit_at n i) is);
        len = length-set words (block / 64) (word_without old (block % 64));
      }

-- a number with a bit that is 1 isn't 0
some_bit : (word bit : ℕ) → bit_at word bit ≡ 1 → 0 < word
some_bit word bit is =
    elim (cases_eq word 0) [
      | inl none ↦ absurd (omega (arith, is, ap (λ (n : ℕ). bit_at n bit) none, bit_at-zero bit))
      | inr some ↦ omega arith
    ]

module _ (words : List ℕ) (summary word value : ℕ) (sums : Summarizes words summary) (within : word < length words) where
  -- a word that isn't 0 any more, or still isn't
  pub sums_some : 0 < value → Summarizes (set words word value) (word_with summary word)
  sums_some some =
      let index : word < 64 = omega (arith, within, sums.few) in
      record {
        few = omega (arith, sums.few, length-set words word value);
        some = λ w bit.
            elim (cases_eq w word) [
              | inl same ↦ omega (arith, some, ap (λ (n : ℕ). get_or (set words word value) n 0) same, get_or-set_same words word value 0 within)
              | inr other ↦ omega (
                arith,
                sums.some w (sym (bit_at_set_other w64 summary word index w other) ∙ bit),
                get_or-set_other words word w value 0 other,
              )
            ];
        none = λ w bit.
            elim (cases_eq w word) [
              | inl same ↦ absurd (omega (arith, bit, ap (λ (n : ℕ). bit_at (word_with summary word) n) same, bit_at_set_same w64 summary word index))
              | inr other ↦ get_or-set_other words word w value 0 other
                  ∙ sums.none w (sym (bit_at_set_other w64 summary word index w other) ∙ bit)
            ];
      }

  -- a word that still isn't 0
  pub sums_still : 0 < value → 0 < get_or words word 0 → Summarizes (set words word value) summary
  sums_still some before = record {
    few = omega (arith, sums.few, length-set words word value);
    some = λ w bit.
        elim (cases_eq w word) [
          | inl same ↦ omega (arith, some, ap (λ (n : ℕ). get_or (set words word value) n 0) same, get_or-set_same words word value 0 within)
          | inr other ↦ omega (arith, sums.some w bit, get_or-set_other words word w value 0 other)
        ];
    none = λ w bit.
        elim (cases_eq w word) [
          | inl same ↦ absurd (omega (arith, before, sums.none w bit, ap (λ (n : ℕ). get_or words n 0) same))
          | inr other ↦ get_or-set_other words word w value 0 other ∙ sums.none w bit
        ];
  }

  -- a word that is 0 now
  pub sums_none : value ≡ 0 → Summarizes (set words word value) (word_without summary word)
  sums_none none =
      let index : word < 64 = omega (arith, within, sums.few) in
      record {
        few = omega (arith, sums.few, length-set words word value);
        some = λ w bit.
            elim (cases_eq w word) [
              | inl same ↦ absurd (omega (
                arith,
                bit,
                ap (λ (n : ℕ). bit_at (word_without summary word) n) same,
                bit_at_clear_same w64 summary word index,
              ))
              | inr other ↦ omega (
                arith,
                sums.some w (omega (
                  arith,
                  bit,
                  bit_at-lt summary w,
                  bit_at_and summary (bit_not w64 (1 * 2 ^ word % 2 ^ 64)) w,
                )),
                get_or-set_other words word w value 0 other,
              )
            ];
        none = λ w bit.
            elim (cases_eq w word) [
              | inl same ↦ ap (λ (n : ℕ). get_or (set words word value) n 0) same ∙ get_or-set_same words word value 0 within ∙ none
              | inr other ↦
                  elim (cases_lt w 64) [
                    | inl below ↦ get_or-set_other words word w value 0 other
                        ∙ sums.none w (sym (bit_at_clear_other w64 summary word index w below other) ∙ bit)
                    | inr past ↦ get_or_past (set words word value) w 0 (omega (arith, past, sums.few, length-set words word value))
                  ]
            ];
      }

-- a word with a bit set isn't 0
pub some_with : (word bit : ℕ) → bit < 64 → 0 < word_with word bit
some_with word bit below = some_bit (word_with word bit) bit (bit_at_set_same w64 word bit below)

module _ (words : List ℕ) (summary : ℕ) (sums : Summarizes words summary) where
  empty_word : (block : ℕ) → bit_at summary (block / 64) ≡ 0 → bit_of words block ≡ 0
  empty_word block none = ap (λ (n : ℕ). bit_at n (block % 64)) (sums.none (block / 64) none) ∙ bit_at-zero (block % 64)

  pub none_in : summary ≡ 0 → (block : ℕ) → bit_of words block ≡ 0
  none_in none block = empty_word block (ap (λ (n : ℕ). bit_at n (block / 64)) none ∙ bit_at-zero (block / 64))

  module _ (some : 0 < summary) (fits : summary < 2 ^ 64) where
    -- the first word that isn't 0
    pub first_word : (trailing_zeros w64 summary < length words) × (0 < get_or words (trailing_zeros w64 summary) 0)
    first_word =
        let lowest = bit_at-trailing_zeros w64 summary some fits in
        let here = sums.some (trailing_zeros w64 summary) lowest.1 in
        (in_list words (trailing_zeros w64 summary) here, here)

    pub least_in : (bits : ℕ) → bits ≡ get_or words (trailing_zeros w64 summary) 0 → bits < 2 ^ 64
        → IsLeastIn words (64 * trailing_zeros w64 summary + trailing_zeros w64 bits)
    least_in bits is small =
        let w : ℕ = trailing_zeros w64 summary in
        let b : ℕ = trailing_zeros w64 bits in
        let lowest = bit_at-trailing_zeros w64 summary some fits in
        let least = bit_at-trailing_zeros w64 bits (omega (arith, is, first_word.1)) small in
        let at : (64 * w + b) / 64 ≡ w = omega (arith, least.0) in
        let index : (64 * w + b) % 64 ≡ b = omega (arith, least.0) in
        record {
          within = ap (λ (n : ℕ). bit_at (get_or words n 0) ((64 * w + b) % 64)) at ∙ ap (λ (n : ℕ). bit_at (get_or words w 0) n) index
              ∙ ap (λ (n : ℕ). bit_at n b) (sym is) ∙ least.1;
          first = λ earlier before.
              elim (cases_lt (earlier / 64) w) [
                | inl lower ↦ empty_word earlier (lowest.2 (earlier / 64) lower)
                | inr not_lower ↦
                    let same : earlier / 64 ≡ w = omega (arith, before, not_lower, least.0) in
                    ap (λ (n : ℕ). bit_at (get_or words n 0) (earlier % 64)) same ∙ ap (λ (n : ℕ). bit_at n (earlier % 64)) (sym is)
                    ∙ least.2 (earlier % 64) (omega (arith, before, same))
              ];
        }
