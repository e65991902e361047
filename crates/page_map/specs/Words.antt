-- A number or none, in one word.
use Rattle.std.specs.Prelude.{◌≡◌, ℕ, zero, suc, Option, Some, None, refl}

-- 0 is none, and a number has the word after it
abbrev pub number_in : ℕ → Option ℕ
number_in zero = None
number_in (suc number) = Some number

abbrev pub word_of : Option ℕ → ℕ
word_of None = zero
word_of (Some number) = suc number

-- a word is that of its number
pub is_word_of : (word : ℕ) → word_of (number_in word) ≡ word
is_word_of zero = refl
is_word_of (suc number) = refl
