-- A text that goes on past a bound ends with a mark, which is no byte and which no read gives.
use Rattle.std.specs.Prelude.{ℕ, ◌-◌, ◌==◌, ◌&&◌, nat_le, not, Bool, List, [], ◌∷◌, ◌++◌, length, take, if◌then◌else◌}

-- the last byte of a text after this one
unfoldable pub last_of : ℕ → List ℕ → ℕ
last_of b [] = b
last_of b (c ∷ rest) = last_of c rest

-- whether a text ends with the mark
abbrev pub is_marked : List ℕ → Bool
is_marked text = last_of 0 text == 256

-- a text without its mark
abbrev pub without_mark : List ℕ → List ℕ
without_mark text = if is_marked text then take (length text - 1) text else text

-- whether a text is of at most `bound` bytes
abbrev pub is_within : ℕ → List ℕ → Bool
is_within bound text = nat_le (length text) bound && not (is_marked text)

-- a text, with a mark after it where it has more bytes than this
abbrev pub with_mark : ℕ → List ℕ → List ℕ
with_mark bound text = if is_within bound text then text else text ++ (256 ∷ [])
