-- What a bounded reader has left.
use Rattle.std.specs.Prelude.{ℕ, List, [], ◌∷◌, Option, Some, None, option_map, if◌then◌else◌}
use Rattle.std.specs.Io.KnownBytes.{prepend_known}
use Rattle.text_base.specs.Marks.{with_mark}
use Rattle.text_base.specs.declared.bounded.Bounded.{Bounded}

-- the byte that was read past the bound, which is not given
abbrev pub kept_bytes : Option ℕ → List ℕ
kept_bytes None = []
kept_bytes (Some b) = b ∷ []

-- the bytes of the text that are left, also those past the bound, where they are known
abbrev pub text_left : {R : Type 0} → (R → Option (List ℕ)) → Bounded R → Option (List ℕ)
text_left rem b = if b.ended then Some [] else prepend_known (kept_bytes b.past) (rem b.inner)

-- what is left for reads: the same, with a mark after it where it goes on past the bound
abbrev pub bounded_remaining : {R : Type 0} → (R → Option (List ℕ)) → Bounded R → Option (List ℕ)
bounded_remaining rem b = option_map (with_mark b.room) (text_left rem b)
