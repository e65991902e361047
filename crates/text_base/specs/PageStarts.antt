-- Texts that begin with a page, whatever its bytes are.
use Rattle.std.specs.Prelude.{◌<◌, ◌≤◌, ℕ, List, slice_index, unwrap_or}
use Rattle.hex.specs.Hex.{hex_digit_value}
use Rattle.slot_types.specs.declared.pages.PageData.{PageData}
use Rattle.text_base.specs.Pages.{page_of}
use Rattle.text_base.specs.Words.{IsFirstWord, StartsWith}

-- the value of a digit in either case, and 255 of any other byte
abbrev pub value_of : ℕ → ℕ
value_of digit = unwrap_or (hex_digit_value digit) 255

-- none of the first bytes has a greater value
abbrev pub AreUpTo : ℕ → List ℕ → ℕ → Type 0
AreUpTo most digits count = (i : ℕ) → i < count → value_of (slice_index digits i) ≤ most

-- a text begins with a page, and the rest stands after it
abbrev pub BeginsWithPage : List ℕ → List ℕ → Type 0
BeginsWithPage text rest = (page : PageData) × StartsWith page_of text page rest

-- the first word of a text is a page, and these words follow it
abbrev pub FirstIsPage : List ℕ → List (List ℕ) → Type 0
FirstIsPage text more = (page : PageData) × IsFirstWord page_of text page more
