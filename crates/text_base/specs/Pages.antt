-- Pages as texts write them.
use Rattle.std.specs.Prelude.{◌≡◌, ℕ, List, length, Option, Some, None, Result, Ok, Err}
use Rattle.hex.specs.Hex.{IsBytes, decode_sized, encode_lower}
use Rattle.hex.specs.declared.error.FromHexError.{FromHexError}
use Rattle.slot_types.specs.declared.pages.PageData.{PageData}

-- sixteen bytes
pub record IsPage (page : PageData) : Type 0 where
  pub len : length page.0 ≡ 16
  pub bytes : IsBytes page.0

abbrev pub page_or : Result (List ℕ) FromHexError → Option PageData
page_or (Ok bytes) = Some (record { 0 = bytes })
page_or (Err fault) = None

-- the page that 32 hexadecimal digits write, in either case
abbrev pub page_of : List ℕ → Option PageData
page_of digits = page_or (decode_sized digits 16)

-- a page in 32 lower-case hexadecimal digits
abbrev pub page_word : PageData → List ℕ
page_word page = encode_lower page.0
