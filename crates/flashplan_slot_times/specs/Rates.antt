-- How much comes in a time, and which part of a whole something is, as texts.
use Rattle.std.specs.Prelude.{ℕ, ◌*◌, List, ◌++◌, codes, max}
use Rattle.flashplan_slot_times.specs.Times.{units_text}

-- `bytes` bytes once in `us` us, in millions of bytes a second: a byte each us is one
abbrev pub rate_text : (bytes us : ℕ) → List ℕ
rate_text bytes us = units_text bytes (max us 1) ++ codes " MB/s"

-- a part of a whole, in hundredths
abbrev pub share_text : (part whole : ℕ) → List ℕ
share_text part whole = units_text (part * 100) (max whole 1) ++ codes " %"
