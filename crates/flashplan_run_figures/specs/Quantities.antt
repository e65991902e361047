-- Numbers of slots with their times, and of pages with their rates, as texts.
use Rattle.std.specs.Prelude.{ℕ, suc, pos, negsuc, ◌*◌, ◌/◌, nat_lt, if◌then◌else◌, List, [], ◌++◌, codes, Option, Some, None}
use Rattle.flashplan_slot_times.specs.Rates.{rate_text}
use Rattle.flashplan_slot_times.specs.Times.{time_text}
use Rattle.flashplan_slot_times.specs.declared.units.Units.{Units}
use Rattle.flashplan_run_figures.specs.FigureTexts.{figure_text}
use Rattle.flashplan_run_figures.specs.declared.figures.Figure.{Figure}
use Rattle.flashplan_run_figures.specs.declared.figures.Figure.TheVariants as figure
use Rattle.flashplan_run_figures.specs.declared.quantities.Quantity.{Quantity}
use Rattle.flashplan_run_figures.specs.declared.quantities.Unit.{Unit}
use Rattle.flashplan_run_figures.specs.declared.quantities.Unit.TheVariants as unit

-- slots in brackets as a time, where a slot takes `us` us; hundredths of a slot are rounded towards 0 to the us
abbrev pub time_after : ℕ → Figure → List ℕ
time_after us (figure.Whole (pos n)) = codes " (" ++ time_text (n * us) ++ codes ")"
time_after us (figure.Whole (negsuc n)) = codes " (-" ++ time_text (suc n * us) ++ codes ")"
time_after us (figure.Hundredths (pos n)) = codes " (" ++ time_text (n * us / 100) ++ codes ")"
time_after us (figure.Hundredths (negsuc n)) = codes " (-" ++ time_text (suc n * us / 100) ++ codes ")"
time_after us _ = []

-- pages of `bytes` bytes each in `slots` slots, in brackets as bytes a second; a count of pages has 32 bits
abbrev pub rate_after : (slots us bytes : ℕ) → Figure → List ℕ
rate_after slots us bytes (figure.Whole (pos n)) =
    if nat_lt n 4294967296 then codes " (" ++ rate_text (n * bytes) (slots * us) ++ codes ")" else []
rate_after slots us bytes _ = []

abbrev pub page_text : (slots us : ℕ) → Option ℕ → Figure → List ℕ
page_text slots us None f = []
page_text slots us (Some bytes) f = rate_after slots us bytes f

-- what stands behind a number, where a slot takes `us` us
abbrev pub timed_text : ℕ → Option ℕ → Unit → Figure → List ℕ
timed_text us bytes unit.One f = []
timed_text us bytes unit.Slot f = time_after us f
timed_text us bytes (unit.Page slots) f = page_text slots us bytes f

-- and nothing where that isn't known
abbrev pub known_text : (us bytes : Option ℕ) → Unit → Figure → List ℕ
known_text None bytes u f = []
known_text (Some us) bytes u f = timed_text us bytes u f

abbrev pub unit_text : Units → Unit → Figure → List ℕ
unit_text units u f = known_text units.slot_us units.page_bytes u f

abbrev pub quantity_text : Quantity → List ℕ
quantity_text q = figure_text q.figure ++ unit_text q.units q.unit q.figure
