-- A datasheet: what its text says of a part and its tasks.
use Rattle.std.specs.Prelude.{◌≡◌, ◌⊎◌, ℕ, ◌*◌, pos, T, ⊤, List, [], ◌∷◌, codes, Option, None, Some, option_and_then, IsSomeAnd, MatchOption}
use Rattle.std.specs.Float.Ieee.{Float, binary64, div, eq, of_int}
use Rattle.toml.specs.Data.{Data, Items, no_items, item, Members, get_member, as_array, as_float, as_integer, as_str, as_table}
use Rattle.toml.specs.Parse.{parse_document}
use Rattle.plan_texts.specs.Tables.{small_of}
use Rattle.flashplan_fit.specs.declared.datasheets.Asked.{Asked}
use Rattle.flashplan_fit.specs.declared.datasheets.Asked.TheVariants as asked
use Rattle.flashplan_fit.specs.declared.datasheets.Need.{Need}
use Rattle.flashplan_fit.specs.declared.datasheets.Part.{Part}
use Rattle.flashplan_fit.specs.declared.datasheets.Sheet.{Sheet}
use Rattle.flashplan_fit.specs.declared.datasheets.Suspends.{Suspends}
use Rattle.flashplan_fit.specs.declared.datasheets.Suspends.TheVariants as suspends

-- the whole number that a value is
abbrev pub whole_of : Data → Option ℕ
whole_of d = option_and_then small_of (as_integer d)

-- the whole number at a key
abbrev pub number_at : Members → List ℕ → Option ℕ
number_at ms k = option_and_then whole_of (get_member k ms)

-- the number nearest to `parts` parts, where a unit has `unit` of them: 2.5 for 2,500 parts of a thousand
abbrev pub fraction : (unit parts : ℕ) → Float
fraction unit parts = div binary64 (of_int binary64 (pos parts)) (of_int binary64 (pos unit))

-- a value says `parts` parts, where a unit has `unit` of them: by a whole number of units, or by a decimal number
abbrev pub SaysParts : (unit : ℕ) → Data → (parts : ℕ) → Type 0
SaysParts unit d parts = IsSomeAnd (whole_of d) (λ n. parts ≡ n * unit) ⊎ IsSomeAnd (as_float d) (λ x. T (eq x (fraction unit parts)))

-- the value at a key does
abbrev pub PartsAt : Members → List ℕ → (unit parts : ℕ) → Type 0
PartsAt ms k unit parts = IsSomeAnd (get_member k ms) (λ d. SaysParts unit d parts)

-- it does, or there is no such key, and no such time
abbrev pub PartsOrNone : Members → List ℕ → (unit : ℕ) → Option ℕ → Type 0
PartsOrNone ms k unit said = MatchOption (get_member k ms) (said ≡ None) (λ d. IsSomeAnd said (SaysParts unit d))

-- it does, or there is no such key, and the time is 0
abbrev pub PartsOrZero : Members → List ℕ → (unit parts : ℕ) → Type 0
PartsOrZero ms k unit parts = MatchOption (get_member k ms) (parts ≡ 0) (λ d. SaysParts unit d parts)

-- how many erases of a part are suspended at a time: any number of them, where nothing is said
abbrev pub suspends_word : Suspends → List ℕ
suspends_word suspends.Any = codes "any"
suspends_word suspends.One = codes "one"
suspends_word suspends.No = codes "none"

abbrev pub IsSuspends : Members → Suspends → Type 0
IsSuspends ms said = MatchOption (get_member (codes "suspends") ms) (said ≡ suspends.Any) (λ d. as_str d ≡ Some (suspends_word said))

-- a part that suspends no erase needs no time for it
abbrev pub TurnAt : Members → List ℕ → Suspends → ℕ → Type 0
TurnAt ms k suspends.No us = PartsOrZero ms k 1 us
TurnAt ms k suspends.One us = PartsAt ms k 1 us
TurnAt ms k suspends.Any us = PartsAt ms k 1 us

-- the top table says this of the part
pub record IsPartOf (ms : Members) (part : Part) : Type 0 where
  pub read_us : PartsAt ms (codes "read_us") 1 part.read_us
  pub program_us : PartsAt ms (codes "program_us") 1 part.program_us
  pub program_typical_us : PartsOrNone ms (codes "program_typical_us") 1 part.program_typical_us
  pub erase_us : PartsAt ms (codes "erase_us") 1 part.erase_us
  pub suspended : IsSuspends ms part.suspends
  pub suspend_us : TurnAt ms (codes "suspend_us") part.suspends part.suspend_us
  pub resume_us : TurnAt ms (codes "resume_us") part.suspends part.resume_us
  pub transfer_us : PartsOrZero ms (codes "transfer_us") 1 part.transfer_us
  pub margin_us : PartsOrZero ms (codes "margin_us") 1 part.margin_us
  pub slot_us : PartsOrNone ms (codes "slot_us") 1 part.slot_us
  pub endurance : PartsOrNone ms (codes "endurance") 1 part.endurance
  pub blocks : number_at ms (codes "blocks") ≡ Some part.blocks
  pub pages : number_at ms (codes "pages") ≡ Some part.pages
  pub logical : number_at ms (codes "logical") ≡ Some part.logical

-- a task's table says that it asks for this: reads and writes once a period, a burst, or pages at a rate
abbrev pub Asks : Members → Asked → Type 0
Asks ms (asked.Periodic period_us reads writes) = PartsAt ms (codes "period_ms") 1000 period_us
    × (number_at ms (codes "reads") ≡ Some reads) × (number_at ms (codes "writes") ≡ Some writes)
Asks ms (asked.Burst pages every_us) = (number_at ms (codes "burst_pages") ≡ Some pages)
    × PartsAt ms (codes "at_most_once_in_s") 1000000 every_us
Asks ms (asked.Rate micropages_per_s) = PartsAt ms (codes "pages_per_s") 1000000 micropages_per_s

-- a task's table says that it needs this
pub record IsNeedOf (ms : Members) (need : Need) : Type 0 where
  pub asks : Asks ms need.asked
  pub deadline : PartsOrNone ms (codes "deadline_ms") 1000 need.deadline_us

-- what a value says that is a task's table
abbrev pub IsNeedIn : Data → Need → Type 0
IsNeedIn d need = (ms : Members) × (as_table d ≡ Some ms) × IsNeedOf ms need

-- the tables of the tasks say, one after the other, that they need these
abbrev pub AreNeedsIn : Items → List Need → Type 0
AreNeedsIn no_items [] = ⊤
AreNeedsIn no_items (need ∷ needs) = ⊥
AreNeedsIn (item d ds) [] = ⊥
AreNeedsIn (item d ds) (need ∷ needs) = IsNeedIn d need × AreNeedsIn ds needs

-- a table is that of this datasheet
pub record IsSheetIn (table : Members) (sheet : Sheet) : Type 0 where
  pub part : IsPartOf table sheet.part
  pub tasks : Items
  pub listed : option_and_then as_array (get_member (codes "task") table) ≡ Some tasks
  pub needs : AreNeedsIn tasks sheet.needs

-- a text is that of this datasheet
pub record IsSheetOf (text : List ℕ) (sheet : Sheet) : Type 0 where
  pub table : Members
  pub parsed : parse_document text ≡ Some table
  pub said : IsSheetIn table sheet
