-- How long the blocks of a die last.
use Rattle.std.specs.Prelude.{◌≡◌, ◌<◌, ◌≤◌, ℕ, ◌*◌, ◌/◌, pos, None, IfSome}
use Rattle.flashplan_run_figures.specs.declared.lives.Lasting.{Lasting}
use Rattle.flashplan_run_figures.specs.declared.lives.Life.{Life}
use Rattle.flashplan_run_figures.specs.declared.lives.Rate.{Rate}
use Rattle.flashplan_run_figures.specs.declared.lives.Wearing.{Wearing}

-- microseconds of a day, and of a year of 365.25 days
abbrev pub DAY : ℕ
DAY = 86400000000

abbrev pub YEAR : ℕ
YEAR = 31557600000000

-- hundredths of an erase of a block a day, where `blocks` blocks were erased `erases` times in all, in `us`
-- microseconds
abbrev pub a_day : (erases blocks us : ℕ) → ℕ
a_day erases blocks us = erases * DAY * 100 / (blocks * us)

-- after how many hundredths of `unit` microseconds a block is worn out that lasts for `endurance` erases, and goes on
-- like that
abbrev pub lasts : (unit erases blocks us endurance : ℕ) → ℕ
lasts unit erases blocks us endurance = endurance * (blocks * us) * 100 / (erases * unit)

pub record IsRate (erases blocks us endurance : ℕ) (rate : Rate) : Type 0 where
  pub a_day_is : rate.a_day ≡ pos (a_day erases blocks us)
  pub days_are : rate.days ≡ pos (lasts DAY erases blocks us endurance)
  pub years_are : rate.years ≡ pos (lasts YEAR erases blocks us endurance)

-- how often a block may be erased, and how long a slot takes, are known
abbrev pub IsLife : Life → Type 0
IsLife life = (1 ≤ life.endurance) × (1 ≤ life.slot_us)

-- the microseconds of a run
abbrev pub time_of : Wearing → Life → ℕ
time_of wearing life = wearing.slots * life.slot_us

-- How long blocks last that go on as in a run, with its length in hundredths of a second: by the mean of all, and by
-- the one that was erased most; by neither from fewer than ten erases.
pub record IsLasting (wearing : Wearing) (life : Life) (lasting : Lasting) : Type 0 where
  pub run_is : lasting.run ≡ pos (time_of wearing life / 10000)
  pub mean_is : IfSome lasting.mean (IsRate wearing.erases wearing.blocks (time_of wearing life) life.endurance)
  pub worst_is : IfSome lasting.worst (IsRate wearing.greatest 1 (time_of wearing life) life.endurance)
  pub few_in_all : wearing.erases < 10 → lasting.mean ≡ None
  pub few_of_one : wearing.greatest < 10 → lasting.worst ≡ None
