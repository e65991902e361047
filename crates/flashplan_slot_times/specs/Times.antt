-- Numbers of slots, and how long they take, as texts.
use Rattle.std.specs.Prelude.{ℕ, ◌*◌, ◌/◌, ◌%◌, ◌==◌, nat_lt, List, [], ◌++◌, codes, decimal, Option, Some, None, if◌then◌else◌}

-- thousandths of a unit behind its whole ones, without zeros at the end
abbrev pub thousandths_text : ℕ → List ℕ
thousandths_text t =
    if t == 0 then []
    else if t % 100 == 0 then codes "." ++ decimal (t / 100)
    else if t % 10 == 0 then codes "." ++ decimal (t / 100) ++ decimal (t / 10 % 10)
    else codes "." ++ decimal (t / 100) ++ decimal (t / 10 % 10) ++ decimal (t % 10)

-- `parts` parts in units, where a unit has `unit` parts, rounded down to the thousandth
abbrev pub units_text : (parts unit : ℕ) → List ℕ
units_text parts unit = decimal (parts / unit) ++ thousandths_text (parts % unit * 1000 / unit)

-- a number of us: in us below 1 ms, in ms below 10 s, in s below 10 min, in min below 10 h, and else in h
abbrev pub time_text : ℕ → List ℕ
time_text us =
    if nat_lt us 1000 then decimal us ++ codes " us"
    else if nat_lt us 10000000 then units_text us 1000 ++ codes " ms"
    else if nat_lt us 600000000 then units_text us 1000000 ++ codes " s"
    else if nat_lt us 36000000000 then units_text us 60000000 ++ codes " min"
    else units_text us 3600000000 ++ codes " h"

-- a number of slots; and then in brackets how long they take, where it is known how many us one takes
abbrev pub slots_text : Option ℕ → ℕ → List ℕ
slots_text None n = decimal n
slots_text (Some us) n = decimal n ++ codes " (" ++ time_text (n * us) ++ codes ")"
