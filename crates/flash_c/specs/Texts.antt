-- The names of refusals.
use Rattle.std.specs.Prelude.{ℕ, ◌==◌, List, [], ◌∷◌, codes, if◌then◌else◌, nat_lt}

pub record CodeName : Type 0 where
  pub number : ℕ
  pub name : List ℕ

abbrev pub code_name : ℕ → List ℕ → CodeName
code_name number name = record { number = number; name = name }

-- the refusals of the store, then those of this interface, then the faults of a certificate and of a checkpoint
abbrev pub names : List CodeName
names =
    code_name 0 (codes "Ok")
    ∷ code_name 1 (codes "NoMemory")
    ∷ code_name 2 (codes "BadShape")
    ∷ code_name 3 (codes "BadPlan")
    ∷ code_name 4 (codes "UnknownDie")
    ∷ code_name 5 (codes "UnknownTask")
    ∷ code_name 6 (codes "EmptyJob")
    ∷ code_name 7 (codes "TooManyOps")
    ∷ code_name 8 (codes "BadPage")
    ∷ code_name 9 (codes "ReleasePast")
    ∷ code_name 10 (codes "BadDue")
    ∷ code_name 11 (codes "JobsFull")
    ∷ code_name 12 (codes "NoTokens")
    ∷ code_name 13 (codes "CollectorBusy")
    ∷ code_name 14 (codes "ClockEnd")
    ∷ code_name 15 (codes "DeviceFault")
    ∷ code_name 16 (codes "DieStopped")
    ∷ code_name 17 (codes "UnknownJob")
    ∷ code_name 18 (codes "PlanText")
    ∷ code_name 19 (codes "ScriptRow")
    ∷ code_name 20 (codes "ReportText")
    ∷ code_name 21 (codes "ReadFault")
    ∷ code_name 22 (codes "WriteFault")
    ∷ code_name 23 (codes "PassesFull")
    ∷ code_name 24 (codes "PassesOut")
    ∷ code_name 100 (codes "Begun")
    ∷ code_name 101 (codes "NotBegun")
    ∷ code_name 102 (codes "BadKind")
    ∷ code_name 103 (codes "NothingDone")
    ∷ code_name 104 (codes "RowsNotRising")
    ∷ code_name 105 (codes "NotQuiet")
    ∷ code_name 106 (codes "WornOut")
    ∷ code_name 107 (codes "EmptyHandle")
    ∷ code_name 108 (codes "FullHandle")
    ∷ code_name 109 (codes "NullPointer")
    ∷ code_name 110 (codes "NotTaken")
    ∷ code_name 111 (codes "NoneOverdue")
    ∷ code_name 112 (codes "WrongStep")
    ∷ code_name 113 (codes "TooManyCells")
    ∷ code_name 114 (codes "BadLabel")
    ∷ code_name 115 (codes "CheckpointStands")
    ∷ code_name 201 (codes "Empty")
    ∷ code_name 202 (codes "NotRising")
    ∷ code_name 203 (codes "UnknownJob")
    ∷ code_name 204 (codes "Unfinished")
    ∷ code_name 205 (codes "EarlyRelease")
    ∷ code_name 206 (codes "LateDue")
    ∷ code_name 207 (codes "WrongSum")
    ∷ code_name 301 (codes "OtherShape")
    ∷ code_name 302 (codes "Overfull")
    ∷ code_name 303 (codes "SecondOpen")
    ∷ code_name 304 (codes "Unprogrammed")
    ∷ code_name 305 (codes "AboveCap")
    ∷ code_name 306 (codes "OtherSum")
    ∷ code_name 307 (codes "SharedCell")
    ∷ []

-- those of a die that keeps its plan
abbrev pub plan_names : List CodeName
plan_names =
    code_name 401 (codes "TooManyWrites")
    ∷ code_name 402 (codes "TooSoon")
    ∷ code_name 403 (codes "WaitsAlready")
    ∷ code_name 404 (codes "LifeEnd")
    ∷ code_name 405 (codes "NoLife")
    ∷ code_name 406 (codes "ShortLife")
    ∷ code_name 407 (codes "BadTerms")
    ∷ code_name 408 (codes "TooMuchDemand")
    ∷ code_name 409 (codes "TooFewPages")
    ∷ code_name 410 (codes "AskWaits")
    ∷ code_name 411 (codes "NotStocked")
    ∷ code_name 501 (codes "NoSpare")
    ∷ code_name 502 (codes "NoBlock")
    ∷ []

abbrev pub name_among : List CodeName → ℕ → List ℕ
name_among [] number = codes "Unknown"
name_among (first ∷ rest) number = if number == first.number then first.name else name_among rest number

abbrev pub name_at : ℕ → List ℕ
name_at number = if nat_lt 400 number then name_among plan_names number else name_among names number
