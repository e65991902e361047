-- Runs of slots that carried the same, and the slots that they stand for.
use Rattle.std.specs.Prelude.{List, [], ◌∷◌, ◌++◌, replicate}
use Rattle.late_cert.specs.declared.carried.Run.{Run}
use Rattle.late_cert.specs.Schedule.{Slots}

-- the slots of runs, in order
abbrev pub slots_of : List Run → Slots
slots_of [] = []
slots_of (run ∷ runs) = replicate run.length run.number ++ slots_of runs
