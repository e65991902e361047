-- With which status the program ends.
use Rattle.std.specs.Prelude.{◌≡◌, ◌⊎◌, ℕ, Result, Ok, Err}
use Rattle.slot_types.specs.declared.refusals.Refusal.TheVariants.{NoMemory}
use Rattle.flash_commands.specs.declared.faults.Fault.{Fault}
use Rattle.flash_commands.specs.declared.faults.Fault.TheVariants.{Refused, Words, NotText, Certificate}

abbrev pub status_of : Fault → ℕ
status_of (Refused refusal) = 1
status_of (Words error) = 2
status_of NotText = 2
status_of Certificate = 3

abbrev pub outcome_status : Result (Unit {0}) Fault → ℕ
outcome_status (Ok x) = 0
outcome_status (Err fault) = status_of fault

-- why the words of a command line can not be read: one is no text, or memory is refused
abbrev pub IsUnreadable : Fault → Type 0
IsUnreadable fault = (fault ≡ NotText) ⊎ (fault ≡ Refused NoMemory)
