-- What the files of a command hold.
use Rattle.std.specs.Prelude.{◌≡◌, ℕ, List, [], Option, Some, IfSome}
use Rattle.flash_commands.specs.declared.commands.Command.{Command}
use Rattle.flash_commands.specs.declared.commands.Command.TheVariants as command

-- what files hold, by their names, where it is known
abbrev pub FileContents : Type 0
FileContents = List ℕ → Option (List ℕ)

-- a reader gives what a file holds, where that is known
abbrev pub GivesFile : Option (List ℕ) → Option (List ℕ) → Type 0
GivesFile file text = IfSome file (λ bytes. text ≡ Some bytes)

-- what the file of the plan or of the report holds; no byte where the command has none
abbrev pub first_held : FileContents → Command → Option (List ℕ)
first_held held (command.Audit report) = held report.now
first_held held (command.Plan plan) = held plan.now
first_held held (command.Run plan script slots workers) = held plan.now
first_held held command.Alone = Some []

-- and that of the script
abbrev pub second_held : FileContents → Command → Option (List ℕ)
second_held held (command.Run plan script slots workers) = held script.now
second_held held _ = Some []
