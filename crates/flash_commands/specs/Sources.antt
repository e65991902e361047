-- What the texts of a command have, once they are open.
use Rattle.std.specs.Prelude.{ℕ, List, [], Option, Some}
use Rattle.flash_commands.specs.declared.commands.Command.{Command}
use Rattle.flash_commands.specs.declared.files.Source.{Source}
use Rattle.flash_commands.specs.declared.files.Source.TheVariants.{File, Nothing}
use Rattle.flash_commands.specs.Files.{GivesFile, FileContents, first_held, second_held}

-- what a text has left, where it is known: a file what its reader has, and no file nothing
abbrev pub source_remaining : {R : Type 0} → (R → Option (List ℕ)) → Source R → Option (List ℕ)
source_remaining rem (File file) = rem file
source_remaining rem Nothing = Some []

-- the files that a command names are open, and each gives what it holds
pub record AreOpen {R : Type 0} (rem : R → Option (List ℕ)) (held : FileContents) (c : Command) (first second : Source R) : Type 0 where
  pub first_text : GivesFile (first_held held c) (source_remaining rem first)
  pub second_text : GivesFile (second_held held c) (source_remaining rem second)
