-- What the words of a command line ask for.
use Rattle.std.specs.Prelude.{ℕ, List, [], ◌∷◌, codes, Option, Some, None, option_and_then, if◌then◌else◌}
use Rattle.std.specs.Str.{bytes_eq}
use Rattle.clap.specs.Words.{Row, Text, first_of, subcommand_of}
use Rattle.clap.specs.Kinds.{Kinds, or_else}
use Rattle.clap.specs.Faults.{fault_of}
use Rattle.clap.specs.declared.error.kind.ErrorKind.TheVariants.{ValueValidation}
use Rattle.text_base.specs.Number.{number_of}
use Rattle.flash_commands.specs.Ranges.{number_within}
use Rattle.flash_commands.specs.Syntax.{flashrec_app}
use Rattle.flash_commands.specs.declared.commands.Command.{Command}
use Rattle.flash_commands.specs.declared.commands.Command.TheVariants as command

-- a command, with the names of its files as texts
pub data CommandText : Type 0 where
  Alone : CommandText
  Run : (plan script : Text) (slots workers : ℕ) → CommandText
  Audit : (report : Text) → CommandText
  Plan : (plan : Text) → CommandText

abbrev pub text_of_command : Command → CommandText
text_of_command command.Alone = Alone
text_of_command (command.Run plan script slots workers) = Run plan.now script.now slots.count workers.count
text_of_command (command.Audit report) = Audit report.now
text_of_command (command.Plan plan) = Plan plan.now

-- the next step, where there is a value
infixl 10 ◌>>=◌
abbrev pub ◌>>=◌ : {A B : Type 0} → Option A → (A → Option B) → Option B
o >>= f = option_and_then f o

-- the number that a text writes, if it does
abbrev pub number_between : ℕ → ℕ → Text → Option ℕ
number_between least most text = number_of text >>= number_within least most

abbrev pub run_of : List Row → Option CommandText
run_of rows = do
  plan ← first_of (codes "PLAN") rows
  script ← first_of (codes "SCRIPT") rows
  slots ← first_of (codes "slots") rows >>= number_between 0 1048576
  workers ← first_of (codes "workers") rows >>= number_between 1 16
  Some (Run plan script slots workers)

abbrev pub audit_of : List Row → Option CommandText
audit_of rows = do
  report ← first_of (codes "REPORT") rows
  Some (Audit report)

abbrev pub plan_of : List Row → Option CommandText
plan_of rows = do
  plan ← first_of (codes "PLAN") rows
  Some (Plan plan)

abbrev pub command_named : Text → List Row → Option CommandText
command_named name rows =
    if bytes_eq name (codes "run") then run_of rows
    else if bytes_eq name (codes "audit") then audit_of rows
    else if bytes_eq name (codes "plan") then plan_of rows
    else None

-- what the command that clap met in the words asks for, if its numbers lie in their ranges
abbrev pub command_asked_by : Option (Text × List Row) → Option CommandText
command_asked_by None = Some Alone
command_asked_by (Some met) = command_named met.0 met.1

abbrev pub command_asked : List Text → Option CommandText
command_asked words = command_asked_by (subcommand_of flashrec_app words)

abbrev pub range_fault : Option CommandText → Kinds
range_fault None = ValueValidation ∷ []
range_fault (Some task) = []

-- what is wrong with the words: clap's own faults, and then a number that is none or out of its range
abbrev pub words_fault : List Text → Kinds
words_fault words = or_else (fault_of flashrec_app words) (range_fault (command_asked words))
