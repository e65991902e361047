-- What the words of a command line ask for.
use Rattle.std.specs.Prelude.{Bool, false, List, [], ◌∷◌, codes, Option, Some, None}
use Rattle.std.specs.Str.{bytes_eq}
use Rattle.clap.specs.Words.{Row, Text, first_of, subcommand_of}
use Rattle.clap.specs.Kinds.{Kinds, or_else}
use Rattle.clap.specs.Faults.{fault_of}
use Rattle.clap.specs.declared.error.kind.ErrorKind.TheVariants.{ValueValidation}
use Rattle.flashplan_words.specs.RequestTexts.{AskedText, RequestText}
use Rattle.flashplan_words.specs.Commands.{request_named}
use Rattle.flashplan_words.specs.Syntax.{flashplan_app}
use Rattle.flashplan_words.specs.Values.{◌>>=◌}

-- whether a flag is given, where there is such a flag
abbrev pub is_given : Option Text → Bool
is_given None = false
is_given (Some text) = bytes_eq text (codes "true")

-- whether a command is to be strict, which not all may be
abbrev pub strict_in : List Row → Bool
strict_in rows = is_given (first_of (codes "strict") rows)

-- a request, the file that it writes, and whether it is quiet, and strict
abbrev pub asked_by : Option RequestText → List Row → Option AskedText
asked_by asked rows = do
  request ← asked
  output ← first_of (codes "output") rows
  quiet ← first_of (codes "quiet") rows
  Some (request, (output, (bytes_eq quiet (codes "true"), strict_in rows)))

-- what the command that clap met in the words asks for, if there is one, and its numbers lie in their ranges; and which file it writes
abbrev pub command_asked_by : Option (Text × List Row) → Option AskedText
command_asked_by None = None
command_asked_by (Some met) = asked_by (request_named met.0 met.1) met.1

abbrev pub command_asked : List Text → Option AskedText
command_asked words = command_asked_by (subcommand_of flashplan_app words)

abbrev pub range_fault : Option AskedText → Kinds
range_fault None = ValueValidation ∷ []
range_fault (Some task) = []

-- what is wrong with the words: clap's own faults, and then that no command is named, a number is none or too great, or
-- options don't go together
abbrev pub words_fault : List Text → Kinds
words_fault words = or_else (fault_of flashplan_app words) (range_fault (command_asked words))
