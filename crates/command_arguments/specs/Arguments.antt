-- The arguments of both programs, as clap reads them.
use Rattle.std.specs.Prelude.{codes, true, Some, [], ◌∷◌}
use Rattle.clap.specs.declared.builder.action.ArgAction.TheVariants.{SetTrue}
use Rattle.clap.specs.Words.{Rule, Text, new_rule}

-- an argument that has to be there
abbrev pub required_rule : Text → Rule
required_rule id = record (new_rule id) { required = true }

-- an option with a value, which has to be there
abbrev pub needed_rule : Text → Rule
needed_rule id = record (required_rule id) { long = Some id; value_names = 1 }

-- an option with a value, which may be left out
abbrev pub option_rule : Text → Rule
option_rule id = record (new_rule id) { long = Some id; value_names = 1 }

-- an option with a value, which has this one where it is left out
abbrev pub default_rule : Text → Text → Rule
default_rule id value = record (option_rule id) { defaults = value ∷ [] }

-- a flag, which is true where it is there
abbrev pub flag_rule : Text → Rule
flag_rule id = record (new_rule id) { long = Some id; action = Some SetTrue }

-- `--slots N`, which has to be there
abbrev pub slots_rule : Rule
slots_rule = needed_rule (codes "slots")
