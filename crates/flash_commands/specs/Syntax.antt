-- The words that the program takes, as clap reads them.
use Rattle.std.specs.Prelude.{codes, Bool, true}
use Rattle.clap.specs.Words.{App, Rule, new_app, with_rule, with_subcommand}
use Rattle.clap.specs.declared.builder.command.Command.{Command}
use Rattle.clap.specs.declared.builder.command.Command.TheViews.{out-Command}
use Rattle.command_arguments.specs.Arguments.{default_rule, required_rule, slots_rule}

-- `--workers W`, which is 1 where it isn't there
abbrev pub workers_rule : Rule
workers_rule = default_rule (codes "workers") (codes "1")

abbrev pub files_app : App
files_app = with_rule (with_rule (new_app (codes "run")) (required_rule (codes "PLAN"))) (required_rule (codes "SCRIPT"))

abbrev pub run_app : App
run_app = with_rule (with_rule files_app slots_rule) workers_rule

abbrev pub audit_app : App
audit_app = with_rule (new_app (codes "audit")) (required_rule (codes "REPORT"))

abbrev pub plan_app : App
plan_app = with_rule (new_app (codes "plan")) (required_rule (codes "PLAN"))

-- the program alone, which has a version
abbrev pub named_app : App
named_app = let app = new_app (codes "flashrec") in record app { top = record app.top { has_version = true } }

-- the program's command line
abbrev pub flashrec_app : App
flashrec_app = with_subcommand (with_subcommand (with_subcommand named_app run_app.top) audit_app.top) plan_app.top

-- whether a command has an argument that is global
abbrev pub has_globals : Command → Bool
has_globals c = (out-Command c).has_globals
