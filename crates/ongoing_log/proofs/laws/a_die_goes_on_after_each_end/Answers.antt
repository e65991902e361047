use Rattle.ongoing_log.proofs.Passing.{plan_stays}
use Rattle.ongoing_log.proofs.GoingOn.{shuts_down, loses_power, begins_after}
use Rattle.ongoing_log.proofs.laws.a_die_goes_on_after_each_end.Goals as goal

pub returns : goal.returns
returns c = record {
  shut_down = λ first terms life d k quiet counts none next. shuts_down first terms life d k quiet counts none;
  lost_power = λ first terms life entered d passed kept start opens plan full next. loses_power first terms life entered d passed kept start opens plan full;
  begins = λ first terms life long past passed kept. begins_after first terms life long past passed kept;
  plan = λ first life past passed. plan_stays first life past passed;
}
