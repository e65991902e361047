use Rattle.task_script.specs.Feeds.{feed_of}
use Rattle.task_script.proofs.ExactBack.{exact_back}
use Rattle.task_script.proofs.RunPages.{runs_are_exact}
use Rattle.task_script.proofs.laws.run_reports_come_back.Goals as goal

pub returns : goal.returns
returns c text plans slots count old new few bound ran =
    exact_back plans ran.runs few (runs_are_exact slots (feed_of ran.items) plans ran.runs ran.pages bound ran.ran)
