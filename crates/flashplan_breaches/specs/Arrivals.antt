-- A job or a collection that comes, as the rules of plans see it.
use Rattle.plan_rules.specs.Keeping.{TaskArrival}
use Rattle.flashplan_breaches.specs.declared.coming.Arrived.{Arrived}

abbrev pub arrival_of : Arrived → TaskArrival
arrival_of a = record { at = a.at; collects = a.collects; task = a.task; release = a.release; due = a.due; ops = a.ops.now }
