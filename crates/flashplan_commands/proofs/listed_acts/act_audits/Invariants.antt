use Rattle.std.proofs.Common.{ℕ, drop}
use Rattle.flashplan_commands.specs.Acts.{AuditsFiles}
use Rattle.flashplan_commands.proofs.listed_acts.act_audits.Given as goal

abbrev pub invariant-loop-name : goal.invariant-loop-name
invariant-loop-name g l = (worst : ℕ) → AuditsFiles (g.D.Folder.held l.folder) (drop l.name-index l.names) l.status worst
    → AuditsFiles (g.D.Folder.held l.folder) l.names 0 worst
