use Rattle.std.proofs.Common.{◌≡◌, ◌++◌, ℕ, List, OnOk, Result, append_assoc, codes, decimal, sym, subst}
use Rattle.slot_core.specs.declared.next_slot.NextAct.{NextAct}
use Rattle.slot_core.specs.declared.next_slot.NextAct.TheVariants as acts
use Rattle.flashplan_power_cuts.specs.Texts.{act_text}
use Rattle.flashplan_power_cuts.proofs.texts.put_act.Goals as goal

four : {T E : Type 0} (result : Result T E) (items old a b c d : List ℕ) → OnOk result (items ≡ old ++ (a ++ (b ++ (c ++ d))))
    → OnOk result (items ≡ old ++ (a ++ b ++ c ++ d))
four result items old a b c d said = simp append_assoc said

five : {T E : Type 0} (result : Result T E) (items old a b c d e : List ℕ)
    → OnOk result (items ≡ old ++ (a ++ (b ++ (c ++ (d ++ e))))) → OnOk result (items ≡ old ++ (a ++ b ++ c ++ d ++ e))
five result items old a b c d e said = simp append_assoc said

-- what a job does, where the act is known by its variant, and the job by its number
of_act : {T E : Type 0} (result : Result T E) (items old : List ℕ) (number job : ℕ) (act kind : NextAct) → number ≡ job → act ≡ kind
    → OnOk result (items ≡ old ++ act_text number kind) → OnOk result (items ≡ old ++ act_text job act)
of_act result items old number job act kind same is said =
    subst (λ (j : ℕ). OnOk result (items ≡ old ++ act_text j act)) same
    (subst (λ (a : NextAct). OnOk result (items ≡ old ++ act_text number a)) (sym is) said)

pub returns-in-Read : goal.returns-in-Read
returns-in-Read c =
    let w = c.write in
    let text = c.args.text.now.items in
    of_act w.result w.new.self.items text _ c.args.job c.args.act (acts.Read c.in-Read.page) c.job.view_is c.in-Read.is
    (five w.result w.new.self.items text (codes "job ") (decimal c.job.inside.0) (codes " reads page ") (decimal c.in-Read.page) (codes " in")
    w.ensures.bytes)

pub returns-in-Write : goal.returns-in-Write
returns-in-Write c =
    let w = c.write-in-Write in
    let text = c.args.text.now.items in
    of_act w.result w.new.self.items text _ c.args.job c.args.act (acts.Write c.in-Write.page) c.job.view_is c.in-Write.is
    (five w.result w.new.self.items text (codes "job ") (decimal c.job.inside.0) (codes " writes page ") (decimal c.in-Write.page) (codes " to")
    w.ensures.bytes)

pub returns-in-Trim : goal.returns-in-Trim
returns-in-Trim c =
    let w = c.write-in-Trim in
    let text = c.args.text.now.items in
    of_act w.result w.new.self.items text _ c.args.job c.args.act (acts.Trim c.in-Trim.page) c.job.view_is c.in-Trim.is
    (four w.result w.new.self.items text (codes "job ") (decimal c.job.inside.0) (codes " trims page ") (decimal c.in-Trim.page)
    w.ensures.bytes)

pub returns-in-CopyRead : goal.returns-in-CopyRead
returns-in-CopyRead c =
    let w = c.write-in-CopyRead in
    let text = c.args.text.now.items in
    of_act w.result w.new.self.items text _ c.args.job c.args.act (acts.CopyRead c.in-CopyRead.page) c.job.view_is c.in-CopyRead.is
    (five w.result w.new.self.items text (codes "collection ") (decimal c.job.inside.0) (codes " reads page ") (decimal c.in-CopyRead.page) (codes " in")
    w.ensures.bytes)

pub returns-in-CopyProgram : goal.returns-in-CopyProgram
returns-in-CopyProgram c =
    let w = c.write-in-CopyProgram in
    let text = c.args.text.now.items in
    of_act w.result w.new.self.items text _ c.args.job c.args.act (acts.CopyProgram c.in-CopyProgram.page) c.job.view_is c.in-CopyProgram.is
    (five w.result w.new.self.items text (codes "collection ") (decimal c.job.inside.0) (codes " copies page ") (decimal c.in-CopyProgram.page) (codes " to")
    w.ensures.bytes)
