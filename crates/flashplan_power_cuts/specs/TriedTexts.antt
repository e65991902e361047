-- What came of cuts at each call of a run, as a text.
use Rattle.std.specs.Prelude.{ℕ, ◌++◌, List, [], ◌∷◌, codes, decimal, Option, Some, None}
use Rattle.text_base.specs.Pages.{page_word}
use Rattle.flashplan_slot_times.specs.Times.{slots_text}
use Rattle.flashplan_labelled_parts.specs.Texts.{unmounted_text}
use Rattle.flashplan_labelled_parts.specs.declared.cuts.Leaves.{Leaves}
use Rattle.flashplan_labelled_parts.specs.declared.cuts.Leaves.TheVariants as leaves
use Rattle.flashplan_power_cuts.specs.Texts.{of_die}
use Rattle.flashplan_power_cuts.specs.declared.runs.TriedRun.{TriedRun}
use Rattle.flashplan_power_cuts.specs.declared.trials.Amiss.{Amiss}
use Rattle.flashplan_power_cuts.specs.declared.trials.Amiss.TheVariants as amiss
use Rattle.flashplan_power_cuts.specs.declared.trials.Tally.{Tally}
use Rattle.flashplan_power_cuts.specs.declared.trials.WrongCut.{WrongCut}

-- how many calls a run has, how many cuts of them were tried, and how many of mounts; and how many mounts undid a block
abbrev pub cuts_line : ℕ → Tally → List ℕ
cuts_line die tally = of_die die ++ codes ": calls " ++ decimal tally.calls ++ codes ", cuts " ++ decimal tally.cuts
    ++ codes ", cuts of mounts " ++ decimal tally.mount_cuts ++ codes ", blocks undone " ++ decimal tally.undone ++ 10 ∷ []

-- how many pages gave what
abbrev pub gave_line : ℕ → Tally → List ℕ
gave_line die tally = of_die die ++ codes ": pages: last write " ++ decimal tally.last ++ codes ", in progress "
    ++ decimal tally.in_progress ++ codes ", blank " ++ decimal tally.blank ++ codes ", trimmed " ++ decimal tally.earlier ++ 10 ∷ []

-- the most of each that a mount did
abbrev pub most_line : ℕ → Tally → Option ℕ → List ℕ
most_line die tally slot_us = of_die die ++ codes ": at most of a mount: copies " ++ decimal tally.most.copies ++ codes ", erases "
    ++ decimal tally.most.erases ++ codes ", slots " ++ slots_text slot_us tally.most_slots ++ 10 ∷ []

abbrev pub tally_text : ℕ → Tally → Option ℕ → List ℕ
tally_text die tally slot_us = cuts_line die tally ++ gave_line die tally ++ most_line die tally slot_us

abbrev pub leaves_word : Leaves → List ℕ
leaves_word leaves.Blank = codes "blank"
leaves_word leaves.Torn = codes "torn"
leaves_word leaves.Whole = codes "whole"

-- at which call of the mount that was cut, too
abbrev pub mount_call_text : Option ℕ → List ℕ
mount_call_text None = []
mount_call_text (Some call) = codes ", and at call " ++ decimal call ++ codes " of the mount"

abbrev pub amiss_text : Amiss → List ℕ
amiss_text (amiss.Page said) = codes ": page " ++ decimal said.page ++ codes " gives " ++ page_word said.bytes
amiss_text (amiss.Unmounted unmounted) = codes ": " ++ unmounted_text unmounted

-- of a wrong cut: at which call of the run, and what that leaves
abbrev pub wrong_at : (die call : ℕ) → (leaves : List ℕ) → List ℕ
wrong_at die call leaves = of_die die ++ codes ": WRONG at call " ++ decimal call ++ codes ", which leaves " ++ leaves

-- the first cut that was wrong; or that none was
abbrev pub wrong_text : ℕ → Option WrongCut → List ℕ
wrong_text die None = of_die die ++ codes ": none was wrong" ++ 10 ∷ []
wrong_text die (Some wrong) =
    wrong_at die wrong.call (leaves_word wrong.leaves) ++ mount_call_text wrong.mount_call ++ amiss_text wrong.amiss ++ 10 ∷ []

abbrev pub tried_text : ℕ → TriedRun → Option ℕ → List ℕ
tried_text die run slot_us = tally_text die run.tally slot_us ++ wrong_text die run.wrong
