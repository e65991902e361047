-- What came of a cut, as a text.
use Rattle.std.specs.Prelude.{◌≡◌, ℕ, ◌==◌, ◌||◌, Bool, ◌++◌, List, [], ◌∷◌, flat_map, codes, decimal, position}
use Rattle.std.specs.Prelude.{Option, Some, None, is_some, if◌then◌else◌}
use Rattle.slot_core.specs.declared.next_slot.NextAct.{NextAct}
use Rattle.slot_core.specs.declared.next_slot.NextAct.TheVariants as acts
use Rattle.stepped_die.specs.declared.calls.Begun.{Begun}
use Rattle.stepped_die.specs.Stepped.{Stepped}
use Rattle.text_base.specs.Pages.{page_word}
use Rattle.flashplan_slot_times.specs.Times.{slots_text}
use Rattle.flashplan_labelled_parts.specs.Mounts.{took}
use Rattle.flashplan_labelled_parts.specs.declared.costs.MountCosts.{MountCosts}
use Rattle.flashplan_labelled_parts.specs.declared.cuts.Leaves.{Leaves}
use Rattle.flashplan_labelled_parts.specs.declared.cuts.Leaves.TheVariants as leaves
use Rattle.flashplan_labelled_parts.specs.declared.mounts.MountEnd.{MountEnd}
use Rattle.flashplan_labelled_parts.specs.declared.part_calls.PartCall.{PartCall}
use Rattle.flashplan_labelled_parts.specs.declared.part_calls.PartCall.TheVariants as calls
use Rattle.flashplan_power_cuts.specs.CutDies.{Cutting}
use Rattle.flashplan_power_cuts.specs.Said.{held_by}
use Rattle.flashplan_power_cuts.specs.declared.erasing.InErase.{InErase}
use Rattle.flashplan_power_cuts.specs.declared.page_writes.PageWrite.{PageWrite}
use Rattle.flashplan_power_cuts.specs.declared.runs.CutRun.{CutRun}
use Rattle.flashplan_power_cuts.specs.declared.said.Gives.{Gives}
use Rattle.flashplan_power_cuts.specs.declared.said.Gives.TheVariants as gives
use Rattle.flashplan_power_cuts.specs.declared.said.PageSaid.{PageSaid}

abbrev pub of_die : ℕ → List ℕ
of_die die = codes "die " ++ decimal die

-- The call in which the power goes

abbrev pub act_text : ℕ → NextAct → List ℕ
act_text job (acts.Read page) = codes "job " ++ decimal job ++ codes " reads page " ++ decimal page ++ codes " in"
act_text job (acts.Write page) = codes "job " ++ decimal job ++ codes " writes page " ++ decimal page ++ codes " to"
act_text job (acts.Trim page) = codes "job " ++ decimal job ++ codes " trims page " ++ decimal page
act_text job (acts.CopyRead page) = codes "collection " ++ decimal job ++ codes " reads page " ++ decimal page ++ codes " in"
act_text job (acts.CopyProgram page) = codes "collection " ++ decimal job ++ codes " copies page " ++ decimal page ++ codes " to"
act_text job (acts.Erase block) = codes "collection " ++ decimal job ++ codes " erases"

-- what the slot does, and which job or collection has it
abbrev pub runs_text : Option (ℕ × NextAct) → List ℕ
runs_text None = []
runs_text (Some (job, act)) = act_text job act

-- where it does that; of an erase, in which of its slots
abbrev pub cell_text : PartCall → ℕ → List ℕ
cell_text (calls.Read place) slot = codes " block " ++ decimal place.block ++ codes " cell " ++ decimal place.page
cell_text (calls.Program place label erases bytes) slot =
    codes " block " ++ decimal place.block ++ codes " cell " ++ decimal place.page ++ codes ", serial " ++ decimal label.serial
cell_text (calls.EraseSlot block) slot = codes " block " ++ decimal block ++ codes ", slot " ++ decimal slot

-- what is left of it
abbrev pub left_text : Leaves → List ℕ
left_text leaves.Blank = codes "nothing of it is done"
left_text leaves.Torn = codes "it is torn"
left_text leaves.Whole = codes "it is done"

abbrev pub slot_text : (die slot number : ℕ) → List ℕ
slot_text die slot number =
    of_die die ++ codes ": the power goes in slot " ++ decimal slot ++ codes ", at call " ++ decimal number ++ codes " of its device: "

abbrev pub call_line : (die number : ℕ) → Begun → PartCall → (slot : ℕ) → Leaves → List ℕ
call_line die number begun call slot left =
    slot_text die begun.slot number ++ runs_text begun.runs ++ cell_text call slot ++ codes "; " ++ left_text left ++ 10 ∷ []

-- of the slot that has begun, if one has
abbrev pub call_text : (die number : ℕ) → Option Begun → PartCall → (slot : ℕ) → Leaves → List ℕ
call_text die number None call slot left = []
call_text die number (Some begun) call slot left = call_line die number begun call slot left

-- Blocks in erase

abbrev pub unit_text : ℕ → List ℕ
unit_text slots = if slots == 1 then codes "slot" else codes "slots"

abbrev pub in_erase_text : InErase → List ℕ
in_erase_text own = codes "block " ++ decimal own.block ++ codes " after " ++ decimal own.slots ++ codes " " ++ unit_text own.slots

abbrev pub erasing_text : ℕ → List InErase → List ℕ
erasing_text die [] = of_die die ++ codes ": no block is in erase" ++ 10 ∷ []
erasing_text die (first ∷ rest) =
    of_die die ++ codes ": in erase: " ++ in_erase_text first ++ flat_map (λ own. codes ", " ++ in_erase_text own) rest ++ 10 ∷ []

-- The mount

abbrev pub undone_text : ℕ → Option ℕ → List ℕ
undone_text die None = []
undone_text die (Some block) = of_die die ++ codes ": the mount undoes block " ++ decimal block ++ 10 ∷ []

abbrev pub calls_text : MountCosts → List ℕ
calls_text costs = codes "labels " ++ decimal costs.labels ++ codes ", copies " ++ decimal costs.copies ++ codes ", erases "
    ++ decimal costs.erases ++ codes ", erase slots " ++ decimal costs.erase_slots

abbrev pub mount_line : (die : ℕ) → MountCosts → (most : ℕ) → Option ℕ → List ℕ
mount_line die costs most slot_us = of_die die ++ codes ": mount: " ++ calls_text costs ++ codes ", slots "
    ++ slots_text slot_us (took costs) ++ codes ", at most " ++ slots_text slot_us most ++ 10 ∷ []

abbrev pub aside_line : (die aside next : ℕ) → List ℕ
aside_line die aside next = of_die die ++ codes ": then block " ++ decimal aside
    ++ codes " stands aside, and the next serial is " ++ decimal next ++ 10 ∷ []

abbrev pub mount_text : ℕ → MountEnd → Option ℕ → List ℕ
mount_text die end slot_us = undone_text die end.undone ++ mount_line die end.costs end.most slot_us
    ++ aside_line die end.mounted.aside end.mounted.next

-- Pages

abbrev pub is_of : ℕ → PageWrite → Bool
is_of page write = write.page == page

-- one of these writes is of the page
abbrev pub has_page : List PageWrite → ℕ → Bool
has_page writes page = is_some (position (is_of page) writes)

-- what a page gives that a run of this die left, in which all this was written
abbrev pub gives_text : Stepped → (earlier writes : List PageWrite) → PageSaid → Gives → List ℕ
gives_text die earlier writes said gives.Last = page_word said.bytes ++ codes ", its last write"
gives_text die earlier writes said gives.InProgress = page_word said.bytes ++ codes ", the write in progress"
gives_text die earlier writes said gives.Blank =
    if has_page earlier said.page || has_page writes said.page then codes "blank, and trimmed" else codes "blank, and never written"
gives_text die earlier writes said gives.Earlier = page_word said.bytes ++ codes ", a write from before it was trimmed"
gives_text die earlier writes said gives.Wrong =
    page_word said.bytes ++ codes ", which is WRONG: it has to be " ++ page_word (held_by die said.page)

abbrev pub page_line : ℕ → Cutting → PageSaid → List ℕ
page_line die before said = of_die die ++ codes " page " ++ decimal said.page ++ codes ": "
    ++ gives_text before.die before.earlier before.writes said said.gives ++ 10 ∷ []

-- a line of each page, in their order
abbrev pub pages_text : ℕ → Cutting → List PageSaid → List ℕ
pages_text die before pages = flat_map (page_line die before) pages

-- All of it

-- of a run on this die: where an erase was cut, its slot has this number; and these blocks were in erase
abbrev pub cut_text : (die : ℕ) → CutRun → Leaves → Option ℕ → (slot : ℕ) → List InErase → List ℕ
cut_text die run left slot_us slot erasing = call_text die run.before.calls run.before.die.begun run.call slot left
    ++ erasing_text die erasing ++ mount_text die run.end slot_us ++ pages_text die run.before run.pages.items

-- no clause says which blocks are in erase, since none speaks of what a part shows
pub record IsCutText (die : ℕ) (run : CutRun) (left : Leaves) (slot_us : Option ℕ) (text : List ℕ) : Type 0 where
  pub slot : ℕ
  pub erasing : List InErase
  pub is : text ≡ cut_text die run left slot_us slot erasing
