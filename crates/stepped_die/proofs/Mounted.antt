-- A die that begins where a mount ended begins a life, at the start to which the mount goes.
use Rattle.std.proofs.Common.{◌≡◌, ℕ, List, length, Option, Some, None, false, refl, ap, sym, ◌∙◌, subst, get_or}
use Rattle.std.specs.Prelude.{option_map}
use Rattle.std.proofs.lemmas.List.FromFn.{fill_by_all}
use Rattle.slot_types.specs.Places.{place_of}
use Rattle.slot_types.specs.declared.acts.Act.{Act}
use Rattle.slot_types.specs.declared.pages.PageData.{PageData}
use Rattle.slot_types.specs.declared.pages.Place.{Place}
use Rattle.flash_die.specs.Flash.{blank}
use Rattle.die_checkpoint.specs.declared.checkpoint.Checkpoint.{Checkpoint}
use Rattle.die_log.specs.Model.Log.{Log}
use Rattle.die_log.specs.Model.Opening.{IsOpening}
use Rattle.die_log.specs.Model.Start.{Start}
use Rattle.power_loss.specs.Aside.{MountsTo, on_die, renumbered}
use Rattle.power_loss.specs.Labels.{Labels, Shown, labels}
use Rattle.power_loss.specs.Mounted.{all_count}
use Rattle.power_loss.proofs.Aside.Parts.{places_at}
use Rattle.die_mount.specs.declared.mounted.Mounted.{Mounted}
use Rattle.die_mount.specs.Cutting.{GoesBy}
use Rattle.die_mount.specs.Ending.{IsEndOf, checkpoint_beside, start_beside}
use Rattle.die_mount.specs.Erases.{counted}
use Rattle.die_mount.specs.Mounting.{IsAtEnd, Mounting}
use Rattle.die_mount.proofs.Ending.{leaves_die}
use Rattle.slot_core.specs.Resumptions.{start_with}
use Rattle.slot_core.proofs.Resuming.{opening_again}
use Rattle.stepped_die.specs.declared.part.Part.{Part}
use Rattle.stepped_die.specs.Names.{GoesOn, named_by, page_named, pages_named}
use Rattle.stepped_die.specs.Numbered.{NamesPages, NumbersPrograms}
use Rattle.stepped_die.specs.Stepped.{Stepped}

module _ (m : Mounting) (aside : ℕ) (names pages : List PageData) (opens : IsOpening (start_beside m.plan aside (counted m.counts m.cells) pages))
    (named : NamesPages m.cells.places names pages) where
  abbrev number : Place → Place
  number = renumbered (on_die m.plan.shape.blocks aside)

  -- a page is its name, or it lies nowhere and is blank
  named_at : (page : ℕ) (o : Option Place) → place_of m.cells.places page ≡ o → get_or pages page blank ≡ named_by names page (option_map number o)
  named_at page None e = opens.blank page (places_at (on_die m.plan.shape.blocks aside) m.cells.places page ∙ ap (option_map number) e)
  named_at page (Some q) e = sym (named page q e)

  pages_are : pages_named (checkpoint_beside m.plan aside (counted m.counts m.cells)).places names ≡ pages
  pages_are = sym (fill_by_all (page_named (checkpoint_beside m.plan aside (counted m.counts m.cells)).places names) pages
      (length (checkpoint_beside m.plan aside (counted m.counts m.cells)).places) blank (opens.pages ∙ sym opens.sound.places)
      (λ page below. named_at page (place_of m.cells.places page) refl
      ∙ sym (ap (named_by names page) (places_at (on_die m.plan.shape.blocks aside) m.cells.places page))))

  pub starts_there : start_with m.plan (checkpoint_beside m.plan aside (counted m.counts m.cells)) (pages_named (checkpoint_beside m.plan aside (counted m.counts m.cells)).places names)
      ≡ start_beside m.plan aside (counted m.counts m.cells) pages
  starts_there = ap (start_with m.plan (checkpoint_beside m.plan aside (counted m.counts m.cells))) pages_are ∙ opening_again (start_beside m.plan aside (counted m.counts m.cells) pages) opens

pub begins_life : (pages : List PageData) (before : Shown) (erased next : ℕ) (acts : List Act) (m : Mounting) (end : Mounted) (names : List PageData)
    (die : Stepped) → GoesBy pages before erased next acts m → IsAtEnd m → IsEndOf m end → NamesPages m.cells.places names pages
    → GoesOn m.plan end.checkpoint names die → die.part ≡ record { aside = end.aside; serial = end.next; stands = false }
    → (first : Labels) × MountsTo m.plan all_count before die.core.start first × NumbersPrograms first die
begins_life pages before erased next acts m end names die g h e named on part =
    let s = leaves_die pages before erased next acts m g h end.aside e.free in
    let start : die.core.start ≡ start_beside m.plan end.aside (counted m.counts m.cells) pages = on.start
    ∙ (ap (λ (c : Checkpoint). start_with m.plan c (pages_named c.places names)) e.checkpoint
    ∙ starts_there m end.aside names pages s.1.starts.opens named) in (
      s.0,
      subst (λ (x : Start). MountsTo m.plan all_count before x s.0) (sym start) s.1,
      ap (λ (x : Part). x.serial) part
          ∙ (e.next ∙ (sym s.2 ∙ sym (ap (λ (log : Log). (labels die.core.start s.0 log).next) on.log))),
    )
