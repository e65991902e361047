use Rattle.std.proofs.Common.{◌++◌, ◌∷◌, [], List, refl, sym, ap, ◌∙◌, length-append, append_assoc, arith}
use Rattle.event_log.specs.Notes.{Note}
use Rattle.flash_c.specs.Entries.{entry_of}
use Rattle.flash_c.specs.Lists.{array_with}
use Rattle.flash_c.proofs.Filling.{filled_none, filled_last, filled_beyond}
use Rattle.flash_c.proofs.entries.put_entries.Goals as goal

pub loop-i-init : goal.loop-i-init
loop-i-init c = record { taken = []; all = refl; counted = refl; filled = sym (filled_none entry_of c.args.places.now) }

pub loop-i-preserved : goal.loop-i-preserved
loop-i-preserved c =
    let note : Note = record { caller = c.in-Some.note.caller; deed = c.in-Some.note.deed; waived = c.in-Some.note.waived } in
    let taken = c.loop-i.invariant.taken in record {
      taken = taken ++ note ∷ [];
      all = c.loop-i.invariant.all ∙ (ap (λ (ns : List Note). taken ++ ns) c.in-Some.ensures.notes
          ∙ sym (append_assoc taken (note ∷ []) c.pop.new.self));
      counted = omega (arith, length-append taken (note ∷ []), c.loop-i.invariant.counted);
      filled = rw (c.entry_of.ensures, c.loop-i.invariant.filled, sym c.loop-i.invariant.counted)
          (filled_last entry_of c.args.places.now taken note (omega (arith, c.loop-i.invariant.counted)));
    }

pub returns : goal.returns
returns c = c.loop-i.invariant.filled
    ∙ (filled_beyond entry_of c.args.places.now c.loop-i.invariant.taken c.loop-i.notes (omega (arith, c.loop-i.invariant.counted))
    ∙ ap (λ (ns : List Note). array_with entry_of c.args.places.now ns) (sym c.loop-i.invariant.all))
