-- The lines are those of the volume's slot map.
use Rattle.std.proofs.Common.{ℕ, Option, sym, ◌∙◌, ap}
use Rattle.std.specs.Prelude.{unwrap_or}
use Rattle.o2_slots.specs.Entries.{nodes}
use Rattle.o2_debug.proofs.VolumeText.{slot_map_is}
use Rattle.o2_debug.proofs.volume.map_lines.Goals as goal

pub returns-clause-told : goal.returns-clause-told
returns-clause-told g c v shows =
    slot_map_is v c.in_ok-map.map c.in_ok-slot_lines.field-0
    ((c.in_ok-map.ensures.told v shows).1 ∙ sym (ap (λ (o : Option ℕ). nodes v (unwrap_or o 0)) (c.in_ok-inode.ensures.is v (c.requires.tables v shows).names)))
    c.in_ok-slot_lines.ensures
