-- One entry more.
use Rattle.std.proofs.Common.{ℕ, ◌+◌, ◌-◌, ◌*◌, ◌&&◌, cond, get_or, refl, ◌∙◌, ap, arith}
use Rattle.std.specs.Prelude.{nat_le, nat_lt}
use Rattle.o2_slots.specs.Entries.{entry_size}
use Rattle.o2_slots.specs.Emptied.{empty_width, empty_byte}
use Rattle.o2_slots.proofs.EntryPlaces.{none_empty, entry_put}
use Rattle.o2_slots.proofs.empty_bytes.empty_entries.Goals as goal

pub loop-slot-init : goal.loop-slot-init
loop-slot-init c i = rw (none_empty c.args.geo.now c.args.first (c.args.base * entry_size c.args.geo.now + i)) refl

pub loop-slot-preserved : goal.loop-slot-preserved
loop-slot-preserved c i =
    let geo = c.args.geo.now in
    let slot = c.loop-slot.slot in
    let base = c.args.base in
    let old = get_or c.loop-slot.bytes i 0 in
    c.empty_entry.ensures i
    ∙ (ap (λ (size : ℕ). cond (nat_le ((slot - base) * size) i && nat_lt i ((slot - base) * size + empty_width geo)) (empty_byte geo) old) c.entry_size-size.ensures
    ∙ (ap (λ (byte : ℕ). cond (nat_le ((slot - base) * entry_size geo) i && nat_lt i ((slot - base) * entry_size geo + empty_width geo)) (empty_byte geo) byte) (c.loop-slot.invariant i)
    ∙ entry_put geo base c.args.first slot i (get_or c.args.bytes.now i 0) c.requires.order (omega arith)))
