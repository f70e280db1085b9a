-- The entries of the slots so far are empty.
use Rattle.std.proofs.Common.{◌≡◌, ℕ, ◌+◌, ◌*◌, get_or}
use Rattle.o2_slots.specs.Entries.{entry_size}
use Rattle.o2_slots.specs.Emptied.{emptied_byte}
use Rattle.o2_slots.proofs.empty_bytes.empty_entries.Given as goal

abbrev pub invariant-loop-slot : goal.invariant-loop-slot
invariant-loop-slot l = (i : ℕ) → get_or l.bytes i 0 ≡ emptied_byte l.geo l.first l.slot (l.base * entry_size l.geo + i) (get_or l.fn.bytes i 0)
