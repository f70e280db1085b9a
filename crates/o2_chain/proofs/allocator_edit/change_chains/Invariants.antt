-- The groups so far are counted.
use Rattle.std.proofs.Common.{◌≡◌, ℕ, ◌*◌, ◌%◌, ◌^◌, ◌<◌, map, take, get_or}
use Rattle.o2_ondisk.specs.Fields.{IsOutsideSpan}
use Rattle.o2_ondisk.specs.Dinodes.{list_records_place}
use Rattle.o2_model.specs.declared.allocator.Allocator.{Allocator}
use Rattle.o2_model.specs.Volume.{Volume}
use Rattle.o2_chain.specs.Edits.{shared_by, edited_chain}
use Rattle.o2_chain.specs.Walks.{group_in}
use Rattle.o2_chain.proofs.ChainCounts.{record_at}
use Rattle.o2_chain.proofs.allocator_edit.change_chains.Given as goal

abbrev pub invariant-loop-group : goal.invariant-loop-group
invariant-loop-group l = record {
  records : (v : Volume) → v.geo ≡ l.geo → (a : Allocator) → (k : ℕ) → k < l.used → record_at l.bytes k ≡ edited_chain v l.set l.run (map (group_in a) (take l.group-index l.groups)) (k, record_at l.fn.bytes k);
  total : (v : Volume) → v.geo ≡ l.geo → (a : Allocator) → l.total ≡ shared_by v l.run (map (group_in a) (take l.group-index l.groups)) % 2 ^ 32;
  others : (i : ℕ) → IsOutsideSpan list_records_place (16 * l.used) i → get_or l.bytes i 0 ≡ get_or l.fn.bytes i 0;
}
