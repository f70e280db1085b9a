-- The places so far are those of the records so far.
use Rattle.std.proofs.Common.{◌≡◌, ◌<◌, All, take}
use Rattle.o2_dir.specs.Blocks.{places_of}
use Rattle.o2_dir.proofs.places.places_within.Given as goal

abbrev pub invariant-loop-leaf : goal.invariant-loop-leaf
invariant-loop-leaf l = record {
  places : l.places.items ≡ places_of l.per_cluster l.limit (take l.leaf-index l.leaves);
  inside : All (λ p. p.block < l.blocks) l.places.items;
}
