-- The places so far are the first ones.
use Rattle.std.proofs.Common.{◌≡◌, ◌<◌, ◌++◌, All}
use Rattle.o2_dir.specs.Blocks.{first_places}
use Rattle.o2_dir.proofs.places.add_mapped.Given as goal

abbrev pub invariant-loop-k : goal.invariant-loop-k
invariant-loop-k l = record {
  added : l.places.items ≡ l.fn.places.items ++ first_places l.per_cluster l.limit l.leaf l.k;
  inside : All (λ p. p.block < l.blocks) l.fn.places.items → All (λ p. p.block < l.blocks) l.places.items;
}
