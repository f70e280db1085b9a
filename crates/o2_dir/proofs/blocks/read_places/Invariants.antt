-- The blocks so far are kept.
use Rattle.std.proofs.Common.{map, take}
use Rattle.o2_model.specs.Volume.{Volume}
use Rattle.o2_view.specs.Views.{Shows, OnlyReads}
use Rattle.o2_dir.specs.Blocks.{block_at_place}
use Rattle.o2_dir.specs.WholeDirectories.{KeepsWhole}
use Rattle.o2_dir.proofs.blocks.read_places.Given as goal

abbrev pub invariant-loop-p : goal.invariant-loop-p
invariant-loop-p g l = record {
  read : (v : Volume) → Shows l.fn.view l.geo v → KeepsWhole (λ b. v.at b.block) l.whole (map (block_at_place v) (take l.p-index l.places));
  reads : OnlyReads l.fn.view l.view;
}
