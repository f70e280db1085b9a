-- The blocks that are left decide.
use Rattle.std.proofs.Common.{◌≡◌, drop}
use Rattle.std.specs.List.{list_all}
use Rattle.o2_model.specs.Volume.{Volume}
use Rattle.o2_model.specs.SoundIndexes.{is_own_block}
use Rattle.o2_judges_index.specs.IndexRows.{AreBlockUses}
use Rattle.o2_judges_index.proofs.own_blocks.are_own.Given as goal

abbrev pub invariant-loop-row : goal.invariant-loop-row
invariant-loop-row l = (v : Volume) → AreBlockUses v l.uses → list_all (λ r. is_own_block v r.origin r.block) (drop l.row-index l.blocks) ≡ list_all (λ r. is_own_block v r.origin r.block) l.blocks
