use Rattle.std.proofs.Common.{◌∙◌, sym, subst}
use Rattle.o2_model.specs.AfterReplay.{volume_contents, geometry_of}
use Rattle.o2_model.specs.Consistent.{IsConsistent}
use Rattle.o2_replay_cases.specs.WholeImages.{dirty_blocks, clean_blocks, dirty_image}
use Rattle.o2_replay_cases.proofs.RecoverableImages.{consistent_of, failing_of, not_consistent, dirty_replayed, found_after}
use Rattle.o2_replay_cases.proofs.images.dirty_image_is_replayed.Goals as goal

pub returns-clause-dirty : goal.returns-clause-dirty
returns-clause-dirty c = failing_of dirty_blocks c.blocks_are_volumes.ensures.dirty ∙ c.failures_of_blocks.ensures.dirty

pub returns-clause-not_consistent : goal.returns-clause-not_consistent
returns-clause-not_consistent c = not_consistent dirty_image _ (failing_of dirty_blocks c.blocks_are_volumes.ensures.dirty ∙ c.failures_of_blocks.ensures.dirty)

pub returns-clause-replayed : goal.returns-clause-replayed
returns-clause-replayed c = dirty_replayed c.blocks_are_volumes.ensures.dirty c.blocks_are_volumes.ensures.clean c.replays_of_blocks.ensures.write

pub returns-clause-consistent : goal.returns-clause-consistent
returns-clause-consistent c = subst IsConsistent (sym (dirty_replayed c.blocks_are_volumes.ensures.dirty c.blocks_are_volumes.ensures.clean c.replays_of_blocks.ensures.write)) (consistent_of clean_blocks c.blocks_are_volumes.ensures.clean c.failures_of_blocks.ensures.clean c.failures_of_blocks.ensures.clean_structures)

pub returns-clause-contents : goal.returns-clause-contents
returns-clause-contents c = found_after volume_contents c.blocks_are_volumes.ensures.clean (dirty_replayed c.blocks_are_volumes.ensures.dirty c.blocks_are_volumes.ensures.clean c.replays_of_blocks.ensures.write)

pub returns-clause-geometry : goal.returns-clause-geometry
returns-clause-geometry c = found_after geometry_of c.blocks_are_volumes.ensures.clean (dirty_replayed c.blocks_are_volumes.ensures.dirty c.blocks_are_volumes.ensures.clean c.replays_of_blocks.ensures.write)
