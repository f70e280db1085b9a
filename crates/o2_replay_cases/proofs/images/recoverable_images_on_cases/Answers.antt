use Rattle.std.proofs.Common.{sym, subst}
use Rattle.o2_model.specs.Consistent.{IsConsistent}
use Rattle.o2_model.proofs.Recoverables.{recoverable_repairable}
use Rattle.o2_replay_cases.specs.WholeImages.{dirty_blocks, clean_blocks, stopped_blocks, harmful_blocks}
use Rattle.o2_replay_cases.proofs.RecoverableImages.{consistent_of, dirty_replayed, dirty_partial, stable_of_two, not_stable}
use Rattle.o2_replay_cases.proofs.images.recoverable_images_on_cases.Goals as goal

pub returns-clause-stable : goal.returns-clause-stable
returns-clause-stable c = stable_of_two dirty_blocks stopped_blocks c.blocks_are_volumes.ensures.dirty c.blocks_are_volumes.ensures.stopped c.replays_of_blocks.ensures.before c.replays_of_blocks.ensures.behind (dirty_partial c.blocks_are_volumes.ensures.dirty c.blocks_are_volumes.ensures.clean c.replays_of_blocks.ensures.write c.replays_of_blocks.ensures.put)

recoverable : goal.returns-clause-recoverable
recoverable c = record {
  stable = stable_of_two dirty_blocks stopped_blocks c.blocks_are_volumes.ensures.dirty c.blocks_are_volumes.ensures.stopped c.replays_of_blocks.ensures.before c.replays_of_blocks.ensures.behind (dirty_partial c.blocks_are_volumes.ensures.dirty c.blocks_are_volumes.ensures.clean c.replays_of_blocks.ensures.write c.replays_of_blocks.ensures.put);
  consistent = subst IsConsistent (sym (dirty_replayed c.blocks_are_volumes.ensures.dirty c.blocks_are_volumes.ensures.clean c.replays_of_blocks.ensures.write)) (consistent_of clean_blocks c.blocks_are_volumes.ensures.clean c.failures_of_blocks.ensures.clean c.failures_of_blocks.ensures.clean_structures);
}

pub returns-clause-recoverable : goal.returns-clause-recoverable
returns-clause-recoverable c = recoverable c

pub returns-clause-repairable : goal.returns-clause-repairable
returns-clause-repairable c = recoverable_repairable _ (recoverable c)

pub returns-clause-harmful : goal.returns-clause-harmful
returns-clause-harmful c = not_stable harmful_blocks _ c.blocks_are_volumes.ensures.harmful c.replays_of_blocks.ensures.harmful
