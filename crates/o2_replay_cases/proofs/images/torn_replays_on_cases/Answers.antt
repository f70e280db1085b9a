use Rattle.o2_replay_cases.proofs.RecoverableImages.{dirty_itself, stopped_partial, dirty_partial}
use Rattle.o2_replay_cases.proofs.images.torn_replays_on_cases.Goals as goal

pub returns-clause-old : goal.returns-clause-old
returns-clause-old c = dirty_itself c.blocks_are_volumes.ensures.dirty

pub returns-clause-written : goal.returns-clause-written
returns-clause-written c = stopped_partial c.blocks_are_volumes.ensures.dirty c.blocks_are_volumes.ensures.clean c.replays_of_blocks.ensures.write c.replays_of_blocks.ensures.put

pub returns-clause-nothing_else : goal.returns-clause-nothing_else
returns-clause-nothing_else c = dirty_partial c.blocks_are_volumes.ensures.dirty c.blocks_are_volumes.ensures.clean c.replays_of_blocks.ensures.write c.replays_of_blocks.ensures.put
