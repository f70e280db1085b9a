-- The bytes that were looked at are those of the block.
use Rattle.std.proofs.Common.{◌∙◌, ap}
use Rattle.o2_model.specs.Directories.{entries_in}
use Rattle.o2_dir.proofs.void_plan.void_in.Goals as goal

pub returns-then-not-branch-clause-bad : goal.returns-then-not-branch-clause-bad
returns-then-not-branch-clause-bad c same v is es found begins = c.in_ok-is_filled.ensures.bad c.if-not-branch.true es (ap entries_in (c.filled_part-part.ensures.part v is) ∙ found) begins
