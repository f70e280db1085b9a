-- The rows tell which inodes name a root.
use Rattle.std.proofs.Common.{◌∙◌}
use Rattle.o2_refcount.proofs.Surveys.{roots_told}
use Rattle.o2_refcount.proofs.roots.roots_named.Goals as goal

pub returns : goal.returns
returns c v table = c.in_order.ensures ∙ roots_told v _ _ c.in_ok-all_named.ensures table
