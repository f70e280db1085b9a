-- The bytes of the number 0.
use Rattle.std.proofs.Common.{◌∙◌, ap, List, ℕ}
use Rattle.o2_ondisk.specs.Fields.{paste_at, put_at}
use Rattle.o2_dir.proofs.void_plan.clear_inode.Goals as goal

pub returns : goal.returns
unfolding put_at
returns c = c.put_array.ensures.put ∙ ap (λ (new : List ℕ). paste_at c.args.place new c.args.bytes.now) c.to_le_bytes.ensures
