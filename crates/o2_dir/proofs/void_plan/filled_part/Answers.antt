-- The first inline bytes, as many as the dinode tells.
use Rattle.std.proofs.Common.{ℕ, List, take, drop, ◌∙◌, ap}
use Rattle.std.proofs.lemmas.List.{take_rest}
use Rattle.o2_ondisk.specs.declared.dinode.Dinode.{Dinode}
use Rattle.o2_dir.proofs.VoidedBytes.{filled_inline}
use Rattle.o2_dir.proofs.void_plan.filled_part.Goals as goal

pub returns-clause-part : goal.returns-clause-part
returns-clause-part c v is =
    c.first.ensures
    ∙ (ap (λ (rest : List ℕ). take c.read_dinode.result.size rest) (take_rest c.args.bytes.now 200)
    ∙ (ap (λ (d : Dinode). take d.size (drop 200 c.args.bytes.now)) c.read_dinode.ensures ∙ filled_inline v c.args.inode c.args.block c.args.bytes.now c.if-block-inode.false is))
