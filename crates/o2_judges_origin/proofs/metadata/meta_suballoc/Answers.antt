-- The rows tell it, extent blocks first.
use Rattle.std.proofs.Common.{◌∙◌, ap}
use Rattle.o2_model.specs.Allocators.{are_metadata}
use Rattle.o2_model.specs.Orders.{rising}
use Rattle.o2_judges_origin.proofs.FlatMaps.{four_added}
use Rattle.o2_judges_origin.proofs.SuballocTold.{metadata_told}
use Rattle.o2_judges_origin.proofs.metadata.meta_suballoc.Goals as goal

pub returns : goal.returns
returns c = λ v few table inodes trees.
    let are = c.in_ok-placed.ensures v table in
    ap rising
    (four_added _ _ _ _ _ _ _ _ _ c.new-found.ensures.items (c.in_ok-judge_lists.ensures v are_metadata are) (c.in_ok-judge_tree_lists.ensures v are_metadata are) (c.in_ok-judge_roots.ensures v are_metadata are)
    (c.in_ok-judge_leaves.ensures v are_metadata are)
    ∙ metadata_told v c.args.inodes.now c.args.trees.now inodes trees)
