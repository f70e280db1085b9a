-- The directories are those of the tree.
use Rattle.std.proofs.Common.{◌∙◌, ap}
use Rattle.std.specs.Prelude.{flat_map}
use Rattle.std.proofs.lemmas.List.{take_all}
use Rattle.o2_model.specs.Orders.{rising}
use Rattle.o2_judges_tree.specs.EntryFaults.{dots_of}
use Rattle.o2_judges_tree.proofs.DotsTold.{dots_told}
use Rattle.o2_judges_tree.proofs.dots.dir_dots.Goals as goal

pub returns : goal.returns
returns c = λ v directories are.
    ap rising (c.loop-directory.invariant v directories
    ∙ (ap (flat_map (dots_of v)) (take_all c.loop-directory.directory-index c.args.entered.now c.loop-directory-test.false) ∙ dots_told v c.args.entered.now are))
