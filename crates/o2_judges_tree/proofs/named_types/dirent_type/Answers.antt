-- The directories are those of the tree.
use Rattle.std.proofs.Common.{◌∙◌, ap}
use Rattle.std.specs.Prelude.{flat_map}
use Rattle.std.proofs.lemmas.List.{take_all}
use Rattle.o2_model.specs.Orders.{rising}
use Rattle.o2_tree.specs.declared.entered.EnteredRow.{EnteredRow}
use Rattle.o2_judges_tree.specs.EntryFaults.{is_typed_soundly, faults_in}
use Rattle.o2_judges_tree.proofs.EntriesTold.{types_told}
use Rattle.o2_judges_tree.proofs.named_types.dirent_type.Goals as goal

pub returns : goal.returns
returns c = λ v inodes directories are.
    ap rising (c.loop-directory.invariant v inodes directories
    ∙ (ap (flat_map (λ (d : EnteredRow). faults_in v (is_typed_soundly v) d.inode)) (take_all c.loop-directory.directory-index c.args.entered.now c.loop-directory-test.false)
    ∙ types_told v c.args.entered.now are))
