-- The directories are those of the tree.
use Rattle.std.proofs.Common.{◌∙◌, ap}
use Rattle.std.specs.Prelude.{flat_map}
use Rattle.std.proofs.lemmas.List.{take_all}
use Rattle.o2_model.specs.Orders.{rising}
use Rattle.o2_tree.specs.declared.entered.EnteredRow.{EnteredRow}
use Rattle.o2_judges_tree.specs.EntryFaults.{is_named_soundly, faults_in}
use Rattle.o2_judges_tree.proofs.EntriesTold.{inodes_told}
use Rattle.o2_judges_tree.proofs.named_inodes.dirent_inode.Goals as goal

pub returns : goal.returns
returns c = λ v inodes own directories are.
    ap rising (c.loop-directory.invariant v inodes own directories
    ∙ (ap (flat_map (λ (d : EnteredRow). faults_in v (is_named_soundly v) d.inode)) (take_all c.loop-directory.directory-index c.args.entered.now c.loop-directory-test.false)
    ∙ inodes_told v c.args.entered.now are))
