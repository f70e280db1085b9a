-- All rows were met.
use Rattle.std.proofs.Common.{map, ◌∙◌, ap}
use Rattle.std.proofs.lemmas.List.{take_all}
use Rattle.o2_model.specs.Words.{among}
use Rattle.o2_tables.specs.declared.inodes.InodeRow.{InodeRow}
use Rattle.o2_check.proofs.NamedJournals.{inodes_are}
use Rattle.o2_check.proofs.lists.inode_numbers.Goals as goal

pub returns : goal.returns
returns c v table b =
    c.loop-row.invariant.each b
    ∙ (ap (λ rs. among (map (λ (r : InodeRow). r.block) rs) b) (take_all c.loop-row.row-index c.args.inodes.now c.loop-row-test.false) ∙ inodes_are v c.args.inodes.now table b)
