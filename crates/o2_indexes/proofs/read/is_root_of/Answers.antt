-- The directory that an index root names decides.
use Rattle.std.proofs.Common.{◌==◌, sym, ◌∙◌, ap}
use Rattle.o2_ondisk.specs.declared.dx_root.DxRoot.{DxRoot}
use Rattle.o2_indexes.proofs.RowsTold.{by_directory, no_root}
use Rattle.o2_indexes.proofs.read.is_root_of.Goals as goal

pub returns-then-is_index_root_at : goal.returns-then-is_index_root_at
returns-then-is_index_root_at c v numbers fields =
    ap (λ (root : DxRoot). root.dir_blkno == c.args.directory) fields
    ∙ by_directory v c.args.directory c.args.root (sym (c.is_index_root_at.ensures v numbers fields) ∙ c.if-is_index_root_at.true)

pub returns-else-is_index_root_at : goal.returns-else-is_index_root_at
returns-else-is_index_root_at c v numbers fields =
    c.if-is_index_root_at.false ∙ no_root v c.args.directory c.args.root (sym (c.is_index_root_at.ensures v numbers fields) ∙ c.if-is_index_root_at.false)
