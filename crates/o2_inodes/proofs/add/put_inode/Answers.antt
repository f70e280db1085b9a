-- Each field tells one inode more.
use Rattle.std.proofs.Common.{sym, ◌∙◌, ap, subst}
use Rattle.std.proofs.lemmas.Result.{on_ok_weaker}
use Rattle.o2_ondisk.specs.Bits.{has_bits, has_xattr_dyn_feature}
use Rattle.o2_ondisk.specs.Dinodes.{dinode_of}
use Rattle.o2_model.specs.Volume.{dinode}
use Rattle.o2_model.specs.Inodes.{extents, extent_lists_of}
use Rattle.o2_model.specs.Checks.InodeKind.{inode_kind_faults}
use Rattle.o2_model.specs.Checks.Extent.{extent_faults}
use Rattle.o2_model.specs.Checks.InodeSize.{inode_size_faults}
use Rattle.o2_model.specs.Checks.EbNext.{leaf_blocks, next_faults}
use Rattle.o2_model.specs.Checks.DirBlock.{dir_block_faults}
use Rattle.o2_model.specs.Checks.DirentName.{dirent_name_faults}
use Rattle.o2_model.specs.Checks.DirentDup.{dirent_dup_faults}
use Rattle.o2_extent.specs.Readings.{AreListBlocks}
use Rattle.o2_inodes.proofs.DirectoriesTold.{directory_more, again_more, passed_more}
use Rattle.o2_inodes.proofs.ListsTold.{next_of_lists}
use Rattle.o2_inodes.proofs.Surveyed.{faults_more, lists_more, last_more, row_listed, row_told}
use Rattle.o2_inodes.proofs.add.put_inode.Goals as goal

pub returns : goal.returns
returns c = on_ok_weaker c.put_attributes.result
    (λ marked v same read own bs tells.
    let b = c.args.inode.number in
    let holds = c.as_slice-bytes.ensures ∙ read.holds in
    let is = c.read_dinode-dinode.ensures ∙ ap dinode_of holds in
    let blocks = subst (AreListBlocks v (extents v b).blocks) (sym c.deref-2.ensures.value) read.kept.blocks in
    let same_blocks = subst (AreListBlocks v (extents v b).blocks) (sym c.deref-3.ensures.value) read.kept.blocks in
    record {
      inodes = row_listed _ _ c.in_ok-row.row bs b tells.inodes c.in_ok-row.ensures.of c.in_ok-put.ensures.ok;
      each = row_told v _ _ c.in_ok-row.row tells.each (c.in_ok-row.ensures.told v same is read.kept) c.in_ok-put.ensures.ok;
      kinds = faults_more (inode_kind_faults v) bs _ _ b tells.kinds (c.in_ok-judge_kind.ensures v is);
      extents = faults_more (extent_faults v) bs _ _ b tells.extents (c.in_ok-judge_extents.ensures v read.kept);
      sizes = faults_more (inode_size_faults v) bs _ _ b tells.sizes (c.in_ok-judge_size.ensures v same (record { holds = holds; are = c.deref.ensures.value ∙ read.kept.leaves }) own);
      next = lists_more (λ t. next_faults v (leaf_blocks v t)) (extent_lists_of v) bs _ _ _ b tells.next (next_of_lists v b) (c.in_ok-judge_next.ensures v (extents v b) blocks);
      last = last_more v bs _ _ b tells.last (c.in_ok-judge_last.ensures v is same_blocks);
      directories = c.in_ok-put_row.ensures v read.directory bs tells.directories;
      dir_blocks = directory_more v dir_block_faults bs _ _ b tells.dir_blocks (c.in_ok-judge_blocks.ensures v b read.directory);
      names = directory_more v dirent_name_faults bs _ _ b tells.names (c.in_ok-judge_names.ensures v b read.directory);
      again = again_more v dirent_dup_faults bs c.args.survey.now.again.items c.judge_again.new.found.items b tells.again (c.in_ok-judge_again.ensures v b read.directory);
      indexes = c.in_ok-put_index.ensures v b read.index bs tells.indexes;
      attributes = passed_more (λ b. has_bits (dinode v b).dyn_features.0 has_xattr_dyn_feature) bs _ _ b tells.attributes (marked v is);
    })
    c.put_attributes.ensures
