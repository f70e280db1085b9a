-- The root, its list, and the blocks that hold records.
use Rattle.std.proofs.Common.{◌≡◌, sym, ◌∙◌, ap, subst}
use Rattle.o2_ondisk.specs.RefcountBlocks.{refcount_block_of}
use Rattle.o2_ondisk.specs.declared.refcount_block.RefcountBlock.{RefcountBlock}
use Rattle.o2_model.specs.Checks.RefTree.{is_sound_root_block}
use Rattle.o2_model.specs.Faults.{fails_unless}
use Rattle.o2_model.specs.RefcountTrees.{refcount_block, refcount_leaves, leaf_list}
use Rattle.o2_view.specs.Views.{ShowsBytes}
use Rattle.o2_view.proofs.Shown.{still_shows}
use Rattle.o2_extent.specs.Readings.{AreListBlocks}
use Rattle.o2_tables.specs.Rows.{AreExtentBlockRows}
use Rattle.o2_refcount.specs.Readings.{Keeps, nothing_read}
use Rattle.o2_refcount.specs.TreeReadings.{AreRefcountBlockRows}
use Rattle.o2_refcount.proofs.TreesTold.{tree_told}
use Rattle.o2_refcount.proofs.tree_row.read_in.Goals as goal

pub returns-clause-told : goal.returns-clause-told
returns-clause-told g c v seen =
    let root = c.args.root in
    let numbers = seen.shows.numbers in
    let list = c.in_ok-list.ensures in
    let fields : c.read_refcount_block-fields.result ≡ refcount_block v root = c.read_refcount_block-fields.ensures ∙ ap refcount_block_of seen.is in
    let named : c.as_slice-named.result.now ≡ (leaf_list v root).leaves = c.as_slice-named.ensures ∙ list.leaves v seen in
    let later : ShowsBytes c.refcount_root.new.view c.args.geo.now root c.args.bytes.now v = record { shows = still_shows list.reads seen.shows; is = seen.is } in
    let kept : Keeps (fails_unless root (is_sound_root_block v root)) c.in_ok-reading.reading nothing_read =
    subst (λ sound. Keeps (fails_unless root sound) c.in_ok-reading.reading nothing_read) (list.sound v seen) c.in_ok-reading.ensures in
    let all = c.in_ok-leaves.ensures.read v later named _ kept in
    let blocks : AreListBlocks v (leaf_list v root).blocks c.as_slice-blocks.result.now = subst (AreListBlocks v (leaf_list v root).blocks) (sym c.as_slice-blocks.ensures) (list.blocks v seen) in
    tree_told v root _ c.row_of.ensures.of (c.row_of.ensures.row v numbers fields) (λ is. ap (λ (x : RefcountBlock). x.count) fields)
    (subst (AreExtentBlockRows v (leaf_list v root).blocks) (sym c.from.ensures) (c.in_ok-extent_blocks.ensures v _ blocks))
    (subst (AreRefcountBlockRows v (refcount_leaves v root)) (sym c.from-2.ensures) (c.in_ok-leaves.ensures.rows v later named))
    (c.from-3.ensures ∙ all.records) all.faults (c.in_ok-next_leaves.ensures v (leaf_list v root) blocks) (c.in_ok-last_leaves.ensures v numbers fields blocks)
