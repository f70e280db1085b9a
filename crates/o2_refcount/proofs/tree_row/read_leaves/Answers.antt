-- The root holds the records where it has no leaf blocks, and else these hold them.
use Rattle.std.proofs.Common.{◌≡◌, false, true, map, sym, ◌∙◌, ap, subst}
use Rattle.std.proofs.lemmas.Result.{IfOk-weaker, on_ok_weaker}
use Rattle.o2_ondisk.specs.RefcountBlocks.{refcount_block_of}
use Rattle.o2_model.specs.RefcountTrees.{refcount_block, refcount_leaves, has_leaf_blocks}
use Rattle.o2_refcount.specs.Readings.{Keeps, nothing_read, with_blocks}
use Rattle.o2_refcount.specs.TreeReadings.{AreRefcountBlockRows}
use Rattle.o2_refcount.proofs.TreesTold.{no_leaf_rows, alone_read, leaves_read}
use Rattle.o2_refcount.proofs.tree_row.read_leaves.Goals as goal

pub returns-then-not-has_leaf_blocks-clause-rows : goal.returns-then-not-has_leaf_blocks-clause-rows
returns-then-not-has_leaf_blocks-clause-rows g c v seen named =
    let fields : c.read_refcount_block.result ≡ refcount_block v c.args.root = c.read_refcount_block.ensures ∙ ap refcount_block_of seen.is in
    no_leaf_rows v c.args.root _ (sym (c.has_leaf_blocks.ensures v seen.shows.numbers fields) ∙ c.if-not-has_leaf_blocks.true) c.new.ensures.items

pub returns-then-not-has_leaf_blocks-clause-read : goal.returns-then-not-has_leaf_blocks-clause-read
returns-then-not-has_leaf_blocks-clause-read g c v seen named before keeps =
    let root = c.args.root in
    let fields : c.read_refcount_block.result ≡ refcount_block v root = c.read_refcount_block.ensures ∙ ap refcount_block_of seen.is in
    let none : has_leaf_blocks v root ≡ false = sym (c.has_leaf_blocks.ensures v seen.shows.numbers fields) ∙ c.if-not-has_leaf_blocks.true in
    subst (Keeps before _) (alone_read v root none) (c.in_ok-read_bytes.ensures v seen.shows.numbers seen.is before nothing_read keeps)

pub returns-clause-rows : goal.returns-clause-rows
returns-clause-rows g c = IfOk-weaker c.read_blocks.result _ _
    (λ rows are v seen named.
    subst (λ bs. AreRefcountBlockRows v bs rows.items) (c.as_slice.ensures.value ∙ (c.in_ok-blocks.ensures ∙ ap (map (λ leaf. leaf.block)) named)) (are v seen.shows))
    c.read_blocks.ensures.rows

pub returns-clause-read : goal.returns-clause-read
returns-clause-read g c = on_ok_weaker c.read_blocks.result
    (λ read v seen named before keeps.
    let root = c.args.root in
    let fields : c.read_refcount_block.result ≡ refcount_block v root = c.read_refcount_block.ensures ∙ ap refcount_block_of seen.is in
    let has : has_leaf_blocks v root ≡ true = sym (c.has_leaf_blocks.ensures v seen.shows.numbers fields) ∙ c.if-not-has_leaf_blocks.false in
    let blocks : c.as_slice.result.now ≡ refcount_leaves v root = c.as_slice.ensures.value ∙ (c.in_ok-blocks.ensures ∙ ap (map (λ leaf. leaf.block)) named) in
    subst (Keeps before _) (ap (with_blocks v nothing_read) blocks ∙ leaves_read v root has) (read v seen.shows before nothing_read keeps))
    c.read_blocks.ensures.read
