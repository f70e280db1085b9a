-- What the root's fields say decides.
use Rattle.std.proofs.Common.{rules, ◌≡◌, ℕ, ◌==◌, length, vec_len, sym, subst, ◌∙◌, ap}
use Rattle.o2_ondisk.specs.RefcountBlocks.{refcount_block_of}
use Rattle.o2_model.specs.Orders.{is_none_of}
use Rattle.o2_model.specs.RefcountTrees.{refcount_block, leaf_list}
use Rattle.o2_extent.specs.Readings.{AreListBlocks}
use Rattle.o2_extent.proofs.Owners.{none_by_length, no_leaf_blocks, sound_block, leaves_of_list, sound_list, no_rows, rows_of_list}
use Rattle.o2_extent.proofs.refcount_roots.refcount_root.Goals as goal

pub returns-then-not-has_leaf_blocks-clause-sound : goal.returns-then-not-has_leaf_blocks-clause-sound
returns-then-not-has_leaf_blocks-clause-sound g c v seen =
    let numbers = seen.shows.numbers in
    let fields : c.read_refcount_block-block.result ≡ refcount_block v c.args.b = c.read_refcount_block-block.ensures ∙ ap refcount_block_of seen.is in
    c.is_refcount_block_at.ensures v numbers fields ∙ sound_block v c.args.b (sym (c.has_leaf_blocks.ensures v numbers fields) ∙ c.if-not-has_leaf_blocks.true)

pub returns-then-not-has_leaf_blocks-clause-leaves : goal.returns-then-not-has_leaf_blocks-clause-leaves
returns-then-not-has_leaf_blocks-clause-leaves g c v seen =
    let fields : c.read_refcount_block-block.result ≡ refcount_block v c.args.b = c.read_refcount_block-block.ensures ∙ ap refcount_block_of seen.is in
    c.from.ensures ∙ (c.new.ensures.items ∙ no_leaf_blocks v c.args.b (sym (c.has_leaf_blocks.ensures v seen.shows.numbers fields) ∙ c.if-not-has_leaf_blocks.true))

pub returns-clause-sound : goal.returns-clause-sound
returns-clause-sound g c v seen =
    let fields : c.read_refcount_block-block.result ≡ refcount_block v c.args.b = c.read_refcount_block-block.ensures ∙ ap refcount_block_of seen.is in
    let len : vec_len c.in_ok-reading.reading.faults ≡ length c.in_ok-reading.reading.faults.items = search rules in
    let none : c.is_empty.result ≡ is_none_of c.in_ok-reading.reading.faults.items = c.is_empty.ensures ∙ ap (λ (n : ℕ). n == 0) len ∙ none_by_length c.in_ok-reading.reading.faults.items in
    none
    ∙ (ap is_none_of (c.in_ok-reading.ensures.read v seen).faults
    ∙ sound_list v c.args.b (sym (c.has_leaf_blocks.ensures v seen.shows.numbers fields) ∙ c.if-not-has_leaf_blocks.false))

pub returns-clause-leaves : goal.returns-clause-leaves
returns-clause-leaves g c v seen =
    let fields : c.read_refcount_block-block.result ≡ refcount_block v c.args.b = c.read_refcount_block-block.ensures ∙ ap refcount_block_of seen.is in
    c.from-2.ensures
    ∙ ((c.in_ok-reading.ensures.read v seen).leaves
    ∙ leaves_of_list v c.args.b (sym (c.has_leaf_blocks.ensures v seen.shows.numbers fields) ∙ c.if-not-has_leaf_blocks.false))

pub returns-then-not-has_leaf_blocks-clause-blocks : goal.returns-then-not-has_leaf_blocks-clause-blocks
returns-then-not-has_leaf_blocks-clause-blocks g c v seen =
    let fields : c.read_refcount_block-block.result ≡ refcount_block v c.args.b = c.read_refcount_block-block.ensures ∙ ap refcount_block_of seen.is in
    no_rows v c.args.b _ (sym (c.has_leaf_blocks.ensures v seen.shows.numbers fields) ∙ c.if-not-has_leaf_blocks.true) (c.from-then-not-has_leaf_blocks.ensures ∙ c.new-then-not-has_leaf_blocks.ensures.items)

pub returns-clause-blocks : goal.returns-clause-blocks
returns-clause-blocks g c v seen =
    let fields : c.read_refcount_block-block.result ≡ refcount_block v c.args.b = c.read_refcount_block-block.ensures ∙ ap refcount_block_of seen.is in
    subst (AreListBlocks v (leaf_list v c.args.b).blocks) (sym c.from-3.ensures)
    (rows_of_list v c.args.b _ (sym (c.has_leaf_blocks.ensures v seen.shows.numbers fields) ∙ c.if-not-has_leaf_blocks.false) (c.in_ok-reading.ensures.read v seen).blocks)
