-- One bit more.
use Rattle.std.proofs.Common.{◌≡◌, ◌++◌, ◌∷◌, [], sym, ◌∙◌, ap}
use Rattle.o2_model.specs.Groups.{is_bit_set_in}
use Rattle.o2_survey.proofs.InodeBlocks.{set_bit_more, clear_bit_more}
use Rattle.o2_survey.proofs.inode_list.add_blocks_on_bits.Goals.{then-has_bit+in_ok-put, else-has_bit}
use Rattle.o2_survey.proofs.inode_list.add_blocks_on_bits.Goals as goal

pub loop-k-preserved : goal.loop-k-preserved
loop-k-preserved c =
    let r = c.args.row.now in
    let k = c.loop-k.k in
    let bit : c.has_bit.result ≡ is_bit_set_in 0 r.bitmap k = c.has_bit.ensures ∙ ap (λ bytes. is_bit_set_in 0 bytes k) c.as_slice.ensures in
    elim c.if-has_bit.branch [
      | then-has_bit+in_ok-put w ↦ set_bit_more r k c.loop-k.found.items c.if-has_bit.found.items _ c.loop-k-test.true (sym bit ∙ w.if-has_bit.true) c.loop-k.invariant
          (ap (λ found. found.items) w.found-is ∙ (w.in_ok-put.ensures.ok ∙ ap (λ b. c.loop-k.found.items ++ b ∷ []) w.block_at.ensures))
      | else-has_bit w ↦ clear_bit_more r k c.loop-k.found.items c.if-has_bit.found.items _ c.loop-k-test.true (sym bit ∙ w.if-has_bit.false) c.loop-k.invariant (ap (λ found. found.items) w.found-is)
    ]
