-- The fields say that it is a refcount block, and the head that its records fit.
use Rattle.std.proofs.Common.{◌≡◌, ℕ, true, drop, sym, ◌∙◌, ap, subst, List}
use Rattle.std.proofs.lemmas.Result.{on_ok_weaker}
use Rattle.o2_ondisk.specs.RefcountBlocks.{refcount_block_of}
use Rattle.o2_ondisk.specs.RefcountListHeaders.{refcount_list_header_of}
use Rattle.o2_ondisk.specs.RefcountRecs.{refcount_rec_of}
use Rattle.o2_ondisk.specs.declared.refcount_list_header.RefcountListHeader.{RefcountListHeader}
use Rattle.o2_model.specs.RefcountTrees.{refcount_block, refcount_header, is_refcount_block, is_sound_refcount_header, read_refcounts}
use Rattle.o2_model.specs.Words.{table}
use Rattle.o2_refcount.specs.Readings.{Keeps}
use Rattle.o2_refcount.proofs.Steps.{good_block}
use Rattle.o2_refcount.proofs.block_records.read_bytes.Goals as goal

pub returns : goal.returns
returns c = on_ok_weaker c.read_records.result
    (λ read v numbers bytes before t keeps.
    let b = c.args.b in
    let fields : c.read_refcount_block-block.result ≡ refcount_block v b = c.read_refcount_block-block.ensures ∙ ap refcount_block_of bytes in
    let head : c.header_of-header.result ≡ refcount_header v b = c.header_of-header.ensures ∙ ap (λ (bs : List ℕ). refcount_list_header_of (drop 0x80 bs)) bytes in
    let is : is_refcount_block v b ≡ true = sym (c.is_refcount_block_at.ensures v numbers fields) ∙ c.if-not-is_refcount_block_at.false in
    let sound : is_sound_refcount_header v b ≡ true = sym (c.is_sound_header.ensures.test v b numbers head) ∙ c.if-not-is_sound_header.false in
    subst (Keeps before _)
    (ap (λ (h : RefcountListHeader). read_refcounts v b (table refcount_rec_of 16 0x90 h.used c.args.bytes.now) t) head
    ∙ (ap (λ (bs : List ℕ). read_refcounts v b (table refcount_rec_of 16 0x90 (refcount_header v b).used bs) t) bytes ∙ good_block v t b is sound))
    (read v numbers before t keeps))
    c.read_records.ensures
