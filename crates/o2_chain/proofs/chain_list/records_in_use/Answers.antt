-- One record more.
use Rattle.std.proofs.Common.{◌≡◌, ◌+◌, ◌*◌, drop, sym, ◌∙◌, ap, arith}
use Rattle.std.proofs.lemmas.List.{take_rest}
use Rattle.std.proofs.lemmas.List.FromFn.{map-range_with_len_more}
use Rattle.o2_ondisk.specs.ChainRecs.{chain_rec_of}
use Rattle.o2_ondisk.specs.Dinodes.{list_records_place}
use Rattle.o2_model.specs.Words.{push}
use Rattle.o2_chain.proofs.chain_list.records_in_use.Goals as goal

pub loop-k-preserved : goal.loop-k-preserved
loop-k-preserved c =
    let bytes = c.args.bytes.now in
    let k = c.loop-k.k in
    let read : c.read_chain_rec.result ≡ chain_rec_of (drop (list_records_place + 16 * k) bytes) = c.read_chain_rec.ensures ∙ ap chain_rec_of (take_rest bytes (list_records_place + 16 * k)) in
    c.in_ok-put.ensures
    ∙ (ap (λ xs. push xs c.read_chain_rec.result) c.loop-k.invariant
    ∙ (ap (push _) read ∙ sym (map-range_with_len_more (λ j. chain_rec_of (drop (list_records_place + 16 * j) bytes)) 0 k k (omega arith))))
