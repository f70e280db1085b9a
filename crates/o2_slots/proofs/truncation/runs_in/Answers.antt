-- One record more.
use Rattle.std.proofs.Common.{◌≡◌, ◌+◌, ◌*◌, ◌∷◌, [], map, drop, sym, ◌∙◌, ap, arith}
use Rattle.std.proofs.lemmas.List.{take_rest, map-append}
use Rattle.std.proofs.lemmas.List.FromFn.{map-range_with_len_more}
use Rattle.o2_ondisk.specs.Dinodes.{truncate_records_place}
use Rattle.o2_ondisk.specs.TruncateRecs.{truncate_rec_of}
use Rattle.o2_model.specs.Words.{push, table}
use Rattle.o2_slots.specs.Truncations.{run_of}
use Rattle.o2_slots.proofs.truncation.runs_in.Goals as goal

pub loop-k-preserved : goal.loop-k-preserved
loop-k-preserved c =
    let bytes = c.args.bytes.now in
    let k = c.loop-k.k in
    let at = truncate_records_place + 8 * k in
    let read : c.run_of.result ≡ run_of (truncate_rec_of (drop at bytes)) = c.run_of.ensures ∙ ap (λ xs. run_of (truncate_rec_of xs)) (take_rest bytes at) in
    c.in_ok-put.ensures
    ∙ (ap (λ xs. push xs c.run_of.result) c.loop-k.invariant
    ∙ (ap (push _) read
    ∙ (sym (map-append run_of (table truncate_rec_of 8 truncate_records_place k bytes) (truncate_rec_of (drop at bytes) ∷ []))
    ∙ ap (map run_of) (sym (map-range_with_len_more (λ j. truncate_rec_of (drop (truncate_records_place + 8 * j) bytes)) 0 k k (omega arith))))))
