-- One entry more.
use Rattle.std.proofs.Common.{◌≡◌, ◌+◌, ◌*◌, ◌++◌, drop, sym, ◌∙◌, ap, arith}
use Rattle.std.proofs.lemmas.List.{take_rest, append_assoc}
use Rattle.std.proofs.lemmas.List.FromFn.{map-range_with_len_more}
use Rattle.o2_ondisk.specs.DxEntries.{dx_entry_of}
use Rattle.o2_model.specs.Words.{push}
use Rattle.o2_dir.proofs.index_leaf.add_index_entries.Goals as goal

pub loop-k-preserved : goal.loop-k-preserved
loop-k-preserved c =
    let bytes = c.args.bytes.now in
    let before = c.args.entries.now.items in
    let k = c.loop-k.k in
    let at = c.args.at + 8 + 16 * k in
    let read : c.read_dx_entry.result ≡ dx_entry_of (drop at bytes) = c.read_dx_entry.ensures ∙ ap dx_entry_of (take_rest bytes at) in
    c.in_ok-put.ensures
    ∙ (ap (λ xs. push xs c.read_dx_entry.result) c.loop-k.invariant
    ∙ (ap (push _) read
    ∙ (append_assoc before _ _ ∙ ap (λ xs. before ++ xs) (sym (map-range_with_len_more (λ j. dx_entry_of (drop (c.args.at + 8 + 16 * j) bytes)) 0 k k (omega arith))))))
