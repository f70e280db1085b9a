-- One entry more.
use Rattle.std.proofs.Common.{◌≡◌, ◌+◌, ◌*◌, drop, sym, ◌∙◌, ap, arith, ℕ}
use Rattle.std.proofs.lemmas.List.{take_rest}
use Rattle.std.proofs.lemmas.List.FromFn.{map-range_with_len_more}
use Rattle.o2_model.specs.Words.{push}
use Rattle.o2_slots.specs.Entries.{entry_size, node_of}
use Rattle.o2_slots.proofs.entries.nodes_in.Goals as goal

pub loop-k-preserved : goal.loop-k-preserved
loop-k-preserved c =
    let bytes = c.args.bytes.now in
    let geo = c.args.geo.now in
    let k = c.loop-k.k in
    let size = c.entry_size-size.result in
    let place : size * k ≡ 0 + entry_size geo * k = rw c.entry_size-size.ensures (omega arith) in
    let read : c.node_of.result ≡ node_of geo (drop (0 + entry_size geo * k) bytes) =
    c.node_of.ensures ∙ (ap (node_of geo) (take_rest bytes (size * k)) ∙ ap (λ (at : ℕ). node_of geo (drop at bytes)) place)
    in
    c.in_ok-put.ensures
    ∙ (ap (λ xs. push xs c.node_of.result) c.loop-k.invariant
    ∙ (ap (push _) read ∙ sym (map-range_with_len_more (λ j. node_of geo (drop (0 + entry_size geo * j) bytes)) 0 k k (omega arith))))
