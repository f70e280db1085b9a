-- One piece more.
use Rattle.std.proofs.Common.{◌≡◌, ◌+◌, ◌-◌, ◌%◌, ◌^◌, ◌<◌, ◌≤◌, ◌++◌, map, sym, ◌∙◌, ap, subst, arith, append_assoc}
use Rattle.std.specs.List.{range_with_len}
use Rattle.std.proofs.Math.Nat.{mod-lt}
use Rattle.o2_model.specs.Contents.{byte_of}
use Rattle.o2_model.specs.Volume.{block_size}
use Rattle.o2_model.specs.declared.geo.Geo.{Geo}
use Rattle.o2_view.proofs.Shown.{still_shows}
use Rattle.o2_extent.proofs.FileBytes.{range_split, piece_bytes}
use Rattle.o2_extent.proofs.Views.{only_both}
use Rattle.o2_extent.proofs.pieces.add_bytes.Goals as goal

pub loop-next-preserved : goal.loop-next-preserved
loop-next-preserved g c = record {
  bytes = λ v shows.
      let leaves = c.args.leaves.now in
      let at = c.args.at in
      let next = c.loop-next.next in
      let count = c.min-count.result in
      let size = c.block_bytes-size.result in
      let f = byte_of v leaves in
      let is : size ≡ block_size v = c.block_bytes-size.ensures.bytes ∙ ap (λ (geo : Geo). 2 ^ geo.block_bits) (sym shows.numbers) in
      let some : 0 < block_size v = omega (arith, is, c.block_bytes-size.ensures.some) in
      let low : next % size < size = mod-lt next (omega (arith, c.block_bytes-size.ensures.some)) in
      let within : next % size + count ≤ size = omega (arith, low, c.min-count.ensures) in
      let inside : next % block_size v + count ≤ block_size v = subst (λ w. next % w + count ≤ w) is within in
      let piece = rw is at (c.in_ok-add_piece.ensures.bytes v (still_shows c.loop-next.invariant.reads shows)) in
      let there : at + (next - at) ≡ next = omega (arith, c.loop-next.invariant.low) in
      let more : next + count - at ≡ next - at + count = omega (arith, c.loop-next.invariant.low) in
      piece
      ∙ (ap (λ xs. c.loop-next.out.items ++ xs) (piece_bytes v leaves next count some inside)
      ∙ (ap (λ xs. xs ++ map f (range_with_len next count)) (c.loop-next.invariant.bytes v shows)
      ∙ (append_assoc c.args.out.now.items (map f (range_with_len at (next - at))) (map f (range_with_len next count))
      ∙ ap (λ xs. c.args.out.now.items ++ xs)
      (ap (λ a. map f (range_with_len at (next - at)) ++ map f (range_with_len a count)) (sym there)
      ∙ (sym (range_split f at (next - at) count) ∙ ap (λ k. map f (range_with_len at k)) (sym more))))));
  long = omega (arith, c.in_ok-add_piece.ensures.long, c.loop-next.invariant.long, c.loop-next.invariant.low);
  low = omega (arith, c.loop-next.invariant.low);
  high = omega (arith, c.loop-next-test.true, c.min-count.ensures);
  reads = only_both c.loop-next.invariant.reads c.add_piece.ensures.reads;
}
