-- The bytes of the block that is found, or zeros.
use Rattle.std.proofs.Common.{◌≡◌, ℕ, ◌+◌, ◌-◌, ◌^◌, ◌≤◌, ◌++◌, map, length, take, drop, sym, ◌∙◌, ap, arith, None, Some}
use Rattle.std.specs.Prelude.{slice_index, replicate}
use Rattle.std.specs.List.{range_with_len}
use Rattle.std.specs.Option.{option_map_or}
use Rattle.std.proofs.lemmas.List.{length-append, length-replicate}
use Rattle.o2_model.specs.Volume.{per_cluster}
use Rattle.o2_model.specs.declared.geo.Geo.{Geo}
use Rattle.o2_extent.specs.Maps.{written_at}
use Rattle.o2_extent.proofs.FileBytes.{part_is, zeros_are}
use Rattle.o2_extent.proofs.Sizes.{few_bytes}
use Rattle.o2_extent.proofs.pieces.add_piece.Goals as goal

pub put_zeros-requires : goal.put_zeros-requires
put_zeros-requires g c = omega (arith, few_bytes c.args.geo.now c.requires.geo.sizes, c.requires.inside)

pub returns-in_ok-put_all-in-Some-clause-bytes : goal.returns-in_ok-put_all-in-Some-clause-bytes
returns-in_ok-put_all-in-Some-clause-bytes g c v shows =
    let from = c.args.from in
    let count = c.args.count in
    let block : c.in_ok-block-in-Some.block ≡ v.at c.in-Some.b = c.in_ok-block-in-Some.ensures.bytes v shows in
    let inside : from + count ≤ length (v.at c.in-Some.b) = omega (arith, c.requires.inside, c.in_ok-block-in-Some.ensures.size, ap length block) in
    let n : from + count - from ≡ count = omega arith in
    let found : Some c.in-Some.b ≡ written_at (per_cluster v) c.args.j c.args.leaves.now = c.in-Some.ensures.block ∙ ap (λ (geo : Geo). written_at (2 ^ (geo.cluster_bits - geo.block_bits)) c.args.j c.args.leaves.now) (sym shows.numbers) in
    c.in_ok-put_all-in-Some.ensures
    ∙ ap (λ xs. c.args.out.now.items ++ xs)
    (ap (λ k. take k (drop from c.as_slice.result.now)) n
    ∙ (ap (λ bs. take count (drop from bs)) (c.as_slice.ensures ∙ block)
    ∙ (part_is (v.at c.in-Some.b) from count inside
    ∙ ap (λ w. map (λ o. option_map_or (λ b. slice_index (v.at b) o) w 0) (range_with_len from count)) found)))

pub returns-in_ok-put_zeros-in-None-clause-bytes : goal.returns-in_ok-put_zeros-in-None-clause-bytes
returns-in_ok-put_zeros-in-None-clause-bytes g c v shows =
    let from = c.args.from in
    let count = c.args.count in
    let found : None ≡ written_at (per_cluster v) c.args.j c.args.leaves.now = c.in-None.ensures.block ∙ ap (λ (geo : Geo). written_at (2 ^ (geo.cluster_bits - geo.block_bits)) c.args.j c.args.leaves.now) (sym shows.numbers) in
    c.in_ok-put_zeros-in-None.ensures
    ∙ ap (λ xs. c.args.out.now.items ++ xs)
    (zeros_are from count
    ∙ ap (λ w. map (λ o. option_map_or (λ b. slice_index (v.at b) o) w 0) (range_with_len from count)) found)

pub returns-in_ok-put_zeros-in-None-clause-long : goal.returns-in_ok-put_zeros-in-None-clause-long
returns-in_ok-put_zeros-in-None-clause-long g c =
    omega (arith, ap length c.in_ok-put_zeros-in-None.ensures, length-append c.args.out.now.items (replicate {A = ℕ} c.args.count 0), length-replicate {A = ℕ} c.args.count 0)
