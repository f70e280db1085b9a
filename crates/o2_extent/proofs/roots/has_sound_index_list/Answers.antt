-- The list has the room from its head to the block's end.
use Rattle.std.proofs.Common.{◌≡◌, ◌^◌, drop, refl, sym, ◌∙◌, ap}
use Rattle.o2_ondisk.specs.DxListHeaders.{dx_list_header_of}
use Rattle.o2_model.specs.Volume.{block_size}
use Rattle.o2_model.specs.declared.geo.Geo.{Geo}
use Rattle.o2_extent.proofs.roots.has_sound_index_list.Goals as goal

pub returns-clause-test : goal.returns-clause-test
returns-clause-test c v b numbers bytes =
    let at = c.args.at in
    let is : c.index_header_at-header.result ≡ dx_list_header_of (drop at (v.at b)) = c.index_header_at-header.ensures ∙ ap (λ bs. dx_list_header_of (drop at bs)) bytes in
    let size : c.block_bytes.result ≡ block_size v = c.block_bytes.ensures.bytes ∙ ap (λ (geo : Geo). 2 ^ geo.block_bits) (sym numbers) in
    c.fits.ensures ∙ rw (is, size) refl
