-- The header and the total decide.
use Rattle.std.proofs.Common.{◌≡◌, inl, ℕ, false, true, List, refl, sym, ◌∙◌, ap, drop}
use Rattle.o2_ondisk.specs.Dinodes.{last_part_place, window_bitmap_place, dinode_of}
use Rattle.o2_ondisk.specs.Fields.{bytes_at}
use Rattle.o2_ondisk.specs.LocalAllocHeaders.{local_alloc_header_of}
use Rattle.o2_ondisk.specs.declared.local_alloc_header.LocalAllocHeader.{LocalAllocHeader}
use Rattle.o2_ondisk.specs.declared.dinode.Dinode.{Dinode}
use Rattle.o2_model.specs.Allocators.{total_of}
use Rattle.o2_model.specs.Windows.{window, window_total}
use Rattle.o2_model.proofs.Faults.{fails_nowhere}
use Rattle.o2_slots.specs.Windows.{is_sound_window_head}
use Rattle.o2_slots.proofs.Judged.{fails_there}
use Rattle.o2_slots.proofs.Headers.{window_fits}
use Rattle.o2_slots.proofs.window.local_alloc.Goals as goal

pub returns-then-not-fits-clause-fails : goal.returns-then-not-fits-clause-fails
returns-then-not-fits-clause-fails g c = record {
  own = inl refl;
  first = λ v shows.
      let bytes = c.as_slice-bytes.ensures ∙ c.in_ok-block.ensures.bytes v shows in
      let total : c.total-total.result ≡ window_total v c.args.inode = c.total-total.ensures ∙ (ap (λ (d : Dinode). total_of d.role_data) c.read_dinode.ensures ∙ ap (λ (bs : List ℕ). total_of (dinode_of bs).role_data) bytes) in
      let sound : is_sound_window_head v c.args.inode ≡ false =
      window_fits v c.args.geo.now c.args.inode c.as_slice-bytes.result.now c.header_of-header.result c.total-total.result shows.numbers bytes c.header_of-header.ensures total ∙ (sym c.fits.ensures ∙ c.if-not-fits.true)
      in
      inl (refl, fails_there c.args.inode (is_sound_window_head v c.args.inode) sound);
}

pub returns-clause-told : goal.returns-clause-told
returns-clause-told g c v shows =
    let bytes = c.as_slice-bytes.ensures ∙ c.in_ok-block.ensures.bytes v shows in
    let total : c.total-total.result ≡ window_total v c.args.inode = c.total-total.ensures ∙ (ap (λ (d : Dinode). total_of d.role_data) c.read_dinode.ensures ∙ ap (λ (bs : List ℕ). total_of (dinode_of bs).role_data) bytes) in
    let header : c.header_of-header.result ≡ window v c.args.inode = c.header_of-header.ensures ∙ ap (λ (bs : List ℕ). local_alloc_header_of (drop last_part_place bs)) bytes in
    let sound : is_sound_window_head v c.args.inode ≡ true =
    window_fits v c.args.geo.now c.args.inode c.as_slice-bytes.result.now c.header_of-header.result c.total-total.result shows.numbers bytes c.header_of-header.ensures total ∙ (sym c.fits.ensures ∙ c.if-not-fits.false)
    in (
      (fails_nowhere c.args.inode (is_sound_window_head v c.args.inode) sound, tt),
      record {
        start = ap (λ (h : LocalAllocHeader). h.bm_off) header;
        total = total;
        bits = c.in_ok-bits.ensures ∙ (ap (λ (h : LocalAllocHeader). bytes_at window_bitmap_place h.size c.as_slice-bytes.result.now) header ∙ ap (bytes_at window_bitmap_place (window v c.args.inode).size) bytes);
      },
    )
