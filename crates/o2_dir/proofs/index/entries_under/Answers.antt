-- What the root tells decides.
use Rattle.std.proofs.Common.{◌≡◌, false, true, ◌&&◌, nat_lt, sym, ◌∙◌, ap, subst}
use Rattle.std.proofs.lemmas.Result.{IfOk-weaker}
use Rattle.o2_ondisk.specs.DxRoots.{dx_root_of}
use Rattle.o2_ondisk.specs.declared.dx_root.DxRoot.{DxRoot}
use Rattle.o2_model.specs.declared.geo.Geo.{Geo}
use Rattle.o2_model.specs.Volume.{is_in_range}
use Rattle.o2_view.specs.Geos.{blocks_of}
use Rattle.o2_dir.specs.IndexForms.{found_in_root}
use Rattle.o2_model.specs.Indexes.{dx_root}
use Rattle.o2_extent.specs.Owners.{is_sound_index_root, index_list}
use Rattle.o2_view.proofs.Shown.{still_shows}
use Rattle.o2_dir.proofs.IndexForms.{out_of_range, of_another, not_sound, as_found, none_where, some_where}
use Rattle.o2_dir.proofs.index.entries_under.Goals as goal

pub returns-then-not-is_block_in_range-clause-told : goal.returns-then-not-is_block_in_range-clause-told
returns-then-not-is_block_in_range-clause-told g c v shows is =
    out_of_range v c.args.inode
    (ap (is_in_range v) is
    ∙ (ap (λ (geo : Geo). nat_lt 0 c.args.root && nat_lt c.args.root (blocks_of geo)) shows.numbers ∙ (sym c.is_block_in_range.ensures ∙ c.if-not-is_block_in_range.true)))

pub returns-then-read_dx_root-inode-clause-told : goal.returns-then-read_dx_root-inode-clause-told
returns-then-read_dx_root-inode-clause-told g c v shows is =
    let fields : c.read_dx_root.result ≡ dx_root v c.args.root = c.read_dx_root.ensures ∙ ap dx_root_of (c.as_slice-bytes.ensures ∙ c.in_ok-block.ensures.bytes v shows) in
    of_another v c.args.inode
    (λ same. c.if-read_dx_root-inode.true (ap (λ (root : DxRoot). root.dir_blkno) fields ∙ (ap (λ b. (dx_root v b).dir_blkno) (sym is) ∙ same)))

pub returns-in_default-clause-told : goal.returns-in_default-clause-told
returns-in_default-clause-told g c v shows is =
    let bytes = c.as_slice-bytes.ensures ∙ c.in_ok-block.ensures.bytes v shows in
    let fields : c.read_dx_root.result ≡ dx_root v c.args.root = c.read_dx_root.ensures ∙ ap dx_root_of bytes in
    let of = ap (λ b. (dx_root v b).dir_blkno) is ∙ (sym (ap (λ (root : DxRoot). root.dir_blkno) fields) ∙ c.if-read_dx_root-inode.false) in
    let told = (rw c.in_default.is at c.in_ok-leaves.ensures.told) v (record { shows = still_shows c.look.ensures.reads shows; is = bytes }) in
    not_sound v c.args.inode of (subst (λ b. is_sound_index_root v b ≡ false) (sym is) (none_where (is_sound_index_root v c.args.root) (index_list v c.args.root).leaves told))

pub returns-clause-told : goal.returns-clause-told
returns-clause-told g c =
    IfOk-weaker c.entries_in_root.result _ _
    (λ found told v shows is.
    let bytes = c.as_slice-bytes.ensures ∙ c.in_ok-block.ensures.bytes v shows in
    let fields : c.read_dx_root.result ≡ dx_root v c.args.root = c.read_dx_root.ensures ∙ ap dx_root_of bytes in
    let of = ap (λ b. (dx_root v b).dir_blkno) is ∙ (sym (ap (λ (root : DxRoot). root.dir_blkno) fields) ∙ c.if-read_dx_root-inode.false) in
    let here = still_shows c.look.ensures.reads shows in
    let sound = some_where (is_sound_index_root v c.args.root) (index_list v c.args.root).leaves c.in-Some.leaves ((rw c.in-Some.is at c.in_ok-leaves.ensures.told) v (record { shows = here; is = bytes })) in
    let listed : found ≡ found_in_root v c.args.root (index_list v c.args.root).leaves =
    told v (still_shows c.index_root_records.ensures.reads here) c.args.root bytes ∙ ap (found_in_root v c.args.root) (c.as_slice.ensures ∙ sound.1) in
    listed
    ∙ (ap (λ b. found_in_root v b (index_list v b).leaves) (sym is)
    ∙ as_found v c.args.inode of (subst (λ b. is_sound_index_root v b ≡ true) (sym is) sound.0)))
    c.entries_in_root.ensures.told
