-- The root is the directory's, and its list is that of the index.
use Rattle.std.proofs.Common.{◌≡◌, ℕ, true, sym, ◌∙◌, ap, subst}
use Rattle.o2_ondisk.specs.DxRoots.{dx_root_of}
use Rattle.o2_model.specs.Indexes.{dx_root, index_root, is_index_root, index_extents}
use Rattle.o2_view.proofs.Shown.{still_shows}
use Rattle.o2_extent.specs.Owners.{index_list}
use Rattle.o2_extent.specs.Readings.{Keeps}
use Rattle.o2_extent.proofs.Owners.{list_of_index}
use Rattle.o2_extent.proofs.Views.{only_both}
use Rattle.o2_indexes.proofs.read.read_index_in.Goals as goal

pub returns-clause-told : goal.returns-clause-told
returns-clause-told g c v seen of listed =
    let d = c.args.directory in
    let root = c.args.root in
    let numbers = seen.shows.numbers in
    let fields : c.read_dx_root-fields.result ≡ dx_root v root = c.read_dx_root-fields.ensures ∙ ap dx_root_of seen.is in
    let is : is_index_root v d (index_root v d) ≡ true =
    subst (λ (b : ℕ). is_index_root v d b ≡ true) (sym of) (sym (c.is_root_of.ensures v numbers fields) ∙ c.if-not-is_root_of.false) in
    let list : index_list v root ≡ index_extents v d = ap (index_list v) (sym of) ∙ sym (list_of_index v d is) in
    let keeps : Keeps v c.in_ok-reading.reading (index_extents v d) = subst (Keeps v c.in_ok-reading.reading) list (c.in_ok-reading.ensures.read v seen) in
    let bytes = seen.is ∙ ap v.at (sym of) in
    c.in_ok-row_of.ensures.told v numbers of fields keeps (c.in_ok-is_sound_alone.ensures.told v (still_shows c.index_list.ensures.reads seen.shows) d bytes is keeps listed)

pub returns-clause-reads : goal.returns-clause-reads
returns-clause-reads g c = only_both c.index_list.ensures.reads c.is_sound_by_itself.ensures.reads
