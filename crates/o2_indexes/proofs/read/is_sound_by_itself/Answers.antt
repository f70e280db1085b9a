-- What fails first ends it, and the names decide at last.
use Rattle.std.proofs.Common.{sym, ◌∙◌, ap}
use Rattle.o2_ondisk.specs.DxRoots.{dx_root_of}
use Rattle.o2_ondisk.specs.declared.dx_root.DxRoot.{DxRoot}
use Rattle.o2_model.specs.Indexes.{index_entries}
use Rattle.o2_tree.specs.TreeRows.{has_sound_form}
use Rattle.o2_indexes.proofs.SoundTold.{none_where, some_where, bad_form, no_trailers, other_counts, found_decides}
use Rattle.o2_indexes.proofs.read.is_sound_by_itself.Goals as goal

pub returns-then-not-listed-clause-told : goal.returns-then-not-listed-clause-told
returns-then-not-listed-clause-told g c v shows d bytes is keeps listed = no_trailers v d (sym listed.trailers ∙ c.if-not-listed.true)

pub returns-in_default-clause-told : goal.returns-in_default-clause-told
returns-in_default-clause-told g c v shows d bytes is keeps listed =
    bad_form v d (none_where (has_sound_form v d) (index_entries v d) ((rw c.in_default.is at c.in_ok-index.ensures.told) v shows d bytes keeps))

pub returns-then-not-branch-clause-told : goal.returns-then-not-branch-clause-told
returns-then-not-branch-clause-told g c v shows d bytes is keeps listed =
    let some = some_where (has_sound_form v d) (index_entries v d) c.in-Some.index ((rw c.in-Some.is at c.in_ok-index.ensures.told) v shows d bytes keeps) in
    let says = ap (λ (root : DxRoot). root.num_entries) (c.read_dx_root-says.ensures ∙ ap dx_root_of bytes) in
    let counts = c.in_ok-has_index_counts.ensures v d says listed.entries listed.blocks (c.as_slice-index.ensures ∙ some.1) in
    other_counts v d (sym counts ∙ c.if-not-branch.true)

pub returns-clause-told : goal.returns-clause-told
returns-clause-told g c v shows d bytes is keeps listed =
    let some = some_where (has_sound_form v d) (index_entries v d) c.in-Some.index ((rw c.in-Some.is at c.in_ok-index.ensures.told) v shows d bytes keeps) in
    let says = ap (λ (root : DxRoot). root.num_entries) (c.read_dx_root-says.ensures ∙ ap dx_root_of bytes) in
    let index = c.as_slice-index.ensures ∙ some.1 in
    let counts = c.in_ok-has_index_counts.ensures v d says listed.entries listed.blocks index in
    c.in_ok-is_found_in_index.ensures v d shows.numbers listed.entries index
    ∙ found_decides v d is some.0 (sym listed.trailers ∙ c.if-not-listed.false) (sym counts ∙ c.if-not-branch.false)
