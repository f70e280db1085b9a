-- What the root's fields say decides.
use Rattle.std.proofs.Common.{◌≡◌, List, Some, sym, ◌∙◌, ap}
use Rattle.o2_ondisk.specs.Bits.{has_bits, inline_index_flag}
use Rattle.o2_ondisk.specs.DxRoots.{dx_root_of}
use Rattle.o2_ondisk.specs.declared.dx_root.DxRoot.{DxRoot}
use Rattle.o2_model.specs.Indexes.{dx_root}
use Rattle.o2_model.specs.declared.leaf.Leaf.{Leaf}
use Rattle.o2_extent.proofs.Owners.{no_index_root, bad_entries, entries_in_root, leaves_by_list}
use Rattle.o2_extent.proofs.roots.index_root_records.Goals as goal

pub returns-then-not-is_index_root_at-clause-told : goal.returns-then-not-is_index_root_at-clause-told
returns-then-not-is_index_root_at-clause-told g c v seen =
    let shows = seen.shows in
    let bytes = seen.is in
    let fields : c.read_dx_root-root.result ≡ dx_root v c.args.b = c.read_dx_root-root.ensures ∙ ap dx_root_of bytes in
    no_index_root v c.args.b (sym (c.is_index_root_at.ensures v shows.numbers fields) ∙ c.if-not-is_index_root_at.true)

pub returns-then-not-has_sound_index_list-clause-told : goal.returns-then-not-has_sound_index_list-clause-told
returns-then-not-has_sound_index_list-clause-told g c v seen =
    let shows = seen.shows in
    let bytes = seen.is in
    let fields : c.read_dx_root-root.result ≡ dx_root v c.args.b = c.read_dx_root-root.ensures ∙ ap dx_root_of bytes in
    let flag = ap (λ (root : DxRoot). has_bits root.flags inline_index_flag) fields in
    bad_entries v c.args.b
    (sym (c.is_index_root_at.ensures v shows.numbers fields) ∙ c.if-not-is_index_root_at.false)
    (sym flag ∙ (sym c.holds_index_entries.ensures ∙ c.if-holds_index_entries.true))
    (sym (c.has_sound_index_list.ensures.test v c.args.b shows.numbers bytes) ∙ c.if-not-has_sound_index_list.true)

pub returns-then-holds_index_entries-clause-told : goal.returns-then-holds_index_entries-clause-told
returns-then-holds_index_entries-clause-told g c v seen =
    let shows = seen.shows in
    let bytes = seen.is in
    let fields : c.read_dx_root-root.result ≡ dx_root v c.args.b = c.read_dx_root-root.ensures ∙ ap dx_root_of bytes in
    let flag = ap (λ (root : DxRoot). has_bits root.flags inline_index_flag) fields in
    ap (λ (leaves : List Leaf). Some leaves) (c.from.ensures ∙ c.new.ensures.items)
    ∙ entries_in_root v c.args.b
    (sym (c.is_index_root_at.ensures v shows.numbers fields) ∙ c.if-not-is_index_root_at.false)
    (sym flag ∙ (sym c.holds_index_entries.ensures ∙ c.if-holds_index_entries.true))
    (sym (c.has_sound_index_list.ensures.test v c.args.b shows.numbers bytes) ∙ c.if-not-has_sound_index_list.false)

pub returns-clause-told : goal.returns-clause-told
returns-clause-told g c v seen =
    let shows = seen.shows in
    let bytes = seen.is in
    let fields : c.read_dx_root-root.result ≡ dx_root v c.args.b = c.read_dx_root-root.ensures ∙ ap dx_root_of bytes in
    let flag = ap (λ (root : DxRoot). has_bits root.flags inline_index_flag) fields in
    let keeps = c.in_ok-reading.ensures.read v seen in
    c.sound_leaves.ensures
    ∙ leaves_by_list v c.args.b
    (sym (c.is_index_root_at.ensures v shows.numbers fields) ∙ c.if-not-is_index_root_at.false)
    (sym flag ∙ (sym c.holds_index_entries.ensures ∙ c.if-holds_index_entries.false))
    c.in_ok-reading.reading.leaves.items c.in_ok-reading.reading.faults.items keeps.leaves keeps.faults
