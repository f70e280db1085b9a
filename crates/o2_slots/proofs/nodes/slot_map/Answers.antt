-- The nodes by the bytes of the file.
use Rattle.std.proofs.Common.{◌≡◌, ℕ, ◌-◌, ◌+◌, ◌*◌, ◌/◌, ◌++◌, List, length, drop, map, refl, ◌∙◌, ap, arith}
use Rattle.std.specs.List.{range_with_len}
use Rattle.std.proofs.lemmas.List.FromFn.{length-map-range_with_len}
use Rattle.o2_model.specs.Contents.{byte_of}
use Rattle.o2_model.specs.Inodes.{leaf_records}
use Rattle.o2_view.proofs.Shown.{still_shows}
use Rattle.o2_extent.proofs.Views.{only_both}
use Rattle.o2_slots.specs.Entries.{entry_size, node_of}
use Rattle.o2_slots.proofs.EntryPlaces.{nodes_are, whole_slots}
use Rattle.o2_slots.proofs.nodes.slot_map.Goals as goal

pub returns-clause-told : goal.returns-clause-told
returns-clause-told g c v shows =
    let told = c.in_ok-map_records.ensures.told v shows in
    let end = c.from.result * c.entry_size.result in
    let leaves : c.new-leaves.result ≡ leaf_records v c.args.inode = c.new-leaves.ensures ∙ told.1 in
    let ends : end ≡ c.args.geo.now.slots * entry_size c.args.geo.now = rw (c.from.ensures, c.entry_size.ensures) refl in
    let all : end - 0 ≡ end = omega arith in
    let bytes : c.deref.result.now ≡ map (byte_of v c.new-leaves.result) (range_with_len 0 end) =
    c.deref.ensures.value
    ∙ (c.in_ok-add_bytes.ensures.bytes v (still_shows c.map_records.ensures.reads shows)
    ∙ (ap (λ (xs : List ℕ). xs ++ map (byte_of v c.new-leaves.result) (range_with_len 0 (end - 0))) c.new-bytes.ensures.items
    ∙ ap (λ n. map (byte_of v c.new-leaves.result) (range_with_len 0 n)) all))
    in
    (told.0, c.from-2.ensures ∙ (c.in_ok-nodes.ensures ∙ nodes_are v c.args.geo.now c.args.inode c.new-leaves.result c.deref.result.now end shows.numbers leaves ends bytes))

pub returns-clause-slots : goal.returns-clause-slots
returns-clause-slots g c =
    let size = c.entry_size.result in
    let geo = c.args.geo.now in
    let long : length c.deref.result.now ≡ geo.slots * entry_size geo =
    ap length c.deref.ensures.value
    ∙ (c.in_ok-add_bytes.ensures.long ∙ (rw (c.new-bytes.ensures.items, c.from.ensures, c.entry_size.ensures) (omega arith)))
    in
    ap length (c.from-2.ensures ∙ c.in_ok-nodes.ensures)
    ∙ (length-map-range_with_len (λ k. node_of geo (drop (0 + entry_size geo * k) c.deref.result.now)) 0 (length c.deref.result.now / entry_size geo)
    ∙ (ap (λ n. n / entry_size geo) long ∙ whole_slots geo geo.slots))

pub returns-clause-reads : goal.returns-clause-reads
returns-clause-reads g c = only_both c.map_records.ensures.reads c.add_bytes.ensures.reads
