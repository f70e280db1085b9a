-- Each name is found where its hash is counted often enough.
use Rattle.std.proofs.Common.{◌≡◌, map, filter, nat_le, sym, ◌∙◌, ap, subst}
use Rattle.std.specs.List.{list_all}
use Rattle.o2_ondisk.specs.NameHashes.{is_ascii_name}
use Rattle.o2_model.specs.declared.geo.Geo.{Geo}
use Rattle.o2_indexes.specs.Places.{place_of_name, place_in_index, times_at, ArePlaceCounts}
use Rattle.o2_indexes.proofs.Agreements.{found_told}
use Rattle.o2_indexes.proofs.found.is_found_in_index.Goals as goal

pub returns : goal.returns
returns c v d numbers live in_index =
    let seed = c.args.geo.now.seed in
    let es = c.args.entries.now in
    let xs = c.args.index.now in
    let named : c.deref.result.now ≡ map (place_of_name seed) (filter (λ e. is_ascii_name e.name) es) = c.deref.ensures.value ∙ c.in_ok-named.ensures in
    let again : c.deref-3.result.now ≡ map (place_of_name seed) (filter (λ e. is_ascii_name e.name) es) = c.deref-3.ensures.value ∙ c.in_ok-named.ensures in
    let indexed : c.deref-2.result.now ≡ map place_in_index xs = c.deref-2.ensures.value ∙ c.in_ok-indexed.ensures in
    c.are_found.ensures
    ∙ (ap (list_all (λ p. nat_le (times_at c.in_ok-names.names p) (times_at c.in_ok-counts.counts p))) again
    ∙ found_told seed es xs c.in_ok-names.names c.in_ok-counts.counts (subst (λ ps. ArePlaceCounts ps c.in_ok-names.names) named c.in_ok-names.ensures)
    (subst (λ ps. ArePlaceCounts ps c.in_ok-counts.counts) indexed c.in_ok-counts.ensures) v d (ap (λ (geo : Geo). geo.seed) (sym numbers)) live in_index)
