-- The file begins at the record of its first cluster.
use Rattle.std.proofs.Common.{◌≡◌, ℕ, inl, true, refl, sym, ◌∙◌, ap, subst, arith}
use Rattle.std.specs.Prelude.{find, None, Some}
use Rattle.o2_model.specs.Words.{among}
use Rattle.o2_model.specs.declared.geo.Geo.{Geo}
use Rattle.o2_model.specs.Checks.SlotMap.{is_sound_slot_map}
use Rattle.o2_model.specs.Contents.{maps_cluster}
use Rattle.o2_model.specs.Inodes.{leaf_records}
use Rattle.o2_model.proofs.Faults.{holds_unless}
use Rattle.o2_view.specs.Plans.{home_at}
use Rattle.o2_view.proofs.Shown.{still_shows}
use Rattle.o2_extent.specs.Readings.{Within}
use Rattle.o2_extent.proofs.Views.{still_in}
use Rattle.o2_slots.specs.Emptied.{AreEmptied, entry_blocks}
use Rattle.o2_slots.proofs.FirstClusters.{first_record, place_of, starts_within}
use Rattle.o2_slots.proofs.emptying.empty_map.Goals as goal

pub returns-in_default-clause-fails : goal.returns-in_default-clause-fails
returns-in_default-clause-fails g c = record {
  own = inl refl;
  first = λ v shows.
      let told = c.in_ok-map_records.ensures.told v shows in
      let sound : is_sound_slot_map v c.args.inode ≡ true = holds_unless c.args.inode (is_sound_slot_map v c.args.inode) told.0.0 in
      let (leaf, found) = first_record v c.args.inode (rw shows.numbers c.requires.volume.numbers.some_slots) sound in
      let leaves : c.new-leaves.result ≡ leaf_records v c.args.inode = c.new-leaves.ensures ∙ told.1 in
      let none : None ≡ Some leaf = c.in_default.ensures ∙ (ap (find (maps_cluster 0)) leaves ∙ found) in
      absurd (cc);
}

pub plan_blocks-requires : goal.plan_blocks-requires
plan_blocks-requires g c =
    let within : Within c.args.geo.now c.new-leaves.result = subst (Within c.args.geo.now) (sym c.new-leaves.ensures) c.in_ok-map_records.ensures.within in
    (omega arith, (still_in c.requires.volume c.map_records.ensures.reads, starts_within c.args.geo.now c.new-leaves.result c.in-Some.first within c.in-Some.ensures))

pub returns-clause-emptied : goal.returns-clause-emptied
returns-clause-emptied g c v shows =
    let told = c.in_ok-map_records.ensures.told v shows in
    let leaves : c.new-leaves.result ≡ leaf_records v c.args.inode = c.new-leaves.ensures ∙ told.1 in
    let found : find (maps_cluster 0) (leaf_records v c.args.inode) ≡ Some c.in-Some.first = ap (find (maps_cluster 0)) (sym leaves) ∙ sym c.in-Some.ensures in
    let (new, shown, emptied) = c.in_ok-plan_blocks.ensures.emptied v (still_shows c.map_records.ensures.reads shows) in
    (new, shown, subst (λ (place : ℕ). AreEmptied v new place c.args.from) (place_of v c.args.inode c.in-Some.first found) emptied)

pub returns-clause-alone : goal.returns-clause-alone
returns-clause-alone g c v shows b out =
    let told = c.in_ok-map_records.ensures.told v shows in
    let leaves : c.new-leaves.result ≡ leaf_records v c.args.inode = c.new-leaves.ensures ∙ told.1 in
    let found : find (maps_cluster 0) (leaf_records v c.args.inode) ≡ Some c.in-Some.first = ap (find (maps_cluster 0)) (sym leaves) ∙ sym c.in-Some.ensures in
    let place = place_of v c.args.inode c.in-Some.first found in
    let same = ap (λ (x : ℕ). among (entry_blocks v.geo x c.args.from) b) place in
    let numbers = ap (λ (x : Geo). among (entry_blocks x c.in-Some.first.block c.args.from) b) (sym shows.numbers) in
    c.in_ok-plan_blocks.ensures.alone b (numbers ∙ (same ∙ out)) ∙ ap (λ p. home_at p b) c.map_records.ensures.reads.same.plan
