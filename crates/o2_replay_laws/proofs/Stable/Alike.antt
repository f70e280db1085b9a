-- Two volumes whose numbers of clusters and slots may differ: where neither reading has a fault, blocks that agree give the same
-- extents.
use Rattle.std.proofs.Common.{◌≡◌, inl, inr, ℕ, zero, suc, ◌+◌, true, ◌==◌, List, [], ◌∷◌, refl, sym, ◌∙◌, ap}
use Rattle.std.proofs.lemmas.Bool.{cases_Bool, or_right}
use Rattle.o2_ondisk.specs.declared.extent_rec.ExtentRec.{ExtentRec}
use Rattle.o2_model.specs.Words.{among}
use Rattle.o2_model.specs.Volume.{Volume}
use Rattle.o2_laws.specs.Frames.{SameOn}
use Rattle.o2_model.specs.Extents.{Extents, LeafRule, may_follow, leaf_clusters, leaf_of, with_leaf, with_seen, end_of, is_sound_header, is_extent_block, is_sound_leaf, names_new_block, with_met, records_in_block, read_records, read_list, nothing_read, extent_list}
use Rattle.o2_model.specs.Extents.LeafRule.{ToClusters}
use Rattle.o2_model.specs.Inodes.{is_directory, extents, has_list, most_flags, most_in_dinode}
use Rattle.o2_laws.proofs.Readings.{push_some, reading_grows, among_last, same_on_before}
use Rattle.o2_model.proofs.Readings.{met_seen}
use Rattle.o2_replay_laws.proofs.Stable.SameDirectory.{among_first}

-- The two volumes have blocks and clusters of one size, and one generation.
pub record SameSizes (v u : Volume) : Type 0 where
  pub block_bits : u.geo.block_bits ≡ v.geo.block_bits
  pub cluster_bits : u.geo.cluster_bits ≡ v.geo.cluster_bits
  pub generation : u.geo.generation ≡ v.geo.generation

alike_block : (v u : Volume) → SameSizes v u → (depth b : ℕ) → u.at b ≡ v.at b → is_extent_block u depth b ≡ is_extent_block v depth b
unfolding is_extent_block
alike_block v u sizes depth b same = rw (same, sizes.generation) refl

alike_met : (v u : Volume) → SameSizes v u → (b : ℕ) (t : Extents) → u.at b ≡ v.at b → with_met u b t ≡ with_met v b t
unfolding with_met
alike_met v u sizes b t same = rw (same, sizes.block_bits) refl

alike_records : (v u : Volume) → SameSizes v u → (b : ℕ) → u.at b ≡ v.at b → records_in_block u b ≡ records_in_block v b
unfolding records_in_block
alike_records v u sizes b same = rw (same, sizes.block_bits) refl

-- ---- extents
reading_alike : (v u : Volume) → SameSizes v u → (m : LeafRule) (depth holder low : ℕ) (rs : List ExtentRec) (t : Extents) → SameOn (read_records v m depth holder low rs t).seen v u.at
    → (read_records v m depth holder low rs t).faults ≡ [] → (read_records u m depth holder low rs t).faults ≡ []
    → read_records u m depth holder low rs t ≡ read_records v m depth holder low rs t
reading_alike v u sizes m depth holder low [] t same none here = refl
reading_alike v u sizes m zero holder low (r ∷ rs) t same none here =
    elim (cases_Bool (leaf_clusters r == 0)) [
      | inl empty ↦ rw empty (reading_alike v u sizes m zero holder low rs t (rw empty at same) (rw empty at none) (rw empty at here))
      | inr some ↦ elim (cases_Bool (may_follow v m t.leaves (leaf_of r))) [
        | inr bad ↦ absurd (push_some t.faults holder (rw (some, bad) at none))
        | inl sound ↦ elim (cases_Bool (may_follow u m t.leaves (leaf_of r))) [
          | inr bad ↦ absurd (push_some t.faults holder (rw (some, bad) at here))
          | inl also ↦
              rw (some, also, sound)
              (reading_alike v u sizes m zero holder low rs (with_leaf t (leaf_of r)) (rw (some, sound) at same) (rw (some, sound) at none) (rw (some, also) at here))
        ]
      ]
    ]
reading_alike v u sizes m (suc depth) holder low (r ∷ rs) t same none here =
    elim (cases_Bool (names_new_block v low t.seen r)) [
      | inr old ↦ absurd (push_some t.faults holder (rw old at none))
      | inl new ↦ elim (cases_Bool (names_new_block u low t.seen r)) [
        | inr old ↦ absurd (push_some t.faults holder (rw old at here))
        | inl also ↦ elim (cases_Bool (is_extent_block v depth r.blkno)) [
          | inr bad ↦ absurd (push_some t.faults holder (rw (new, bad) at none))
          | inl good ↦
              let b = r.blkno in
              let met = with_met v b (with_seen t b) in
              let child = read_records v m depth b 0 (records_in_block v b) met in
              let other = read_records u m depth b 0 (records_in_block u b) (with_met u b (with_seen t b)) in
              let rest = reading_grows v m (suc depth) holder (r.cpos + 1) rs child in
              let below = reading_grows v m depth b 0 (records_in_block v b) met in
              let same' : SameOn (read_records v m (suc depth) holder (r.cpos + 1) rs child).seen v u.at = rw (new, good) at same in
              let none' : (read_records v m (suc depth) holder (r.cpos + 1) rs child).faults ≡ [] = rw (new, good) at none in
              let seen : among met.seen b ≡ true = rw (met_seen v b (with_seen t b)) (among_last t.seen b) in
              let bytes = same'.same b (rest.seen b (below.seen b seen)) in
              let fine : is_extent_block u depth b ≡ true = alike_block v u sizes depth b bytes ∙ good in
              let here' : (read_records u m (suc depth) holder (r.cpos + 1) rs other).faults ≡ [] = rw (also, fine) at here in
              let begun : other ≡ read_records u m depth b 0 (records_in_block v b) met
              = ap (λ bs. read_records u m depth b 0 bs (with_met u b (with_seen t b))) (alike_records v u sizes b bytes)
              ∙ ap (read_records u m depth b 0 (records_in_block v b)) (alike_met v u sizes b (with_seen t b) bytes) in
              let whole : other.faults ≡ [] = (reading_grows u m (suc depth) holder (r.cpos + 1) rs other).faults here' in
              let one : other ≡ child
              = begun ∙ reading_alike v u sizes m depth b 0 (records_in_block v b) met (same_on_before rest.seen same') (rest.faults none') (sym (ap (λ x. x.faults) begun) ∙ whole) in
              rw (new, good, also, fine)
              (ap (read_records u m (suc depth) holder (r.cpos + 1) rs) one
              ∙ reading_alike v u sizes m (suc depth) holder (r.cpos + 1) rs child same' none' (sym (ap (λ x. (read_records u m (suc depth) holder (r.cpos + 1) rs x).faults) one) ∙ here'))
        ]
      ]
    ]

alike_has_list : (v u : Volume) (b : ℕ) → u.at b ≡ v.at b → has_list u b ≡ has_list v b
alike_has_list v u b same = rw same refl

alike_flags : (v u : Volume) (b : ℕ) → u.at b ≡ v.at b → most_flags u b ≡ most_flags v b
unfolding is_directory
alike_flags v u b same = rw same refl

alike_room : (v u : Volume) → SameSizes v u → (b : ℕ) → most_in_dinode u ≡ most_in_dinode v
alike_room v u sizes b = rw sizes.block_bits refl

list_alike : (v u : Volume) → SameSizes v u → (m : LeafRule) (holder place most : ℕ) → u.at holder ≡ v.at holder → SameOn (read_list v m holder place most).seen v u.at
    → (read_list v m holder place most).faults ≡ [] → (read_list u m holder place most).faults ≡ [] → read_list u m holder place most ≡ read_list v m holder place most
list_alike v u sizes m holder place most bytes same none here =
    let list = extent_list place (v.at holder) in
    elim (cases_Bool (is_sound_header most list.header)) [
      | inr bad ↦ rw (bytes, bad) refl
      | inl sound ↦
          rw (bytes, sound)
          (reading_alike v u sizes m list.header.tree_depth holder 0 list.records nothing_read (rw sound at same) (rw sound at none) (rw (bytes, sound) at here))
    ]

pub extents_alike : (v u : Volume) → SameSizes v u → (b : ℕ) → SameOn (b ∷ (extents v b).seen) v u.at → (extents v b).faults ≡ [] → (extents u b).faults ≡ [] → extents u b ≡ extents v b
unfolding extents
extents_alike v u sizes b same none here =
    let bytes : u.at b ≡ v.at b = same.same b (among_first b (extents v b).seen) in
    elim (cases_Bool (has_list v b)) [
      | inr none_there ↦ rw (alike_has_list v u b bytes, none_there) refl
      | inl has ↦
          let also : has_list u b ≡ true = alike_has_list v u b bytes ∙ has in
          let seen : SameOn (extents v b).seen v u.at = same_on_before (λ c h. or_right _ _ h) same in
          let flags = alike_flags v u b bytes in
          let room = alike_room v u sizes b in
          rw (also, has, flags, room)
          (list_alike v u sizes (ToClusters (most_flags v b)) b 0xc0 (most_in_dinode v) bytes (rw has at seen) (rw has at none) (rw (also, flags, room) at here))
    ]
