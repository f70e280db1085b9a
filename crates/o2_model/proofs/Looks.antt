-- No block is looked at twice by the reading of an extent tree, so that fewer are than the volume has.
use Rattle.std.proofs.Common.{◌≡◌, inl, inr, ⊎_elim, ℕ, zero, suc, ◌+◌, ◌<◌, ◌≤◌, true, false, ◌||◌, ◌==◌, eqb, List, [], ◌∷◌, length, sym, ◌∙◌, arith}
use Rattle.std.specs.List.{list_any, IsDistinct}
use Rattle.std.specs.Cmp.{nat_eq_equiv}
use Rattle.std.proofs.lemmas.Bool.{cases_Bool, or_cases, eqb-true, false≢true}
use Rattle.std.proofs.lemmas.Bool.Decides.{nat_tests}
use Rattle.std.proofs.lemmas.List.Folds.{list_any-append}
use Rattle.std.proofs.lemmas.Map.Keys.{IsDistinct-push}
use Rattle.std.proofs.lemmas.Map.Steps.{length-le_from_distinct_below}
use Rattle.o2_ondisk.specs.declared.extent_rec.ExtentRec.{ExtentRec}
use Rattle.o2_model.specs.Words.{push, Apart}
use Rattle.o2_model.specs.Volume.{Volume, blocks}
use Rattle.o2_model.specs.Extents.{Extents, LeafRule, may_follow, leaf_clusters, leaf_of, with_leaf, with_seen, end_of, is_sound_header, is_extent_block, is_sound_leaf, names_new_block, with_met, records_in_block, read_records, nothing_read, extent_list}
use Rattle.o2_model.specs.Extents.LeafRule.{ToClusters}
use Rattle.o2_model.specs.Inodes.{extents, has_list, most_flags, most_in_dinode}
use Rattle.o2_model.proofs.Readings.{met_seen}

pub apart_none : (n : ℕ) → 0 < n → Apart n []
unfolding IsDistinct
apart_none n some = record {
  distinct = (tt, tt);
  within = λ b h. ⊎_elim (λ same. omega (arith, eqb-true b 0 same)) (λ e. absurd (false≢true e)) (or_cases (eqb b 0) false h);
}

pub room_left : (n : ℕ) (bs : List ℕ) → Apart n bs → length bs + 1 ≤ n
room_left n bs h = omega (arith, length-le_from_distinct_below (0 ∷ bs) n h.distinct h.within)

pub new_apart : (v : Volume) (low : ℕ) (seen : List ℕ) (r : ExtentRec) → names_new_block v low seen r ≡ true → list_any (eqb r.blkno) (0 ∷ seen) ≡ false
unfolding names_new_block
new_apart v low seen r new = grind (arith, nat_tests)

pub new_below : (v : Volume) (low : ℕ) (seen : List ℕ) (r : ExtentRec) → names_new_block v low seen r ≡ true → r.blkno < blocks v
unfolding names_new_block
new_below v low seen r new = grind (arith, nat_tests)

pub apart_more : (n : ℕ) (bs : List ℕ) (b : ℕ) → b < n → list_any (eqb b) (0 ∷ bs) ≡ false → Apart n bs → Apart n (push bs b)
apart_more n bs b low new h = record {
  distinct = IsDistinct-push nat_eq_equiv (0 ∷ bs) b h.distinct new;
  within = λ a k.
      let parts : (list_any (eqb a) (0 ∷ bs) || (eqb a b || false)) ≡ true = sym (list_any-append (eqb a) (0 ∷ bs) (b ∷ [])) ∙ k in
      ⊎_elim (λ old. h.within a old)
      (λ last. ⊎_elim (λ same. omega (arith, eqb-true a b same)) (λ e. absurd (false≢true e)) (or_cases (eqb a b) false last))
      (or_cases _ _ parts);
}

pub apart_seen : (v : Volume) (low : ℕ) (t : Extents) (r : ExtentRec) → names_new_block v low t.seen r ≡ true → Apart (blocks v) t.seen → Apart (blocks v) (with_seen t r.blkno).seen
apart_seen v low t r new h = apart_more (blocks v) t.seen r.blkno (new_below v low t.seen r new) (new_apart v low t.seen r new) h

pub reading_apart : (v : Volume) (m : LeafRule) (depth holder low : ℕ) (rs : List ExtentRec) (t : Extents) → Apart (blocks v) t.seen → Apart (blocks v) (read_records v m depth holder low rs t).seen
reading_apart v m depth holder low [] t h = h
reading_apart v m zero holder low (r ∷ rs) t h =
    elim (cases_Bool (leaf_clusters r == 0)) [
      | inl empty ↦ rw empty (reading_apart v m zero holder low rs t h)
      | inr some ↦ elim (cases_Bool (may_follow v m t.leaves (leaf_of r))) [
        | inl sound ↦ rw (some, sound) (reading_apart v m zero holder low rs (with_leaf t (leaf_of r)) h)
        | inr bad ↦ rw (some, bad) h
      ]
    ]
reading_apart v m (suc depth) holder low (r ∷ rs) t h =
    elim (cases_Bool (names_new_block v low t.seen r)) [
      | inr old ↦ rw old h
      | inl new ↦
          let seen = apart_seen v low t r new h in
          elim (cases_Bool (is_extent_block v depth r.blkno)) [
            | inr bad ↦ rw (new, bad) seen
            | inl good ↦
                let b = r.blkno in
                let met = with_met v b (with_seen t b) in
                let first : Apart (blocks v) met.seen = rw (met_seen v b (with_seen t b)) seen in
                rw (new, good) (reading_apart v m (suc depth) holder (r.cpos + 1) rs _ (reading_apart v m depth b 0 (records_in_block v b) met first))
          ]
    ]

-- so the dinode and the blocks that are looked at are no more than the volume's
pub looks_at_few : (v : Volume) (b : ℕ) → 0 < blocks v → length (extents v b).seen + 1 ≤ blocks v
unfolding extents
looks_at_few v b some =
    let list = extent_list 0xc0 (v.at b) in
    elim (cases_Bool (has_list v b)) [
      | inr none ↦ rw none (room_left (blocks v) [] (apart_none (blocks v) some))
      | inl has ↦ elim (cases_Bool (is_sound_header (most_in_dinode v) list.header)) [
        | inr bad ↦ rw (has, bad) (room_left (blocks v) [] (apart_none (blocks v) some))
        | inl sound ↦ rw (has, sound) (room_left (blocks v) _ (reading_apart v (ToClusters (most_flags v b)) list.header.tree_depth b 0 list.records nothing_read (apart_none (blocks v) some)))
      ]
    ]
