-- What a reading of blocks that is without a fault has gained.
use Rattle.std.proofs.Common.{◌≡◌, ◌≢◌, inl, inr, ℕ, suc, ◌+◌, ◌<◌, ◌≤◌, ◌&&◌, ◌||◌, ◌==◌, true, false, List, [], ◌∷◌, ◌++◌, length, refl, sym, ◌∙◌, ap, subst, arith}
use Rattle.std.specs.Prelude.{fold}
use Rattle.std.proofs.lemmas.Bool.{cases_Bool, false≢true}
use Rattle.std.proofs.lemmas.Bool.Decides.{nat_tests}
use Rattle.std.proofs.lemmas.List.{append-nil, append_assoc, length-append, map-append}
use Rattle.std.proofs.lemmas.List.Folds.{list_any-append}
use Rattle.o2_ondisk.specs.declared.refcount_rec.RefcountRec.{RefcountRec}
use Rattle.o2_model.specs.declared.placed_refcount.PlacedRefcount.{PlacedRefcount}
use Rattle.o2_model.specs.RefcountTrees.{Refcounts, refcount_end, refcount_records, is_refcount_block, is_sound_refcount_header, is_sound_refcount, read_refcounts, read_refcount_block}
use Rattle.o2_model.specs.Volume.{Volume}
use Rattle.o2_model.specs.Words.{push, among}
use Rattle.o2_refcount.specs.Readings.{with_record, with_blocks}
use Rattle.o2_refcount.specs.Recounts.{holders}
use Rattle.o2_refcount.proofs.Steps.{good_record, bad_record}

-- the records as they stand in block b
abbrev pub placed : ℕ → List RefcountRec → List PlacedRefcount
placed b [] = []
placed b (r ∷ rs) = record { block = b; fields = r } ∷ placed b rs

pub placed_many : (b : ℕ) (rs : List RefcountRec) → length (placed b rs) ≡ length rs
placed_many b [] = refl
placed_many b (r ∷ rs) = ap suc (placed_many b rs)

-- The reading u has these records of block b more than t, and no fault.
pub record Gains (b : ℕ) (rs : List RefcountRec) (t u : Refcounts) : Type 0 where
  pub before : t.faults ≡ []
  pub records : u.records ≡ t.records ++ placed b rs
  pub rises : refcount_end t.records ≤ refcount_end u.records
  pub first : (r : RefcountRec) (rest : List RefcountRec) → rs ≡ r ∷ rest → (refcount_end t.records ≤ r.cpos) × (r.cpos < refcount_end u.records)

-- ---- one record more
pushed_some : (ns : List ℕ) (n : ℕ) → push ns n ≢ []
pushed_some [] n same = cc
pushed_some (m ∷ ms) n same = cc

end_from : (a : ℕ) (ps : List PlacedRefcount) (p : PlacedRefcount) → fold (λ _ q. q.fields.cpos + q.fields.clusters) a (push ps p) ≡ p.fields.cpos + p.fields.clusters
end_from a [] p = refl
end_from a (q ∷ ps) p = end_from (q.fields.cpos + q.fields.clusters) ps p

sound_low : (v : Volume) (low : ℕ) (r : RefcountRec) → is_sound_refcount v low r ≡ true → low ≤ r.cpos
unfolding is_sound_refcount
sound_low v low r good = grind (arith, nat_tests)

sound_some : (v : Volume) (low : ℕ) (r : RefcountRec) → is_sound_refcount v low r ≡ true → 0 < r.clusters
unfolding is_sound_refcount
sound_some v low r good = grind (arith, nat_tests)

same_first : (r s : RefcountRec) (rs ss : List RefcountRec) → r ∷ rs ≡ s ∷ ss → r ≡ s
same_first r s rs ss same = cc

gained : (v : Volume) (b : ℕ) (rs : List RefcountRec) (t : Refcounts) → (read_refcounts v b rs t).faults ≡ [] → Gains b rs t (read_refcounts v b rs t)
gained v b [] t none = record {
  before = none;
  records = sym (append-nil t.records);
  rises = omega arith;
  first = λ r rest same. absurd (let e : [] ≡ r ∷ rest = same in cc);
}
gained v b (r ∷ rs) t none = elim (cases_Bool (is_sound_refcount v (refcount_end t.records) r)) [
  | inl good ↦
      let p : PlacedRefcount = record { block = b; fields = r } in
      let goes = good_record v b r rs t good in
      let rest = gained v b rs (with_record t b r) (sym (ap (λ (x : Refcounts). x.faults) goes) ∙ none) in
      let end : refcount_end (push t.records p) ≡ r.cpos + r.clusters = end_from 0 t.records p in
      let low = sound_low v (refcount_end t.records) r good in
      let some = sound_some v (refcount_end t.records) r good in
      subst (Gains b (r ∷ rs) t) (sym goes) (record {
        before = rest.before;
        records = rest.records ∙ append_assoc t.records (p ∷ []) (placed b rs);
        rises = omega (arith, rest.rises, end, low);
        first = λ s more same. let is = same_first r s rs more same in subst (λ (x : RefcountRec). (refcount_end t.records ≤ x.cpos) × (x.cpos < refcount_end (read_refcounts v b rs (with_record t b r)).records)) is (low, omega (arith, rest.rises, end, some));
      })
  | inr bad ↦ absurd (pushed_some t.faults b (sym (ap (λ (x : Refcounts). x.faults) (bad_record v b r rs t bad)) ∙ none))
]

-- ---- one block more
pub block_good : (v : Volume) (t : Refcounts) (b : ℕ) → (read_refcount_block v t b).faults ≡ [] → (is_refcount_block v b && is_sound_refcount_header v b) ≡ true
block_good v t b none = elim (cases_Bool (is_refcount_block v b && is_sound_refcount_header v b)) [
  | inl good ↦ good
  | inr bad ↦ absurd (pushed_some t.faults b (rw bad at none))
]

pub block_gained : (v : Volume) (t : Refcounts) (b : ℕ) → (read_refcount_block v t b).faults ≡ [] → Gains b (refcount_records v b) t (read_refcount_block v t b)
block_gained v t b none =
    let good = block_good v t b none in
    let is : read_refcount_block v t b ≡ read_refcounts v b (refcount_records v b) t = rw good refl in
    subst (Gains b (refcount_records v b) t) (sym is) (gained v b (refcount_records v b) t (sym (ap (λ (x : Refcounts). x.faults) is) ∙ none))

-- no fault so far, where there is none in the end
pub none_before : (v : Volume) (t : Refcounts) (bs : List ℕ) → (with_blocks v t bs).faults ≡ [] → t.faults ≡ []
none_before v t [] none = none
none_before v t (b ∷ bs) none = (block_gained v t b (none_before v (read_refcount_block v t b) bs none)).before

-- and no more records than in the end
pub few_before : (v : Volume) (t : Refcounts) (bs : List ℕ) → (with_blocks v t bs).faults ≡ [] → length t.records ≤ length (with_blocks v t bs).records
few_before v t [] none = omega arith
few_before v t (b ∷ bs) none =
    let next = read_refcount_block v t b in
    let gains = block_gained v t b (none_before v next bs none) in
    omega (arith, few_before v next bs none, ap (λ (ps : List PlacedRefcount). length ps) gains.records, length-append t.records (placed b (refcount_records v b)))

-- ---- the blocks that hold the records
-- each of them holds some of its own, and the first of these begins below the end
abbrev pub FirstBelow : Volume → List PlacedRefcount → Type 0
FirstBelow v ps = (b : ℕ) → among (holders ps) b ≡ true → (r : RefcountRec) × (rest : List RefcountRec) × (refcount_records v b ≡ r ∷ rest) × (r.cpos < refcount_end ps)

pub held_split : (ps qs : List PlacedRefcount) (c : ℕ) → among (holders (ps ++ qs)) c ≡ (among (holders ps) c || among (holders qs) c)
held_split ps qs c = ap (λ bs. among bs c) (map-append (λ (p : PlacedRefcount). p.block) ps qs) ∙ list_any-append (λ m. c == m) (holders ps) (holders qs)

-- a block that holds records of block b is this one, which has some
pub held_placed : (b c : ℕ) (rs : List RefcountRec) → among (holders (placed b rs)) c ≡ true → c ≡ b
held_placed b c [] held = absurd (false≢true held)
held_placed b c (r ∷ rs) held = elim (cases_Bool (c == b)) [
  | inl same ↦ grind (arith, nat_tests)
  | inr other ↦ held_placed b c rs (rw other at held)
]

some_placed : (b c : ℕ) (rs : List RefcountRec) → among (holders (placed b rs)) c ≡ true → (r : RefcountRec) × (rest : List RefcountRec) × (rs ≡ r ∷ rest)
some_placed b c [] held = absurd (false≢true held)
some_placed b c (r ∷ rs) held = (r, rs, refl)

-- a block that is read is none of those before
pub fresh : (v : Volume) (b : ℕ) (t u : Refcounts) → FirstBelow v t.records → Gains b (refcount_records v b) t u → among (holders t.records) b ≡ false
fresh v b t u below gains = elim (cases_Bool (among (holders t.records) b)) [
  | inl held ↦ let (r, rest, is, under) = below b held in absurd (omega (arith, under, (gains.first r rest is).0))
  | inr out ↦ out
]

pub first_more : (v : Volume) (b : ℕ) (t u : Refcounts) → FirstBelow v t.records → Gains b (refcount_records v b) t u → FirstBelow v u.records
first_more v b t u below gains c held = elim (cases_Bool (among (holders t.records) c)) [
  | inl before ↦ let (r, rest, is, under) = below c before in (r, rest, is, omega (arith, under, gains.rises))
  | inr out ↦
      let last : among (holders (placed b (refcount_records v b))) c ≡ true =
      sym (ap (λ t. t || among (holders (placed b (refcount_records v b))) c) out) ∙ (sym (held_split t.records (placed b (refcount_records v b)) c) ∙ (sym (ap (λ (ps : List PlacedRefcount). among (holders ps) c) gains.records) ∙ held)) in
      let (r, rest, is) = some_placed b c (refcount_records v b) last in
      let same = held_placed b c (refcount_records v b) last in
      (r, rest, ap (refcount_records v) same ∙ is, (gains.first r rest is).1)
]
