-- The records of a tree that get new counts, those of one block more.
use Rattle.std.proofs.Common.{◌≡◌, ℕ, ◌+◌, ◌<◌, ◌≤◌, Bool, ◌&&◌, ◌||◌, ◌==◌, true, false, List, [], ◌∷◌, ◌++◌, map, take, drop, length, get_or, inl, inr, refl, sym, ◌∙◌, ap, subst, arith}
use Rattle.std.specs.List.{zip}
use Rattle.std.proofs.lemmas.Bool.{cases_Bool, false≢true}
use Rattle.std.proofs.lemmas.Bool.Decides.{nat_tests}
use Rattle.std.proofs.lemmas.List.{length-take-le, length-drop, append-nil}
use Rattle.o2_ondisk.specs.declared.refcount_rec.RefcountRec.{RefcountRec}
use Rattle.o2_model.specs.declared.placed_refcount.PlacedRefcount.{PlacedRefcount}
use Rattle.o2_model.specs.RefcountTrees.{refcount_header, refcount_records, is_refcount_block, is_sound_refcount_header}
use Rattle.o2_model.specs.Volume.{Volume, over}
use Rattle.o2_model.specs.Words.{among}
use Rattle.o2_view.specs.Views.{with_block}
use Rattle.o2_refcount.specs.Recounts.{HasCounts, IsRecounted, IsRecountedBlock, recounted, holders}
use Rattle.o2_refcount.proofs.CountedBytes.{records_counted, records_kept}
use Rattle.o2_refcount.proofs.Grown.{placed, held_split}
use Rattle.o2_refcount.proofs.Pairs.{of_last, pairs_of_last, of_other, pairs_of_other, placed_say, placed_counted, first_out, rest_out, none_placed}

-- ---- blocks
block_here : (b : ℕ) (bytes : List ℕ) (at : ℕ → List ℕ) → with_block b bytes at b ≡ bytes
block_here b bytes at = let test : (b == b) ≡ true = grind (arith, nat_tests) in rw test refl

block_other : (b c : ℕ) (bytes : List ℕ) (at : ℕ → List ℕ) → (c == b) ≡ false → with_block b bytes at c ≡ at c
block_other b c bytes at apart = let test : (b == c) ≡ false = grind (arith, nat_tests) in rw test refl

are_same : (b c : ℕ) → (c == b) ≡ true → c ≡ b
are_same b c test = grind (arith, nat_tests)

or_false : (x : Bool) → (x || false) ≡ x
or_false true = refl
or_false false = refl

some_placed : (b : ℕ) (rs : List RefcountRec) → 0 < length rs → among (holders (placed b rs)) b ≡ true
some_placed b [] some = absurd (omega (arith, some))
some_placed b (r ∷ rs) some = let test : (b == b) ≡ true = grind (arith, nat_tests) in rw test refl

-- a block of none of the records is none of those before
pub out_before : (ps : List PlacedRefcount) (b c : ℕ) (rs : List RefcountRec) → among (holders (ps ++ placed b rs)) c ≡ false → among (holders ps) c ≡ false
out_before ps b c rs out = first_out _ _ (sym (held_split ps (placed b rs) c) ∙ out)

-- nor the last one
pub out_last : (ps : List PlacedRefcount) (b c : ℕ) (rs : List RefcountRec) → 0 < length rs → among (holders (ps ++ placed b rs)) c ≡ false → among (b ∷ []) c ≡ false
out_last ps b c rs some out = elim (cases_Bool (c == b)) [
  | inl same ↦ absurd (false≢true (sym (rest_out _ _ (sym (held_split ps (placed b rs) c) ∙ out)) ∙ (ap (λ x. among (holders (placed b rs)) x) (are_same b c same) ∙ some_placed b rs some)))
  | inr other ↦ rw other refl
]

-- ---- one block more
-- a block that has records, none of which had got a count
recounted_here : (v w : Volume) (ps : List PlacedRefcount) (to : List ℕ) (b : ℕ) (rs : List RefcountRec) (bytes : List ℕ) → IsRecounted v w ps to → rs ≡ refcount_records v b
    → among (holders ps) b ≡ false → length ps + length rs ≤ length to → length rs ≡ (refcount_header v b).used → (is_refcount_block v b && is_sound_refcount_header v b) ≡ true
    → HasCounts (w.at b) bytes (take (length rs) (drop (length ps) to)) → IsRecountedBlock v (over w (with_block b bytes w.at)) b (ps ++ placed b rs) to
recounted_here v w ps to b rs bytes so_far is out enough used good has =
    let new : Volume = over w (with_block b bytes w.at) in
    let counts = take (length rs) (drop (length ps) to) in
    let now : new.at b ≡ bytes = block_here b bytes w.at in
    let was : w.at b ≡ v.at b = so_far.others b out in
    let changed : HasCounts (v.at b) (new.at b) counts = subst (λ (x : List ℕ). HasCounts x (new.at b) counts) was (subst (λ (x : List ℕ). HasCounts (w.at b) x counts) (sym now) has) in
    let long : length counts ≡ length rs = length-take-le (length rs) (drop (length ps) to) (omega (arith, length-drop (length ps) to, enough)) in
    let many : length rs ≡ length (refcount_records v b) = ap (λ (xs : List RefcountRec). length xs) is in
    record {
      held = sym is ∙ (sym (placed_say b rs) ∙ ap (λ (xs : List PlacedRefcount). map (λ p. p.fields) xs) (sym (of_last b ps rs out)));
      records = records_counted v new b counts so_far.numbers changed (long ∙ used) good
          ∙ (ap (λ (xs : List RefcountRec). map (λ p. recounted p.0 p.1) (zip xs counts)) (sym is)
          ∙ (sym (placed_counted b rs counts) ∙ ap (λ (xs : List (PlacedRefcount × ℕ)). map (λ p. recounted p.0.fields p.1) xs) (sym (pairs_of_last b ps rs to (omega (arith, enough)) out))));
      others = λ i free. ap (λ (bs : List ℕ). get_or bs i 0) now ∙ (has.others i (λ k low. free k (omega (arith, low, long, many))) ∙ ap (λ (bs : List ℕ). get_or bs i 0) was);
      size = ap (λ (bs : List ℕ). length bs) now ∙ (has.size ∙ ap (λ (bs : List ℕ). length bs) was);
    }

-- another block
recounted_other : (v w : Volume) (ps : List PlacedRefcount) (to : List ℕ) (b : ℕ) (rs : List RefcountRec) (bytes : List ℕ) → IsRecounted v w ps to → length ps ≤ length to
    → (c : ℕ) → (c == b) ≡ false → among (holders (ps ++ placed b rs)) c ≡ true → IsRecountedBlock v (over w (with_block b bytes w.at)) c (ps ++ placed b rs) to
recounted_other v w ps to b rs bytes so_far few c apart held =
    let new : Volume = over w (with_block b bytes w.at) in
    let same : new.at c ≡ w.at c = block_other b c bytes w.at apart in
    let before : among (holders ps) c ≡ true =
    sym (or_false (among (holders ps) c)) ∙ (sym (ap (λ x. among (holders ps) c || x) (none_placed b c rs apart)) ∙ (sym (held_split ps (placed b rs) c) ∙ held)) in
    let was = so_far.block c before in
    record {
      held = was.held ∙ ap (λ (xs : List PlacedRefcount). map (λ p. p.fields) xs) (sym (of_other b c ps rs apart));
      records = records_kept w new c refl same ∙ (was.records ∙ ap (λ (xs : List (PlacedRefcount × ℕ)). map (λ p. recounted p.0.fields p.1) xs) (sym (pairs_of_other b c ps rs to few apart)));
      others = λ i free. ap (λ (bs : List ℕ). get_or bs i 0) same ∙ was.others i free;
      size = ap (λ (bs : List ℕ). length bs) same ∙ was.size;
    }

pub recounted_more : (v w : Volume) (ps : List PlacedRefcount) (to : List ℕ) (b : ℕ) (rs : List RefcountRec) (bytes : List ℕ) → IsRecounted v w ps to → rs ≡ refcount_records v b
    → among (holders ps) b ≡ false → 0 < length rs → length ps + length rs ≤ length to → length rs ≡ (refcount_header v b).used → (is_refcount_block v b && is_sound_refcount_header v b) ≡ true
    → HasCounts (w.at b) bytes (take (length rs) (drop (length ps) to)) → IsRecounted v (over w (with_block b bytes w.at)) (ps ++ placed b rs) to
recounted_more v w ps to b rs bytes so_far is out some enough used good has = record {
  numbers = so_far.numbers;
  device = so_far.device;
  block = λ c held. elim (cases_Bool (c == b)) [
    | inl same ↦ subst (λ (x : ℕ). IsRecountedBlock v (over w (with_block b bytes w.at)) x (ps ++ placed b rs) to) (sym (are_same b c same))
        (recounted_here v w ps to b rs bytes so_far is out enough used good has)
    | inr apart ↦ recounted_other v w ps to b rs bytes so_far (omega (arith, enough)) c apart held
  ];
  others = λ c free. block_other b c bytes w.at (first_out _ _ (out_last ps b c rs some free)) ∙ so_far.others c (out_before ps b c rs free);
}

-- a block without records
pub none_more : (ps : List PlacedRefcount) (b : ℕ) (rs : List RefcountRec) → length rs ≡ 0 → ps ++ placed b rs ≡ ps
none_more ps b [] none = append-nil ps
none_more ps b (r ∷ rs) none = absurd (omega (arith, none))
