-- The blocks that were looked at, one more at a time.
use Rattle.std.proofs.Common.{◌≡◌, ℕ, ◌+◌, ◌<◌, false, eqb, List, [], ◌∷◌, ◌++◌, map, length, refl, sym, ◌∙◌, ap, subst, arith}
use Rattle.std.specs.List.{list_any}
use Rattle.std.proofs.lemmas.Bool.Decides.{nat_tests}
use Rattle.std.proofs.lemmas.List.{map-append, length_push}
use Rattle.o2_model.specs.Words.{among, push, Apart}
use Rattle.o2_disk.specs.declared.disk.Disk as disk
use Rattle.o2_model.specs.declared.geo.Geo.{Geo}
use Rattle.o2_model.proofs.Looks.{apart_none, apart_more, room_left}
use Rattle.o2_view.specs.Counted.{CallsAtMost}
use Rattle.o2_view.specs.Geos.{LiesIn, blocks_of}
use Rattle.o2_view.specs.Views.{view_state, view_blocks, OnlyReads}
use Rattle.o2_view.specs.declared.view.View.{View}
use Rattle.o2_extent.specs.Readings.{LooksAtMost}
use Rattle.o2_view.specs.Plans.{is_in_run, is_in_runs}
use Rattle.o2_chain.specs.Readings.{HasLooked, looked_at}
use Rattle.o2_chain.specs.declared.walked.Walked.{Walked}

-- nothing was looked at yet
pub looked_none : (n : ℕ) (walked : Walked) → walked.seen ≡ [] → 0 < n → HasLooked n walked
looked_none n walked none some = record {
  single = none ∙ sym (ap (λ runs. map (λ b. (b, 1)) (map (λ (run : ℕ × ℕ). run.0) runs)) none);
  apart = subst (Apart n) (sym (ap (map (λ (run : ℕ × ℕ). run.0)) none)) (apart_none n some);
}

-- single blocks as runs have just these blocks
single_runs : (bs : List ℕ) (b : ℕ) → is_in_runs (map (λ c. (c, 1)) bs) b ≡ among bs b
single_runs [] b = refl
single_runs (c ∷ bs) b = rw (one_block, single_runs bs b) refl
  where
    one_block : is_in_run b (c, 1) ≡ eqb b c
    one_block = grind (arith, nat_tests)

module _ (n : ℕ) (walked new : Walked) (b : ℕ) (more : new.seen ≡ walked.seen ++ (b, 1) ∷ []) where
  looked_push : looked_at new ≡ push (looked_at walked) b
  looked_push = ap (map (λ (run : ℕ × ℕ). run.0)) more ∙ map-append (λ (run : ℕ × ℕ). run.0) walked.seen ((b, 1) ∷ [])

  pub looked_longer : length (looked_at new) ≡ length (looked_at walked) + 1
  looked_longer = ap length looked_push ∙ length_push (looked_at walked) b

  pub looked_more : is_in_runs walked.seen b ≡ false → 0 < b → b < n → HasLooked n walked → HasLooked n new
  looked_more unseen above below h = record {
    single = more ∙ (ap (λ runs. runs ++ (b, 1) ∷ []) h.single ∙ sym (ap (map (λ c. (c, 1))) looked_push ∙ map-append (λ c. (c, 1)) (looked_at walked) (b ∷ [])));
    apart = subst (Apart n) (sym looked_push) (apart_more n (looked_at walked) b below (unlooked b above (sym (single_runs (looked_at walked) b) ∙ (sym (ap (λ runs. is_in_runs runs b) h.single) ∙ unseen))) h.apart);
  }
    where
      unlooked : (b : ℕ) → 0 < b → among (looked_at walked) b ≡ false → list_any (eqb b) (0 ∷ looked_at walked) ≡ false
      unlooked b above unseen = grind (arith, nat_tests, above, unseen)

module _ {D : Type 0} {N : ℕ} {g : disk.Ghosts D} where
  -- a block is read, and then as many as are looked at
  pub calls_few : {old mid new : View D N g} (geo : Geo) (none all : Walked) → LiesIn geo old → OnlyReads old mid → CallsAtMost 1 (view_state old) (view_state mid) → none.seen ≡ [] → LooksAtMost (looked_at none) (looked_at all) mid new
      → HasLooked (blocks_of geo) all → CallsAtMost (view_blocks old) (view_state old) (view_state new)
  calls_few {old} {mid} {new} geo none all lies reads one nothing looks h I told =
      let start : length (looked_at none) ≡ 0 = ap (λ (runs : List (ℕ × ℕ)). length (map (λ (run : ℕ × ℕ). run.0) runs)) nothing in
      omega (arith, one I told, looks.calls I (reads.reads.content ∙ told), start, room_left (blocks_of geo) (looked_at all) h.apart, lies.within)

  -- as many are read as are looked at
  pub calls_looked : {old new : View D N g} (geo : Geo) (none all : Walked) → LiesIn geo old → none.seen ≡ [] → LooksAtMost (looked_at none) (looked_at all) old new → HasLooked (blocks_of geo) all
      → CallsAtMost (view_blocks old) (view_state old) (view_state new)
  calls_looked {old} {new} geo none all lies nothing looks h I told =
      let start : length (looked_at none) ≡ 0 = ap (λ (runs : List (ℕ × ℕ)). length (map (λ (run : ℕ × ℕ). run.0) runs)) nothing in
      omega (arith, looks.calls I told, start, room_left (blocks_of geo) (looked_at all) h.apart, lies.within)
