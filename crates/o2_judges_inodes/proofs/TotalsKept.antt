-- Totals of allocators, of which the first in a block counts.
use Rattle.std.proofs.Common.{◌≡◌, inl, inr, ℕ, Bool, true, false, ◌==◌, List, [], ◌∷◌, find, Option, Some, None, if◌then◌else◌, refl, sym, ◌∙◌, ap}
use Rattle.std.specs.Option.{is_some, option_map, option_or}
use Rattle.std.proofs.lemmas.Bool.{cases_Bool, eqb-true, false≢true}
use Rattle.std.proofs.lemmas.List.Folds.{find-append}
use Rattle.o2_model.specs.declared.geo.Geo.{Geo}
use Rattle.o2_model.specs.Words.{push}
use Rattle.o2_tables.specs.declared.allocators.AllocatorRow.{AllocatorRow}
use Rattle.o2_judges_inodes.specs.ClusterRows.{row_total, kept_total, AreTotals}
use Rattle.o2_judges_inodes.specs.declared.allocator_totals.AllocatorTotals.{AllocatorTotals}
use Rattle.o2_judges_inodes.specs.declared.group_clusters.GroupClusters.{GroupClusters}

-- ---- one allocator more
abbrev is_at : ℕ → AllocatorRow → Bool
is_at b r = r.allocator.block == b

module _ (geo : Geo) (sums : GroupClusters) (rows : List AllocatorRow) (row : AllocatorRow) where
  -- the first of them and it
  pushed : (b : ℕ) → option_map (row_total geo sums) (find (is_at b) (push rows row)) ≡ option_map (row_total geo sums) (option_or (find (is_at b) rows) (find (is_at b) (row ∷ [])))
  pushed b = ap (option_map (row_total geo sums)) (find-append (is_at b) rows (row ∷ []))

  first_counts : (o other : Option AllocatorRow) → is_some (option_map (row_total geo sums) o) ≡ true → o ≡ option_or o other
  first_counts None other some = absurd (false≢true some)
  first_counts (Some r) other some = refl

  alone : (o other : Option AllocatorRow) → is_some (option_map (row_total geo sums) o) ≡ false → other ≡ option_or o other
  alone None other none = refl
  alone (Some r) other none = absurd (false≢true (sym none))

  without_other : (o : Option AllocatorRow) → o ≡ option_or o None
  without_other None = refl
  without_other (Some r) = refl

  not_here : (b : ℕ) → (row.allocator.block == b) ≡ false → find (is_at b) rows ≡ option_or (find (is_at b) rows) (find (is_at b) (row ∷ []))
  not_here b other = rw other (without_other (find (is_at b) rows))

  -- one in a block that has one does not count
  pub later_total : (totals : AllocatorTotals) → is_some (kept_total totals row.allocator.block) ≡ true → AreTotals geo sums rows totals → AreTotals geo sums (push rows row) totals
  later_total totals some are = record { each = each }
    where
      each : (b : ℕ) → kept_total totals b ≡ option_map (row_total geo sums) (find (is_at b) (push rows row))
      each b = are.each b ∙ (ap (option_map (row_total geo sums)) (elim (cases_Bool (row.allocator.block == b)) [
        | inr other ↦ not_here b other
        | inl here ↦
            let kept = ap (λ n. is_some (kept_total totals n)) (eqb-true row.allocator.block b here) in
            first_counts (find (is_at b) rows) (find (is_at b) (row ∷ [])) (ap is_some (sym (are.each b)) ∙ (sym kept ∙ some))
      ]) ∙ sym (pushed b))

  -- another does
  pub first_total : (old new : AllocatorTotals) (total : ℕ) → is_some (kept_total old row.allocator.block) ≡ false → total ≡ row_total geo sums row
      → ((b : ℕ) → kept_total new b ≡ (if row.allocator.block == b then Some total else kept_total old b))
      → AreTotals geo sums rows old → AreTotals geo sums (push rows row) new
  first_total old new total none is put are = record { each = each }
    where
      each : (b : ℕ) → kept_total new b ≡ option_map (row_total geo sums) (find (is_at b) (push rows row))
      each b = elim (cases_Bool (row.allocator.block == b)) [
        | inr other ↦
            let left : kept_total new b ≡ kept_total old b = put b ∙ rw other refl in
            left ∙ (are.each b ∙ (ap (option_map (row_total geo sums)) (not_here b other) ∙ sym (pushed b)))
        | inl here ↦
            let kept = ap (λ n. is_some (kept_total old n)) (eqb-true row.allocator.block b here) in
            let new_is : kept_total new b ≡ Some total = put b ∙ rw here refl in
            let one : Some row ≡ find (is_at b) (row ∷ []) = rw here refl in
            new_is
            ∙ (ap Some is
            ∙ (ap (option_map (row_total geo sums)) (one ∙ alone (find (is_at b) rows) (find (is_at b) (row ∷ [])) (ap is_some (sym (are.each b)) ∙ (sym kept ∙ none)))
            ∙ sym (pushed b)))
      ]
