-- Rows tell of their inodes what the definitions ask.
use Rattle.std.proofs.Common.{◌≡◌, inl, inr, ℕ, Bool, ◌&&◌, not, List, [], ◌∷◌, map, filter, refl, ◌∙◌, ap}
use Rattle.std.specs.List.{AllByRecursion}
use Rattle.std.proofs.lemmas.Bool.{cases_Bool}
use Rattle.o2_model.specs.Faults.{fails_at}
use Rattle.o2_model.specs.Volume.{Volume}
use Rattle.o2_model.specs.Groups.{inodes_of}
use Rattle.o2_tables.specs.declared.inodes.InodeRow.{InodeRow}
use Rattle.o2_tables.specs.Rows.{IsInodeRow, IsInodeTable}

module _ (v : Volume) (holds : ℕ → Bool) where
  -- The rows that lack something are those of the inodes that do.
  pub rows_lack : (ok : InodeRow → Bool) (rows : List InodeRow) → IsInodeTable v rows → ((r : InodeRow) → IsInodeRow v r → ok r ≡ holds r.block)
      → fails_at (λ r. r.block) ok rows ≡ fails_at (λ b. b) holds (inodes_of v)
  rows_lack ok rows table same = go rows table.each ∙ ap (fails_at (λ b. b) holds) table.inodes
    where
      go : (rs : List InodeRow) → AllByRecursion (IsInodeRow v) rs → fails_at (λ r. r.block) ok rs ≡ fails_at (λ b. b) holds (map (λ r. r.block) rs)
      go [] all = refl
      go (r ∷ rs) all = elim (cases_Bool (holds r.block)) [
        | inl good ↦ rw (good, same r all.0 ∙ good) (go rs all.1)
        | inr bad ↦ rw (bad, same r all.0 ∙ bad) (ap (λ ns. r.block ∷ ns) (go rs all.1))
      ]

  -- The same of those rows that are asked.
  pub asked_lack : (asked : ℕ → Bool) (lacks : InodeRow → Bool) (rows : List InodeRow) → IsInodeTable v rows → ((r : InodeRow) → IsInodeRow v r → lacks r ≡ not (holds r.block))
      → map (λ r. r.block) (filter (λ r. asked r.block && lacks r) rows) ≡ fails_at (λ b. b) holds (filter asked (inodes_of v))
  asked_lack asked lacks rows table same = go rows table.each ∙ ap (λ bs. fails_at (λ b. b) holds (filter asked bs)) table.inodes
    where
      go : (rs : List InodeRow) → AllByRecursion (IsInodeRow v) rs
          → map (λ r. r.block) (filter (λ r. asked r.block && lacks r) rs) ≡ fails_at (λ b. b) holds (filter asked (map (λ r. r.block) rs))
      go [] all = refl
      go (r ∷ rs) all = elim (cases_Bool (asked r.block)) [
        | inr other ↦ rw other (go rs all.1)
        | inl is ↦ elim (cases_Bool (holds r.block)) [
          | inl good ↦ rw (is, good, same r all.0 ∙ ap not good) (go rs all.1)
          | inr bad ↦ rw (is, bad, same r all.0 ∙ ap not bad) (ap (λ ns. r.block ∷ ns) (go rs all.1))
        ]
      ]
