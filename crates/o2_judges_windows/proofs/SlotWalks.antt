-- Slots in their order, each judged behind the claims of those before it.
use Rattle.std.proofs.Common.{◌≡◌, ℕ, zero, suc, ◌+◌, ◌<◌, Bool, List, [], ◌∷◌, ◌++◌, map, fold, take, length, get_or, refl, sym, ◌∙◌, ap, subst, arith, Option, Some, None}
use Rattle.std.specs.Prelude.{flat_map}
use Rattle.std.specs.List.{range_with_len, AllByRecursion}
use Rattle.std.specs.Option.{option_map_or}
use Rattle.std.proofs.lemmas.List.{append_assoc, append-nil, map_more}
use Rattle.std.proofs.lemmas.List.Sums.{fold-append}
use Rattle.o2_model.specs.declared.claim.Claim.{Claim}
use Rattle.o2_model.specs.Faults.{fails_unless}

-- what a slot with the inode of its file adds to earlier claims, and whether it holds behind them
abbrev pub Step : Type 0
Step = List Claim → ℕ → ℕ → List Claim

abbrev pub Test : Type 0
Test = List Claim → ℕ → ℕ → Bool

module _ (step : Step) where
  -- the claims with those of these slots
  abbrev pub claims_after : List Claim → List (ℕ × ℕ) → List Claim
  claims_after earlier ps = fold (λ claims p. step claims p.0 p.1) earlier ps

  module _ (holds : Test) where
    -- the inodes of those that do not hold
    abbrev pub faults_after : List Claim → List (ℕ × ℕ) → List ℕ
    faults_after earlier [] = []
    faults_after earlier (p ∷ ps) = fails_unless p.1 (holds earlier p.0 p.1) ++ faults_after (step earlier p.0 p.1) ps

-- what holds of each row holds of this one
pub each_at : {A : Type 0} (P : A → Type 0) (rows : List A) (i : ℕ) (row : A) → AllByRecursion P rows → i < length rows → row ≡ get_or rows i row → P row
each_at {A = A} P rows i row all low at = subst P (sym at) (go rows i all low)
  where
    go : (rs : List A) (k : ℕ) → AllByRecursion P rs → k < length rs → P (get_or rs k row)
    go [] k each under = absurd (omega (arith, under))
    go (r ∷ rs) zero each under = each.0
    go (r ∷ rs) (suc k) each under = go rs k each.1 (omega (arith, under))

-- ---- one slot more
module _ (step : Step) (holds : Test) where
  pub claims_push : (earlier : List Claim) (ps : List (ℕ × ℕ)) (p : ℕ × ℕ) → claims_after step earlier (ps ++ p ∷ []) ≡ step (claims_after step earlier ps) p.0 p.1
  claims_push earlier ps p = fold-append (λ claims q. step claims q.0 q.1) earlier ps (p ∷ [])

  pub faults_push : (earlier : List Claim) (ps : List (ℕ × ℕ)) (p : ℕ × ℕ)
      → faults_after step holds earlier (ps ++ p ∷ []) ≡ faults_after step holds earlier ps ++ fails_unless p.1 (holds (claims_after step earlier ps) p.0 p.1)
  faults_push earlier [] p = append-nil (fails_unless p.1 (holds earlier p.0 p.1))
  faults_push earlier (q ∷ ps) p =
      ap (λ xs. fails_unless q.1 (holds earlier q.0 q.1) ++ xs) (faults_push (step earlier q.0 q.1) ps p)
      ∙ sym (append_assoc (fails_unless q.1 (holds earlier q.0 q.1)) (faults_after step holds (step earlier q.0 q.1) ps) (fails_unless p.1 (holds (claims_after step (step earlier q.0 q.1) ps) p.0 p.1)))

  -- ---- row by row, where each is of a slot and an inode
  module _ {A : Type 0} (of : A → ℕ × ℕ) (rows : List A) (i : ℕ) (row : A) (low : i < length rows) (at : row ≡ get_or rows i row) where
    next_row : map of (take (i + 1) rows) ≡ map of (take i rows) ++ of row ∷ []
    next_row = map_more of rows i row low ∙ ap (λ r. map of (take i rows) ++ of r ∷ []) (sym at)

    pub claims_more : (earlier : List Claim) → step (claims_after step earlier (map of (take i rows))) (of row).0 (of row).1 ≡ claims_after step earlier (map of (take (i + 1) rows))
    claims_more earlier = sym (ap (claims_after step earlier) next_row ∙ claims_push earlier (map of (take i rows)) (of row))

    pub faults_more : (earlier : List Claim) → faults_after step holds earlier (map of (take i rows)) ++ fails_unless (of row).1 (holds (claims_after step earlier (map of (take i rows))) (of row).0 (of row).1)
        ≡ faults_after step holds earlier (map of (take (i + 1) rows))
    faults_more earlier = sym (ap (faults_after step holds earlier) next_row ∙ faults_push earlier (map of (take i rows)) (of row))

  -- ---- slot by slot, where these have an inode
  module _ (inode : ℕ → Option ℕ) where
    abbrev with_inode : ℕ → List (ℕ × ℕ)
    with_inode slot = option_map_or (λ b. (slot, b) ∷ []) (inode slot) []

    abbrev step_of : List Claim → ℕ → List Claim
    step_of earlier slot = option_map_or (step earlier slot) (inode slot) earlier

    abbrev faults_of : List Claim → ℕ → List ℕ
    faults_of earlier slot = option_map_or (λ b. fails_unless b (holds earlier slot b)) (inode slot) []

    pub claims_walked : (earlier : List Claim) (ns : List ℕ) → claims_after step earlier (flat_map with_inode ns) ≡ fold step_of earlier ns
    claims_walked earlier [] = refl
    claims_walked earlier (n ∷ ns) = by (inode n) (λ claims. claims_walked claims ns)
      where
        by : (o : Option ℕ) → ((claims : List Claim) → claims_after step claims (flat_map with_inode ns) ≡ fold step_of claims ns)
            → claims_after step earlier (option_map_or (λ b. (n, b) ∷ []) o [] ++ flat_map with_inode ns) ≡ fold step_of (option_map_or (step earlier n) o earlier) ns
        by None rest = rest earlier
        by (Some b) rest = rest (step earlier n b)

    -- where these are the claims up to each slot
    pub faults_walked : (upto : ℕ → List Claim) → ((k : ℕ) → upto (k + 1) ≡ step_of (upto k) k) → (a n : ℕ)
        → faults_after step holds (upto a) (flat_map with_inode (range_with_len a n)) ≡ flat_map (λ slot. faults_of (upto slot) slot) (range_with_len a n)
    faults_walked upto next a zero = refl
    faults_walked upto next a (suc n) = by (inode a) (next a) (faults_walked upto next (a + 1) n)
      where
        left : List (ℕ × ℕ)
        left = flat_map with_inode (range_with_len (a + 1) n)

        found : List ℕ
        found = flat_map (λ slot. faults_of (upto slot) slot) (range_with_len (a + 1) n)

        by : (o : Option ℕ) → upto (a + 1) ≡ option_map_or (step (upto a) a) o (upto a) → faults_after step holds (upto (a + 1)) left ≡ found
            → faults_after step holds (upto a) (option_map_or (λ b. (a, b) ∷ []) o [] ++ left) ≡ option_map_or (λ b. fails_unless b (holds (upto a) a b)) o [] ++ found
        by None is rest = ap (λ claims. faults_after step holds claims left) (sym is) ∙ rest
        by (Some b) is rest = ap (λ xs. fails_unless b (holds (upto a) a b) ++ xs) (ap (λ claims. faults_after step holds claims left) (sym is) ∙ rest)
