-- Rows of windows tell where LOCAL_ALLOC fails, and what is claimed.
use Rattle.std.proofs.Common.{◌≡◌, inl, inr, ℕ, ◌+◌, ◌*◌, ◌<◌, ◌≤◌, Bool, true, false, ◌&&◌, ◌||◌, not, ◌==◌, nat_lt, List, [], ◌∷◌, ◌++◌, count_by, refl, sym, ◌∙◌, ap, subst, arith}
use Rattle.std.specs.Prelude.{nat_le}
use Rattle.std.specs.List.{range_with_len, list_any, AllByRecursion}
use Rattle.std.proofs.lemmas.Bool.{cases_Bool, eqb-true}
use Rattle.std.proofs.lemmas.Bool.Decides.{nat_tests}
use Rattle.o2_model.specs.declared.check.Check.TheVariants as check
use Rattle.o2_model.specs.declared.claim.Claim.{Claim}
use Rattle.o2_model.specs.declared.claim.Owner.TheVariants as owner
use Rattle.o2_model.specs.declared.system_file.SlotFile.TheVariants.{LocalAlloc}
use Rattle.o2_model.specs.declared.system_file.SystemFile.TheVariants.{OfSlot}
use Rattle.o2_model.specs.Words.{among}
use Rattle.o2_model.specs.Volume.{Volume}
use Rattle.o2_model.specs.SystemFiles.{system_inode}
use Rattle.o2_model.specs.Windows.{window, window_total, window_used, window_clusters, is_window_bit_set, is_sound_window, is_sound_window_size}
use Rattle.o2_model.specs.Claims.{claimed_clusters, claims_by, with_window, with_window_of, claims_with_indexes, claims_with_windows}
use Rattle.o2_model.specs.Failing.{faults}
use Rattle.o2_claims.specs.Owners.{clusters_of, has_owner, AreOwners}
use Rattle.o2_claims.specs.declared.claims.Claims.{Claims}
use Rattle.o2_windows.specs.SlotRows.{IsWindowRow, inodes_of_slots}
use Rattle.o2_windows.specs.declared.window_rows.WindowRow.{WindowRow}
use Rattle.o2_judges_windows.proofs.Claimed.{owned_is}
use Rattle.o2_judges_windows.proofs.Ranges.{fold_push, moved_below}
use Rattle.o2_judges_windows.proofs.SlotWalks.{claims_after, faults_after, claims_walked, faults_walked}

none_claimed : (ns : List ℕ) → list_any (among []) ns ≡ false
none_claimed [] = refl
none_claimed (n ∷ ns) = none_claimed ns

-- ---- one window
module _ (v : Volume) (b : ℕ) where
  none_there : (window_total v b == 0) ≡ true → window_clusters v b ≡ []
  unfolding window_clusters
  none_there is = rw (eqb-true (window_total v b) 0 is) refl

  -- it holds alone, and none of its clusters is claimed
  pub sound_behind : (claimed : List ℕ) → is_sound_window v claimed b ≡ (is_sound_window v [] b && not (list_any (among claimed) (window_clusters v b)))
  unfolding is_sound_window
  sound_behind claimed =
      rw (none_claimed (window_clusters v b))
      (by (is_sound_window_size v b) (window_total v b == 0) (nat_le (window_total v b) (8 * (window v b).size))
      (nat_lt 0 (window v b).bm_off && nat_le ((window v b).bm_off + window_total v b) v.geo.clusters)
      (window_used v b == count_by (is_window_bit_set v b) (range_with_len 0 (window_total v b)))
      (list_any (among claimed) (window_clusters v b))
      (λ is. ap (list_any (among claimed)) (none_there is)))
    where
      by : (size empty room clusters count any : Bool) → (empty ≡ true → any ≡ false)
          → (size && (empty || (room && clusters && count && not any))) ≡ ((size && (empty || (room && clusters && count && true))) && not any)
      by false empty room clusters count any none = refl
      by true true room clusters count any none = ap not (sym (none refl))
      by true false false clusters count any none = refl
      by true false true false count any none = refl
      by true false true true false any none = refl
      by true false true true true any none = refl

  clusters_below : is_sound_window v [] b ≡ true → AllByRecursion (λ c. c < v.geo.clusters) (window_clusters v b)
  unfolding is_sound_window window_clusters
  clusters_below sound = elim (cases_Bool (window_total v b == 0)) [
    | inl empty ↦ subst (AllByRecursion (λ c. c < v.geo.clusters)) (sym (none_there empty)) tt
    | inr some ↦
        let end : 0 + window_total v b + (window v b).bm_off ≤ v.geo.clusters =
        within (is_sound_window_size v b) (nat_le (window_total v b) (8 * (window v b).size)) (window_used v b == count_by (is_window_bit_set v b) (range_with_len 0 (window_total v b))) (not (list_any (among []) (window_clusters v b)))
        (window_total v b) (window v b).bm_off v.geo.clusters some sound
        in
        moved_below v.geo.clusters (window v b).bm_off (λ k. not (is_window_bit_set v b k)) 0 (window_total v b) (omega (arith, end))
  ]
    where
      within : (size room count free : Bool) (total first clusters : ℕ) → (total == 0) ≡ false → (size && (total == 0 || (room && (nat_lt 0 first && nat_le (first + total) clusters) && count && free))) ≡ true → 0 + total + first ≤ clusters
      within size room count free total first clusters some sound = grind (arith, nat_tests)

module _ (v : Volume) (claims : Claims) (earlier : List Claim) (row : WindowRow) (all : clusters_of claims ≡ v.geo.clusters) (is : IsWindowRow v row) (are : AreOwners earlier claims) where
  pub window_judged : (row.is_sound_alone && not (list_any (has_owner claims) row.clusters)) ≡ is_sound_window v (claimed_clusters earlier) row.inode
  window_judged = elim (cases_Bool row.is_sound_alone) [
    | inl alone ↦
        let sound : is_sound_window v [] row.inode ≡ true = sym is.alone ∙ alone in
        let below = subst (λ n. AllByRecursion (λ c. c < n) (window_clusters v row.inode)) (sym all) (clusters_below v row.inode sound) in
        ap (λ t. t && not (list_any (has_owner claims) row.clusters)) alone
        ∙ (ap (λ cs. not (list_any (has_owner claims) cs)) (is.clusters alone)
        ∙ (ap not (owned_is earlier claims are (window_clusters v row.inode) below)
        ∙ sym (sound_behind v row.inode (claimed_clusters earlier) ∙ ap (λ t. t && not (list_any (among (claimed_clusters earlier)) (window_clusters v row.inode))) sound)))
    | inr other ↦
        ap (λ t. t && not (list_any (has_owner claims) row.clusters)) other
        ∙ sym (sound_behind v row.inode (claimed_clusters earlier) ∙ ap (λ t. t && not (list_any (among (claimed_clusters earlier)) (window_clusters v row.inode))) (sym is.alone ∙ other))
  ]

  -- what it claims, where it holds
  pub window_claims : is_sound_window v (claimed_clusters earlier) row.inode ≡ true → earlier ++ claims_by (owner.LocalAlloc row.slot) row.clusters ≡ with_window_of v earlier row.slot row.inode
  window_claims sound =
      let alone : row.is_sound_alone ≡ true = first row.is_sound_alone (not (list_any (has_owner claims) row.clusters)) (window_judged ∙ sound) in
      rw sound (ap (λ cs. earlier ++ claims_by (owner.LocalAlloc row.slot) cs) (is.clusters alone))
    where
      first : (x y : Bool) → (x && y) ≡ true → x ≡ true
      first true y h = refl
      first false y h = cc

-- ---- all windows
abbrev pub holds_window : Volume → List Claim → ℕ → ℕ → Bool
holds_window v earlier slot b = is_sound_window v (claimed_clusters earlier) b

module _ (v : Volume) where
  pub windows_claimed : claims_after (with_window_of v) (claims_with_indexes v) (inodes_of_slots v LocalAlloc) ≡ claims_with_windows v v.geo.slots
  unfolding claims_with_windows inodes_of_slots
  windows_claimed = claims_walked (with_window_of v) (holds_window v) (λ slot. system_inode v (OfSlot LocalAlloc slot)) (claims_with_indexes v) (range_with_len 0 v.geo.slots)

  pub windows_failing : faults_after (with_window_of v) (holds_window v) (claims_with_indexes v) (inodes_of_slots v LocalAlloc) ≡ faults v check.LocalAlloc
  unfolding faults claims_with_windows inodes_of_slots
  windows_failing =
      faults_walked (with_window_of v) (holds_window v) (λ slot. system_inode v (OfSlot LocalAlloc slot)) (claims_with_windows v)
      (fold_push (with_window v) (claims_with_indexes v)) 0 v.geo.slots
