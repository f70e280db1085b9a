-- Claims behind those of structures and inodes are of clusters that nothing claims before them, each once.
use Rattle.std.proofs.Common.{◌≡◌, ◌⊎◌, inl, inr, ℕ, zero, suc, ◌+◌, ◌≤◌, ◌<◌, Bool, true, false, cond, ◌&&◌, ◌||◌, ◌==◌, nat_lt, List, [], ◌∷◌, ◌++◌, length, map, filter, Option, Some, None, refl, sym, ◌∙◌, ap, subst, arith}
use Rattle.std.specs.Prelude.{fold, count_by, not}
use Rattle.std.specs.Option.{option_to_list, option_map_or}
use Rattle.std.specs.List.{range_with_len, list_any, list_all}
use Rattle.std.proofs.lemmas.Bool.{cases_Bool, eqb-true, false≢true}
use Rattle.std.proofs.lemmas.Bool.Decides.{nat_tests}
use Rattle.std.proofs.lemmas.List.Sums.{sum_by-cons}
use Rattle.o2_ondisk.specs.declared.truncate_rec.TruncateRec.{TruncateRec}
use Rattle.o2_model.specs.declared.claim.Claim.{Claim}
use Rattle.o2_model.specs.declared.claim.Owner.{Owner}
use Rattle.o2_model.specs.declared.claim.Owner.TheVariants.{Index, LocalAlloc, TruncateLog}
use Rattle.o2_model.specs.declared.system_file.SlotFile.TheVariants as slot_file
use Rattle.o2_model.specs.declared.system_file.SystemFile.TheVariants.{OfSlot}
use Rattle.o2_model.specs.Words.{among}
use Rattle.o2_model.specs.Files.{times_in}
use Rattle.o2_model.specs.Volume.{Volume}
use Rattle.o2_model.specs.SystemFiles.{system_inode}
use Rattle.o2_model.specs.Claims.{claimed_clusters, structure_claims, inode_claims, with_index, claims_with_indexes, with_window_of, with_window, claims_with_windows, with_truncation, with_truncate_log, claims_with_truncations, claims_of, owner_in}
use Rattle.o2_model.specs.Indexes.{indexed_directories, index_clusters}
use Rattle.o2_model.specs.SoundIndexes.{is_sound_index}
use Rattle.o2_model.specs.Windows.{window, window_total, is_window_bit_set, window_clusters, is_sound_window, is_sound_window_size}
use Rattle.o2_model.specs.TruncateLogs.{truncate_records, truncated_clusters, is_sound_truncation}
use Rattle.o2_check.specs.OwnersAt.{owners_in}
use Rattle.o2_check.proofs.OwnersAt.{Adds, adds_both, adds_fold, adds_by, one_is_first}

-- ---- how often a cluster stands in a run
times_more : (d : ℕ) (ds : List ℕ) (c : ℕ) → times_in (d ∷ ds) c ≡ cond (d == c) 1 0 + times_in ds c
times_more d ds c = sum_by-cons (λ x. cond (x == c) 1 0) d ds

times_of_other : (d : ℕ) (ds : List ℕ) (c : ℕ) → (d == c) ≡ false → times_in (d ∷ ds) c ≡ times_in ds c
times_of_other d ds c other = let more : times_in (d ∷ ds) c ≡ 0 + times_in ds c = times_more d ds c ∙ ap (λ t. cond t 1 0 + times_in ds c) other in omega (arith, more)

times_of_same : (d : ℕ) (ds : List ℕ) (c : ℕ) → (d == c) ≡ true → times_in (d ∷ ds) c ≡ 1 + times_in ds c
times_of_same d ds c same = times_more d ds c ∙ ap (λ t. cond t 1 0 + times_in ds c) same

once_more : (d : ℕ) (ds : List ℕ) (c : ℕ) → ((d == c) ≡ true → times_in ds c ≡ 0) → times_in ds c ≤ 1 → times_in (d ∷ ds) c ≤ 1
once_more d ds c none once = elim (cases_Bool (d == c)) [
  | inl same ↦ let more = times_of_same d ds c same in let zero_rest = none same in omega (arith, more, zero_rest)
  | inr other ↦ let more = times_of_other d ds c other in omega (arith, more, once)
]

above : (d c : ℕ) → c < d → (d == c) ≡ false
above d c below = grind (arith, nat_tests, below)

-- the numbers of a range that pass, counted from `low` on
abbrev some_of : ℕ → (ℕ → Bool) → ℕ → ℕ → List ℕ
some_of low passes a n = map (λ k. low + k) (filter passes (range_with_len a n))

none_below : (low : ℕ) (passes : ℕ → Bool) (a n c : ℕ) → c < low + a → times_in (some_of low passes a n) c ≡ 0
none_below low passes a zero c below = refl
none_below low passes a (suc n) c below = elim (cases_Bool (passes a)) [
  | inl is ↦ rw is (times_of_other (low + a) (some_of low passes (a + 1) n) c (above (low + a) c below) ∙ none_below low passes (a + 1) n c (omega (arith, below)))
  | inr not_so ↦ rw not_so (none_below low passes (a + 1) n c (omega (arith, below)))
]

once_of : (low : ℕ) (passes : ℕ → Bool) (a n c : ℕ) → times_in (some_of low passes a n) c ≤ 1
once_of low passes a zero c = omega arith
once_of low passes a (suc n) c = elim (cases_Bool (passes a)) [
  | inl is ↦ rw is (once_more (low + a) (some_of low passes (a + 1) n) c (λ same. none_below low passes (a + 1) n c (let e = eqb-true (low + a) c same in omega (arith, e))) (once_of low passes (a + 1) n c))
  | inr not_so ↦ rw not_so (once_of low passes (a + 1) n c)
]

-- the same of all of them
in_run_below : (a n c : ℕ) → c < a → times_in (range_with_len a n) c ≡ 0
in_run_below a zero c below = refl
in_run_below a (suc n) c below = times_of_other a (range_with_len (a + 1) n) c (above a c below) ∙ in_run_below (a + 1) n c (omega (arith, below))

once_in_run : (a n c : ℕ) → times_in (range_with_len a n) c ≤ 1
once_in_run a zero c = omega arith
once_in_run a (suc n) c = once_more a (range_with_len (a + 1) n) c (λ same. in_run_below (a + 1) n c (let e = eqb-true a c same in omega (arith, e))) (once_in_run (a + 1) n c)

-- ---- tests over a list
first_holds : (a b : Bool) → (a && b) ≡ true → a ≡ true
first_holds true b is = refl
first_holds false b is = is

rest_holds : (a b : Bool) → (a && b) ≡ true → b ≡ true
rest_holds true b is = is
rest_holds false b is = absurd (false≢true is)

other_holds : (a b : Bool) → (a || b) ≡ true → a ≡ false → b ≡ true
other_holds true b is other = absurd (false≢true (sym other))
other_holds false b is other = is

all_at : (p : ℕ → Bool) (ns : List ℕ) (c : ℕ) → list_all p ns ≡ true → among ns c ≡ true → p c ≡ true
all_at p [] c all stands = absurd (false≢true stands)
all_at p (n ∷ ns) c all stands = elim (cases_Bool (c == n)) [
  | inl same ↦ subst (λ k. p k ≡ true) (sym (eqb-true c n same)) (first_holds (p n) (list_all p ns) all)
  | inr other ↦ all_at p ns c (rest_holds (p n) (list_all p ns) all) (rw other at stands)
]

none_at : (p : ℕ → Bool) (ns : List ℕ) (c : ℕ) → list_any p ns ≡ false → among ns c ≡ true → p c ≡ false
none_at p [] c none stands = absurd (false≢true stands)
none_at p (n ∷ ns) c none stands = elim (cases_Bool (p n)) [
  | inl is ↦ absurd (false≢true (sym none ∙ ap (λ t. t || list_any p ns) is))
  | inr not_so ↦ elim (cases_Bool (c == n)) [
    | inl same ↦ subst (λ k. p k ≡ false) (sym (eqb-true c n same)) not_so
    | inr other ↦ none_at p ns c (rw not_so at none) (rw other at stands)
  ]
]

-- a number that does not come
never : (ns : List ℕ) (c : ℕ) → among ns c ≡ false → times_in ns c ≡ 0
never [] c lacks = refl
never (n ∷ ns) c lacks = elim (cases_Bool (c == n)) [
  | inl same ↦ absurd (false≢true (sym lacks ∙ ap (λ t. t || among ns c) same))
  | inr other ↦ times_of_other n ns c (turned c n other) ∙ never ns c (rw other at lacks)
]
  where
    turned : (a b : ℕ) → (a == b) ≡ false → (b == a) ≡ false
    turned a b p = grind (arith, nat_tests)

comes : (ns : List ℕ) (c : ℕ) → times_in ns c ≡ 0 → among ns c ≡ false
comes [] c none = refl
comes (n ∷ ns) c none = elim (cases_Bool (n == c)) [
  | inl same ↦ absurd (let more = times_of_same n ns c same in omega (arith, none, more))
  | inr other ↦ rw (turned n c other) (comes ns c (sym (times_of_other n ns c other) ∙ none))
]
  where
    turned : (a b : ℕ) → (a == b) ≡ false → (b == a) ≡ false
    turned a b p = grind (arith, nat_tests)

-- ---- indexes, windows and truncate records
new_in_index : (cs claimed : List ℕ) (c : ℕ) → list_all (λ k. times_in cs k == 1 && times_in claimed k == 0) cs ≡ true → (among cs c ≡ true → among claimed c ≡ false) × (times_in cs c ≤ 1)
new_in_index cs claimed c all = (
  λ stands. comes claimed c (zero_of (times_in claimed c) (rest_holds (times_in cs c == 1) (times_in claimed c == 0) (each stands))),
  elim (cases_Bool (among cs c)) [
    | inl stands ↦ let is = eqb-true (times_in cs c) 1 (first_holds (times_in cs c == 1) (times_in claimed c == 0) (each stands)) in omega (arith, is)
    | inr lacks ↦ let none = never cs c lacks in omega (arith, none)
  ],
)
  where
    each : among cs c ≡ true → (times_in cs c == 1 && times_in claimed c == 0) ≡ true
    each stands = all_at (λ k. times_in cs k == 1 && times_in claimed k == 0) cs c all stands

    zero_of : (n : ℕ) → (n == 0) ≡ true → n ≡ 0
    zero_of n is = eqb-true n 0 is

own_clusters : (v : Volume) (claimed : List ℕ) (d : ℕ) → is_sound_index v claimed d ≡ true → list_all (λ k. times_in (index_clusters v d) k == 1 && times_in claimed k == 0) (index_clusters v d) ≡ true
unfolding is_sound_index
own_clusters v claimed d sound = rest_holds _ _ (first_holds _ _ (first_holds _ _ (first_holds _ _ sound)))

index_adds : (v : Volume) (c : ℕ) (earlier : List Claim) (d : ℕ) → Adds c earlier (with_index v earlier d)
index_adds v c earlier d = elim (cases_Bool (is_sound_index v (claimed_clusters earlier) d)) [
  | inl sound ↦ rw sound (let new = new_in_index (index_clusters v d) (claimed_clusters earlier) c (own_clusters v (claimed_clusters earlier) d sound) in adds_by earlier (Index d) (index_clusters v d) c new.0 new.1)
  | inr unsound ↦ rw unsound (inl refl)
]

-- a window has no cluster, or each once and none that was claimed
window_once : (v : Volume) (b c : ℕ) → times_in (window_clusters v b) c ≤ 1
unfolding window_clusters
window_once v b c = once_of (window v b).bm_off (λ k. not (is_window_bit_set v b k)) 0 (window_total v b) c

window_unclaimed : (v : Volume) (claimed : List ℕ) (b c : ℕ) → is_sound_window v claimed b ≡ true → among (window_clusters v b) c ≡ true → among claimed c ≡ false
unfolding is_sound_window window_clusters
window_unclaimed v claimed b c sound stands = elim (cases_Bool (window_total v b == 0)) [
  | inl empty ↦ absurd (false≢true (ap (λ n. among (map (λ k. (window v b).bm_off + k) (filter (λ k. not (is_window_bit_set v b k)) (range_with_len 0 n))) c) (sym (eqb-true (window_total v b) 0 empty)) ∙ stands))
  | inr some ↦ none_at (among claimed) (window_clusters v b) c (not_so _ (rest_holds _ _ (other_holds _ _ (rest_holds _ _ sound) some))) stands
]
  where
    not_so : (t : Bool) → not t ≡ true → t ≡ false
    not_so true is = sym is
    not_so false is = refl

window_adds : (v : Volume) (c : ℕ) (earlier : List Claim) (slot : ℕ) → Adds c earlier (with_window v earlier slot)
window_adds v c earlier slot = by_dinode (system_inode v (OfSlot slot_file.LocalAlloc slot))
  where
    by_dinode : (o : Option ℕ) → Adds c earlier (option_map_or (with_window_of v earlier slot) o earlier)
    by_dinode None = inl refl
    by_dinode (Some b) = elim (cases_Bool (is_sound_window v (claimed_clusters earlier) b)) [
      | inl sound ↦ rw sound (adds_by earlier (LocalAlloc slot) (window_clusters v b) c (window_unclaimed v (claimed_clusters earlier) b c sound) (window_once v b c))
      | inr unsound ↦ rw unsound (inl refl)
    ]

-- so a truncate record
truncation_once : (r : TruncateRec) (c : ℕ) → times_in (truncated_clusters r) c ≤ 1
unfolding truncated_clusters
truncation_once r c = elim (cases_Bool (r.start == 0)) [
  | inl void ↦ rw void (omega arith)
  | inr live ↦ rw live (once_in_run r.start r.clusters c)
]

truncation_unclaimed : (v : Volume) (claimed : List ℕ) (r : TruncateRec) (c : ℕ) → is_sound_truncation v claimed r ≡ true → among (truncated_clusters r) c ≡ true → among claimed c ≡ false
unfolding is_sound_truncation truncated_clusters
truncation_unclaimed v claimed r c sound stands = elim (cases_Bool (r.start == 0)) [
  | inl void ↦ absurd (false≢true (rw void at stands))
  | inr live ↦ none_at (among claimed) (truncated_clusters r) c (not_so _ (rest_holds _ _ (other_holds _ _ sound live))) stands
]
  where
    not_so : (t : Bool) → not t ≡ true → t ≡ false
    not_so true is = sym is
    not_so false is = refl

truncation_adds : (v : Volume) (c slot : ℕ) (earlier : List Claim) (r : TruncateRec) → Adds c earlier (with_truncation v slot earlier r)
truncation_adds v c slot earlier r = elim (cases_Bool (is_sound_truncation v (claimed_clusters earlier) r)) [
  | inl sound ↦ rw sound (adds_by earlier (TruncateLog slot) (truncated_clusters r) c (truncation_unclaimed v (claimed_clusters earlier) r c sound) (truncation_once r c))
  | inr unsound ↦ rw unsound (inl refl)
]

log_adds : (v : Volume) (c : ℕ) (earlier : List Claim) (slot : ℕ) → Adds c earlier (with_truncate_log v earlier slot)
log_adds v c earlier slot = by_dinode (system_inode v (OfSlot slot_file.TruncateLog slot))
  where
    by_dinode : (o : Option ℕ) → Adds c earlier (option_map_or (λ b. fold (with_truncation v slot) earlier (truncate_records v b)) o earlier)
    by_dinode None = inl refl
    by_dinode (Some b) = adds_fold c (with_truncation v slot) (truncation_adds v c slot) earlier (truncate_records v b)

-- ---- all claims
later_adds : (v : Volume) (c : ℕ) → Adds c (structure_claims v ++ inode_claims v) (claims_of v)
unfolding claims_of claims_with_truncations claims_with_windows claims_with_indexes
later_adds v c =
    adds_both c (structure_claims v ++ inode_claims v) (claims_with_indexes v) (claims_of v)
    (adds_fold c (with_index v) (index_adds v c) (structure_claims v ++ inode_claims v) (indexed_directories v))
    (adds_both c (claims_with_indexes v) (claims_with_windows v v.geo.slots) (claims_of v)
    (adds_fold c (with_window v) (window_adds v c) (claims_with_indexes v) (range_with_len 0 v.geo.slots))
    (adds_fold c (with_truncate_log v) (log_adds v c) (claims_with_windows v v.geo.slots) (range_with_len 0 v.geo.slots)))

-- the owners of structures and inodes, or where there are none the first one
abbrev pub told_by : List Owner → Option Owner → List Owner
told_by [] first = option_to_list first
told_by (o ∷ os) first = o ∷ os

pub owners_told : (v : Volume) (c : ℕ) → owners_in (claims_of v) c ≡ told_by (owners_in (structure_claims v ++ inode_claims v) c) (owner_in (claims_of v) c)
owners_told v c = by_base (owners_in (structure_claims v ++ inode_claims v) c) refl (later_adds v c)
  where
    by_base : (base : List Owner) → owners_in (structure_claims v ++ inode_claims v) c ≡ base → Adds c (structure_claims v ++ inode_claims v) (claims_of v) → owners_in (claims_of v) c ≡ told_by base (owner_in (claims_of v) c)
    by_base [] is (inl same) = one_is_first (claims_of v) c (subst (λ os. length os ≤ 1) (sym (same ∙ is)) (omega arith))
    by_base [] is (inr one) = one_is_first (claims_of v) c one.1
    by_base (o ∷ os) is (inl same) = same ∙ is
    by_base (o ∷ os) is (inr one) = absurd (let none = sym is ∙ one.0 in cc none)

-- ---- what was found of structures and inodes
pub found_told : (v : Volume) (c : ℕ) (found : List Owner) → found ≡ owners_in (structure_claims v ++ inode_claims v) c → (length found == 0) ≡ false → found ≡ owners_in (claims_of v) c
found_told v c [] is some = absurd (false≢true (sym some))
found_told v c (o ∷ os) is some = sym (owners_told v c ∙ ap (λ base. told_by base (owner_in (claims_of v) c)) (sym is))

pub first_told : (v : Volume) (c : ℕ) (found : List Owner) → found ≡ owners_in (structure_claims v ++ inode_claims v) c → (length found == 0) ≡ true → option_to_list (owner_in (claims_of v) c) ≡ owners_in (claims_of v) c
first_told v c [] is none = sym (owners_told v c ∙ ap (λ base. told_by base (owner_in (claims_of v) c)) (sym is))
first_told v c (o ∷ os) is none = absurd (some (length os) none)
  where
    some : (n : ℕ) → (suc n == 0) ≡ true → ⊥
    some n same = let e = eqb-true (suc n) 0 same in omega (arith, e)
