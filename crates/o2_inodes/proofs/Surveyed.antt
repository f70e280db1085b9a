-- The survey, one inode more at a time.
use Rattle.std.proofs.Common.{◌≡◌, inl, inr, ℕ, ◌+◌, ◌<◌, Bool, true, false, ◌&&◌, ◌==◌, cond, take, length, get_or, List, [], ◌∷◌, ◌++◌, map, filter, refl, sym, ◌∙◌, ap}
use Rattle.std.specs.Prelude.{flat_map}
use Rattle.std.specs.List.{AllByRecursion, range_with_len}
use Rattle.std.proofs.lemmas.Bool.{cases_Bool}
use Rattle.std.proofs.lemmas.List.{append-nil, map-append, flat_map_more}
use Rattle.std.proofs.lemmas.List.Elements.{filter_more}
use Rattle.std.proofs.lemmas.Grind.{flat_map-append}
use Rattle.o2_model.specs.Words.{push}
use Rattle.o2_model.specs.Faults.{fails_at, fails_unless}
use Rattle.o2_model.specs.Volume.{Volume, is_valid, is_in_range, blocks, dinode}
use Rattle.o2_model.specs.Inodes.{extents, has_list}
use Rattle.o2_model.specs.Groups.{has_inode_bit, is_inode, inodes_of}
use Rattle.o2_model.specs.Checks.LastEb.{last_leaf}
use Rattle.o2_tables.specs.Rows.{IsInodeRow}
use Rattle.o2_tables.specs.declared.inodes.InodeRow.{InodeRow}
use Rattle.o2_inodes.specs.InodeSurveys.{last_faults_of}

-- ---- lists of faults
-- those of one inode behind those of the ones before
pub faults_more : (f : ℕ → List ℕ) (bs found new : List ℕ) (b : ℕ) → found ≡ flat_map f bs → new ≡ found ++ f b → new ≡ flat_map f (push bs b)
faults_more f bs found new b before more = more ∙ (ap (λ xs. xs ++ f b) before ∙ flat_map_more f [] bs b)

-- the same of all lists of each inode
pub lists_more : {A : Type 0} (f : A → List ℕ) (lists : ℕ → List A) (bs found new these : List ℕ) (b : ℕ) → found ≡ flat_map f (flat_map lists bs) → flat_map f (lists b) ≡ these
    → new ≡ found ++ these → new ≡ flat_map f (flat_map lists (push bs b))
lists_more f lists bs found new these b before are more =
    more
    ∙ (ap (λ xs. xs ++ these) before
    ∙ (ap (λ xs. flat_map f (flat_map lists bs) ++ xs) (sym are)
    ∙ (sym (flat_map-append f (flat_map lists bs) (lists b)) ∙ ap (flat_map f) (flat_map_more lists [] bs b))))

-- where a check of those that are asked fails
asked_more : (asked holds : ℕ → Bool) (bs : List ℕ) (b : ℕ)
    → fails_at (λ c. c) holds (filter asked (push bs b)) ≡ fails_at (λ c. c) holds (filter asked bs) ++ cond (asked b) (fails_unless b (holds b)) []
asked_more asked holds [] b = elim (cases_Bool (asked b)) [
  | inr other ↦ rw other refl
  | inl is ↦ elim (cases_Bool (holds b)) [
    | inl good ↦ rw (is, good) refl
    | inr bad ↦ rw (is, bad) refl
  ]
]
asked_more asked holds (c ∷ cs) b = elim (cases_Bool (asked c)) [
  | inr other ↦ rw other (asked_more asked holds cs b)
  | inl is ↦ elim (cases_Bool (holds c)) [
    | inl good ↦ rw (is, good) (asked_more asked holds cs b)
    | inr bad ↦ rw (is, bad) (ap (λ ns. c ∷ ns) (asked_more asked holds cs b))
  ]
]

pub last_more : (v : Volume) (bs found new : List ℕ) (b : ℕ) → found ≡ fails_at (λ b. b) (λ b. (dinode v b).last_eb_blk == last_leaf v (extents v b)) (filter (has_list v) bs)
    → new ≡ found ++ last_faults_of v b → new ≡ fails_at (λ b. b) (λ b. (dinode v b).last_eb_blk == last_leaf v (extents v b)) (filter (has_list v) (push bs b))
last_more v bs found new b before more =
    more ∙ (ap (λ xs. xs ++ last_faults_of v b) before ∙ sym (asked_more (has_list v) (λ b. (dinode v b).last_eb_blk == last_leaf v (extents v b)) bs b))

-- ---- rows
pub row_listed : (rows new : List InodeRow) (row : InodeRow) (bs : List ℕ) (b : ℕ) → map (λ r. r.block) rows ≡ bs → row.block ≡ b → new ≡ push rows row → map (λ r. r.block) new ≡ push bs b
row_listed rows new row bs b before of more =
    ap (map (λ (r : InodeRow). r.block)) more
    ∙ (map-append (λ (r : InodeRow). r.block) rows (row ∷ [])
    ∙ (ap (λ cs. cs ++ row.block ∷ []) before ∙ ap (λ c. push bs c) of))

each_push : {A : Type 0} (P : A → Type 0) (xs : List A) (x : A) → AllByRecursion P xs → P x → AllByRecursion P (push xs x)
each_push P [] x all is = (is, tt)
each_push P (y ∷ ys) x all is = (all.0, each_push P ys x all.1 is)

pub row_told : (v : Volume) (rows new : List InodeRow) (row : InodeRow) → AllByRecursion (IsInodeRow v) rows → IsInodeRow v row → new ≡ push rows row → AllByRecursion (IsInodeRow v) new
row_told v rows new row all is more = rw more (each_push (IsInodeRow v) rows row all is)

-- ---- which blocks are inodes
pub invalid_out_of_range : (v : Volume) (b : ℕ) → is_in_range v b ≡ false → is_valid v b ≡ false
unfolding is_valid
invalid_out_of_range v b out = rw out refl

both_pass : (p q : ℕ → Bool) (bs : List ℕ) → filter p (filter q bs) ≡ filter (λ b. p b && q b) bs
both_pass p q [] = refl
both_pass p q (b ∷ bs) = elim (cases_Bool (q b)) [
  | inl has ↦ elim (cases_Bool (p b)) [
    | inl is ↦ rw (has, is) (ap (λ cs. b ∷ cs) (both_pass p q bs))
    | inr other ↦ rw (has, other) (both_pass p q bs)
  ]
  | inr none ↦ elim (cases_Bool (p b)) [
    | inl is ↦ rw (none, is) (both_pass p q bs)
    | inr other ↦ rw (none, other) (both_pass p q bs)
  ]
]

pub all_inodes : (v : Volume) (these : List ℕ) → these ≡ filter (has_inode_bit v) (range_with_len 0 (blocks v)) → filter (is_valid v) these ≡ inodes_of v
unfolding inodes_of is_inode
all_inodes v these are = ap (filter (is_valid v)) are ∙ both_pass (is_valid v) (has_inode_bit v) (range_with_len 0 (blocks v))

push_if : (p : Bool) (bs : List ℕ) (b : ℕ) → cond p (push bs b) bs ≡ bs ++ cond p (b ∷ []) []
push_if true bs b = refl
push_if false bs b = sym (append-nil bs)

-- one block more was asked
pub one_asked : (asked : ℕ → Bool) (bs : List ℕ) (i : ℕ) → i < length bs
    → cond (asked (get_or bs i 0)) (push (filter asked (take i bs)) (get_or bs i 0)) (filter asked (take i bs)) ≡ filter asked (take (i + 1) bs)
one_asked asked bs i inside = push_if (asked (get_or bs i 0)) (filter asked (take i bs)) (get_or bs i 0) ∙ sym (filter_more asked bs i 0 inside)
