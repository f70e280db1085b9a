-- What the reading of an extent tree keeps, what it gives over other blocks, and what it gives where nothing is wrong.
use Rattle.std.proofs.Common.{◌≡◌, inl, inr, ℕ, zero, suc, ◌+◌, Bool, true, false, cond, not, ◌==◌, List, [], ◌∷◌, ◌++◌, refl, sym, ◌∙◌, ap}
use Rattle.std.proofs.lemmas.Bool.{cases_Bool, or_right, or_left, eq-eqb}
use Rattle.std.proofs.lemmas.List.{append-nil, append_assoc}
use Rattle.std.proofs.lemmas.List.Folds.{list_any-append}
use Rattle.o2_ondisk.specs.declared.extent_rec.ExtentRec.{ExtentRec}
use Rattle.o2_model.specs.declared.leaf.Leaf.{Leaf}
use Rattle.o2_model.specs.Words.{among, push}
use Rattle.o2_model.specs.Volume.{Volume, over}
use Rattle.o2_laws.specs.Frames.{SameOn}
use Rattle.o2_model.specs.Clusters.{are_clusters_in_range}
use Rattle.o2_model.specs.Extents.{Extents, LeafRule, may_follow, leaf_clusters, leaf_of, list_in_block, with_leaf, with_seen, with_block, with_fault, end_of, is_sound_header, is_extent_block, is_sound_leaf, names_new_block, most_in_block, with_met, records_in_block, read_records, read_list, nothing_read, leaves_below, extent_list}
use Rattle.o2_model.specs.Extents.LeafRule.{ToClusters, ToBlocks}
use Rattle.o2_model.specs.Inodes.{is_directory, extents, has_list, most_flags, most_in_dinode}
use Rattle.o2_model.proofs.Readings.{met_seen}

-- ---- what a reading keeps of what was read before
pub record Grows (t u : Extents) : Type 0 where
  pub seen : (b : ℕ) → among t.seen b ≡ true → among u.seen b ≡ true
  pub faults : u.faults ≡ [] → t.faults ≡ []

pub grows_none : (t : Extents) → Grows t t
grows_none t = record { seen = λ b h. h; faults = λ h. h }

pub grows_both : {t u s : Extents} → Grows t u → Grows u s → Grows t s
grows_both g h = record { seen = λ b k. h.seen b (g.seen b k); faults = λ k. g.faults (h.faults k) }

pub push_some : {A : Type 0} (xs : List A) (x : A) → push xs x ≡ [] → ⊥
push_some [] x e = cc
push_some (y ∷ ys) x e = cc

pub among-push : (bs : List ℕ) (a b : ℕ) → among bs b ≡ true → among (push bs a) b ≡ true
among-push bs a b h = list_any-append (λ m. b == m) bs (a ∷ []) ∙ or_left _ _ h

pub among_last : (bs : List ℕ) (b : ℕ) → among (push bs b) b ≡ true
among_last bs b = list_any-append (λ m. b == m) bs (b ∷ []) ∙ or_right _ _ (or_left _ _ (eq-eqb b b refl))

pub grows_leaf : (t : Extents) (leaf : Leaf) → Grows t (with_leaf t leaf)
grows_leaf t leaf = record { seen = λ b h. h; faults = λ h. h }

pub grows_seen : (t : Extents) (a : ℕ) → Grows t (with_seen t a)
grows_seen t a = record { seen = λ b h. among-push t.seen a b h; faults = λ h. h }

grows_block : (t : Extents) (b : ℕ) → Grows t (with_block t b)
grows_block t b = record { seen = λ c h. h; faults = λ h. h }

pub grows_fault : (t : Extents) (b : ℕ) → Grows t (with_fault t b)
grows_fault t b = record { seen = λ c h. h; faults = λ h. absurd (push_some t.faults b h) }

pub grows_cond : (c : Bool) (t u s : Extents) → Grows t u → Grows t s → Grows t (cond c u s)
grows_cond true t u s g h = g
grows_cond false t u s g h = h

pub grows_met : (v : Volume) (b : ℕ) (t : Extents) → Grows t (with_met v b t)
unfolding with_met
grows_met v b t = grows_cond (is_sound_header (most_in_block v) (list_in_block v b).header) t _ _ (grows_block t b) (grows_both (grows_block t b) (grows_fault (with_block t b) b))

-- a record of an inner list: what is below it gives `child`, and the records behind it `whole`
pub grows_inner : (v : Volume) (depth holder low : ℕ) (r : ExtentRec) (t child whole : Extents) → Grows (with_met v r.blkno (with_seen t r.blkno)) child → Grows child whole
    → Grows t (cond (not (names_new_block v low t.seen r)) (with_fault t holder) (cond (is_extent_block v depth r.blkno) whole (with_fault (with_seen t r.blkno) holder)))
grows_inner v depth holder low r t child whole below rest =
    let looked = with_seen t r.blkno in
    grows_cond (not (names_new_block v low t.seen r)) t _ _
    (grows_fault t holder)
    (grows_cond (is_extent_block v depth r.blkno) t _ _
    (grows_both (grows_both (grows_seen t r.blkno) (grows_both (grows_met v r.blkno looked) below)) rest)
    (grows_both (grows_seen t r.blkno) (grows_fault looked holder)))

pub reading_grows : (v : Volume) (m : LeafRule) (depth holder low : ℕ) (rs : List ExtentRec) (t : Extents) → Grows t (read_records v m depth holder low rs t)
reading_grows v m depth holder low [] t = grows_none t
reading_grows v m zero holder low (r ∷ rs) t =
    grows_cond (leaf_clusters r == 0) t _ _ (reading_grows v m zero holder low rs t)
    (grows_cond (may_follow v m t.leaves (leaf_of r)) t _ _ (grows_both (grows_leaf t (leaf_of r)) (reading_grows v m zero holder low rs (with_leaf t (leaf_of r)))) (grows_fault t holder))
reading_grows v m (suc depth) holder low (r ∷ rs) t =
    let met = with_met v r.blkno (with_seen t r.blkno) in
    let child = read_records v m depth r.blkno 0 (records_in_block v r.blkno) met in
    let rest = reading_grows v m (suc depth) holder (r.cpos + 1) rs child in
    grows_inner v depth holder low r t child _ (reading_grows v m depth r.blkno 0 (records_in_block v r.blkno) met) rest

-- ---- over other blocks
pub same_new : (v : Volume) (at : ℕ → List ℕ) (low : ℕ) (seen : List ℕ) (r : ExtentRec) → names_new_block (over v at) low seen r ≡ names_new_block v low seen r
unfolding names_new_block
same_new v at low seen r = refl

pub same_block : (v : Volume) (at : ℕ → List ℕ) (depth b : ℕ) → at b ≡ v.at b → is_extent_block (over v at) depth b ≡ is_extent_block v depth b
unfolding is_extent_block
same_block v at depth b same = rw same refl

same_leaf : (v : Volume) (at : ℕ → List ℕ) (m low : ℕ) (leaf : Leaf) → is_sound_leaf (over v at) m low leaf ≡ is_sound_leaf v m low leaf
unfolding is_sound_leaf are_clusters_in_range
same_leaf v at m low leaf = refl

same_rule : (v : Volume) (at : ℕ → List ℕ) (m : LeafRule) (leaves : List Leaf) (leaf : Leaf) → may_follow (over v at) m leaves leaf ≡ may_follow v m leaves leaf
same_rule v at (ToClusters flags) leaves leaf = same_leaf v at flags (end_of leaves) leaf
same_rule v at ToBlocks leaves leaf = refl

pub same_met : (v : Volume) (at : ℕ → List ℕ) (b : ℕ) (t : Extents) → at b ≡ v.at b → with_met (over v at) b t ≡ with_met v b t
unfolding with_met
same_met v at b t same = rw same refl

pub same_records : (v : Volume) (at : ℕ → List ℕ) (b : ℕ) → at b ≡ v.at b → records_in_block (over v at) b ≡ records_in_block v b
unfolding records_in_block
same_records v at b same = rw same refl

pub same_on_before : {bs cs : List ℕ} {v : Volume} {at : ℕ → List ℕ} → ((b : ℕ) → among bs b ≡ true → among cs b ≡ true) → SameOn cs v at → SameOn bs v at
same_on_before sub same = record { same = λ b h. same.same b (sub b h) }

-- Read without a fault, the records give the same over other blocks that agree on those that were looked at.
pub reading_same : (v : Volume) (at : ℕ → List ℕ) (m : LeafRule) (depth holder low : ℕ) (rs : List ExtentRec) (t : Extents) → SameOn (read_records v m depth holder low rs t).seen v at → (read_records v m depth holder low rs t).faults ≡ []
    → read_records (over v at) m depth holder low rs t ≡ read_records v m depth holder low rs t
reading_same v at m depth holder low [] t same none = refl
reading_same v at m zero holder low (r ∷ rs) t same none =
    elim (cases_Bool (leaf_clusters r == 0)) [
      | inl empty ↦ rw empty (reading_same v at m zero holder low rs t (rw empty at same) (rw empty at none))
      | inr some ↦ elim (cases_Bool (may_follow v m t.leaves (leaf_of r))) [
        | inl sound ↦
            rw (some, same_rule v at m t.leaves (leaf_of r), sound)
            (reading_same v at m zero holder low rs (with_leaf t (leaf_of r)) (rw (some, sound) at same) (rw (some, sound) at none))
        | inr bad ↦ absurd (push_some t.faults holder (rw (some, bad) at none))
      ]
    ]
reading_same v at m (suc depth) holder low (r ∷ rs) t same none =
    elim (cases_Bool (names_new_block v low t.seen r)) [
      | inr old ↦ absurd (push_some t.faults holder (rw old at none))
      | inl new ↦ elim (cases_Bool (is_extent_block v depth r.blkno)) [
        | inr bad ↦ absurd (push_some t.faults holder (rw (new, bad) at none))
        | inl good ↦
            let b = r.blkno in
            let met = with_met v b (with_seen t b) in
            let child = read_records v m depth b 0 (records_in_block v b) met in
            let rest = reading_grows v m (suc depth) holder (r.cpos + 1) rs child in
            let below = reading_grows v m depth b 0 (records_in_block v b) met in
            let same' : SameOn (read_records v m (suc depth) holder (r.cpos + 1) rs child).seen v at = rw (new, good) at same in
            let none' : (read_records v m (suc depth) holder (r.cpos + 1) rs child).faults ≡ [] = rw (new, good) at none in
            let seen : among met.seen b ≡ true = rw (met_seen v b (with_seen t b)) (among_last t.seen b) in
            let here = same'.same b (rest.seen b (below.seen b seen)) in
            rw (
              same_new v at low t.seen r,
              new,
              same_block v at depth b here,
              good,
              same_records v at b here,
              same_met v at b (with_seen t b) here,
              reading_same v at m depth b 0 (records_in_block v b) met (same_on_before rest.seen same') (rest.faults none'),
            )
            (reading_same v at m (suc depth) holder (r.cpos + 1) rs child same' none')
      ]
    ]

pub same_has_list : (v : Volume) (at : ℕ → List ℕ) (b : ℕ) → at b ≡ v.at b → has_list (over v at) b ≡ has_list v b
same_has_list v at b same = rw same refl

-- and so does a list in a block
pub list_same : (v : Volume) (at : ℕ → List ℕ) (m : LeafRule) (holder place most : ℕ) → at holder ≡ v.at holder → SameOn (read_list v m holder place most).seen v at → (read_list v m holder place most).faults ≡ []
    → read_list (over v at) m holder place most ≡ read_list v m holder place most
list_same v at m holder place most here same none =
    let list = extent_list place (v.at holder) in
    elim (cases_Bool (is_sound_header most list.header)) [
      | inr bad ↦ rw (here, bad) refl
      | inl sound ↦
          rw (here, sound)
          (reading_same v at m list.header.tree_depth holder 0 list.records nothing_read (rw sound at same) (rw sound at none))
    ]

same_flags : (v : Volume) (at : ℕ → List ℕ) (b : ℕ) → at b ≡ v.at b → most_flags (over v at) b ≡ most_flags v b
unfolding is_directory
same_flags v at b same = rw same refl

-- and an inode
pub extents_same : (v : Volume) (at : ℕ → List ℕ) (b : ℕ) → SameOn (b ∷ (extents v b).seen) v at → (extents v b).faults ≡ [] → extents (over v at) b ≡ extents v b
unfolding extents
extents_same v at b same none =
    let here : at b ≡ v.at b = same.same b (or_left _ _ (eq-eqb b b refl)) in
    elim (cases_Bool (has_list v b)) [
      | inr none_here ↦ rw (same_has_list v at b here, none_here) refl
      | inl has ↦
          let seen : SameOn (extents v b).seen v at = same_on_before (λ c h. or_right _ _ h) same in
          rw (same_has_list v at b here, has)
          (ap (λ m. read_list (over v at) (ToClusters m) b 0xc0 (most_in_dinode v)) (same_flags v at b here)
          ∙ list_same v at (ToClusters (most_flags v b)) b 0xc0 (most_in_dinode v) here (rw has at seen) (rw has at none))
    ]

-- ---- the plain recursion
met_leaves : (v : Volume) (b : ℕ) (t : Extents) → (with_met v b t).leaves ≡ t.leaves
unfolding with_met
met_leaves v b t = elim (cases_Bool (is_sound_header (most_in_block v) (list_in_block v b).header)) [
  | inl sound ↦ rw sound refl
  | inr bad ↦ rw bad refl
]

met_records : (v : Volume) (b : ℕ) (t : Extents) → (with_met v b t).faults ≡ [] → records_in_block v b ≡ (list_in_block v b).records
unfolding with_met records_in_block
met_records v b t none = elim (cases_Bool (is_sound_header (most_in_block v) (list_in_block v b).header)) [
  | inl sound ↦ rw sound refl
  | inr bad ↦ absurd (push_some t.faults b (rw bad at none))
]

-- Without a fault, the leaf records read are those by the depth alone.
pub leaves_are : (v : Volume) (m : LeafRule) (depth holder low : ℕ) (rs : List ExtentRec) (t : Extents) → (read_records v m depth holder low rs t).faults ≡ [] → (read_records v m depth holder low rs t).leaves ≡ t.leaves ++ leaves_below v depth rs
leaves_are v m zero holder low [] t none = sym (append-nil t.leaves)
leaves_are v m (suc depth) holder low [] t none = sym (append-nil t.leaves)
leaves_are v m zero holder low (r ∷ rs) t none =
    elim (cases_Bool (leaf_clusters r == 0)) [
      | inl empty ↦ rw empty (leaves_are v m zero holder low rs t (rw empty at none))
      | inr some ↦ elim (cases_Bool (may_follow v m t.leaves (leaf_of r))) [
        | inl sound ↦ rw (some, sound, leaves_are v m zero holder low rs (with_leaf t (leaf_of r)) (rw (some, sound) at none)) (append_assoc t.leaves (leaf_of r ∷ []) _)
        | inr bad ↦ absurd (push_some t.faults holder (rw (some, bad) at none))
      ]
    ]
leaves_are v m (suc depth) holder low (r ∷ rs) t none =
    elim (cases_Bool (names_new_block v low t.seen r)) [
      | inr old ↦ absurd (push_some t.faults holder (rw old at none))
      | inl new ↦ elim (cases_Bool (is_extent_block v depth r.blkno)) [
        | inr bad ↦ absurd (push_some t.faults holder (rw (new, bad) at none))
        | inl good ↦
            let b = r.blkno in
            let met = with_met v b (with_seen t b) in
            let child = read_records v m depth b 0 (records_in_block v b) met in
            let none' : (read_records v m (suc depth) holder (r.cpos + 1) rs child).faults ≡ [] = rw (new, good) at none in
            let none1 = (reading_grows v m (suc depth) holder (r.cpos + 1) rs child).faults none' in
            let none2 = (reading_grows v m depth b 0 (records_in_block v b) met).faults none1 in
            rw (new, good, leaves_are v m (suc depth) holder (r.cpos + 1) rs child none', leaves_are v m depth b 0 (records_in_block v b) met none1, met_leaves v b (with_seen t b), met_records v b (with_seen t b) none2)
            (append_assoc t.leaves _ _)
      ]
    ]

pub leaf_records_are : (v : Volume) (b : ℕ) → has_list v b ≡ true → (extents v b).faults ≡ [] → (extents v b).leaves ≡ leaves_below v (extent_list 0xc0 (v.at b)).header.tree_depth (extent_list 0xc0 (v.at b)).records
unfolding extents
leaf_records_are v b has none =
    let list = extent_list 0xc0 (v.at b) in
    elim (cases_Bool (is_sound_header (most_in_dinode v) list.header)) [
      | inr bad ↦ absurd (push_some [] b (rw (has, bad) at none))
      | inl sound ↦ rw (has, sound) (leaves_are v (ToClusters (most_flags v b)) list.header.tree_depth b 0 list.records nothing_read (rw (has, sound) at none))
    ]
