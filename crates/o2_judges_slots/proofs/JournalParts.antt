-- What decides whether a journal is sound.
use Rattle.std.proofs.Common.{◌≡◌, inl, inr, ℕ, ◌<◌, ◌≤◌, Bool, true, false, ◌&&◌, ◌==◌, not, List, [], ◌∷◌, length, flat_map, refl, sym, ◌∙◌, ap, arith, Some, None}
use Rattle.std.specs.Prelude.{slice_get}
use Rattle.std.specs.Option.{option_map_or}
use Rattle.std.proofs.lemmas.Bool.{cases_Bool}
use Rattle.std.proofs.lemmas.Bool.Decides.{nat_tests}
use Rattle.o2_ondisk.specs.JournalSupers.{journal_super_of}
use Rattle.o2_ondisk.specs.declared.journal_super.JournalSuper.{JournalSuper}
use Rattle.o2_model.specs.declared.leaf.Leaf.{Leaf}
use Rattle.o2_model.specs.Orders.{is_none_of}
use Rattle.o2_model.specs.Volume.{Volume, block_size}
use Rattle.o2_model.specs.Inodes.{leaf_records}
use Rattle.o2_model.specs.LeafRecords.{are_without_gap, have_no_flags, blocks_under}
use Rattle.o2_model.specs.Checks.Extent.{extent_faults}
use Rattle.o2_model.specs.Checks.Journal.{is_sound_journal}
use Rattle.o2_model.specs.Journals.{log_magic, journal_blocks, journal_super, has_sound_bounds, is_sound_journal_super, has_known_features}

-- ---- tests in a row
third_fails : (a b c d e f : Bool) → (c && d) ≡ false → (a && b && c && d && e && f) ≡ false
third_fails false b c d e f fails = refl
third_fails true false c d e f fails = refl
third_fails true true false d e f fails = refl
third_fails true true true false e f fails = refl
third_fails true true true true e f fails = cc

fifth_fails : (a b c d f : Bool) → (a && b && c && d && false && f) ≡ false
fifth_fails false b c d f = refl
fifth_fails true false c d f = refl
fifth_fails true true false d f = refl
fifth_fails true true true false f = refl
fifth_fails true true true true f = refl

fourth_fails : (a b c : Bool) → (a && b && c && false) ≡ false
fourth_fails false b c = refl
fourth_fails true false c = refl
fourth_fails true true false = refl
fourth_fails true true true = refl

last_two : (c d e f : Bool) → (c && d) ≡ true → (true && not false && c && d && e && f) ≡ (e && f)
last_two true true e f holds = refl
last_two true false e f holds = cc
last_two false d e f holds = cc

-- ---- where a journal is at fault
pub bad_extents : (v : Volume) (b : ℕ) → is_none_of (extent_faults v b) ≡ false → is_sound_journal v b ≡ false
unfolding is_sound_journal
bad_extents v b bad = rw bad refl

pub bad_records : (v : Volume) (b : ℕ) (leaves : List Leaf) → leaves ≡ leaf_records v b → (are_without_gap leaves && have_no_flags leaves) ≡ false → is_sound_journal v b ≡ false
unfolding is_sound_journal
bad_records v b leaves are bad =
    let same : (are_without_gap (leaf_records v b) && have_no_flags (leaf_records v b)) ≡ false = ap (λ ls. are_without_gap ls && have_no_flags ls) (sym are) ∙ bad in
    third_fails (is_none_of (extent_faults v b)) (not (is_none_of (leaf_records v b))) (are_without_gap (leaf_records v b)) (have_no_flags (leaf_records v b)) (is_sound_journal_super v b) (has_known_features v b) same

no_room : (s : JournalSuper) → has_sound_bounds 0 s ≡ false
no_room s = elim (cases_Bool (has_sound_bounds 0 s)) [
  | inl fits ↦
      let short : s.maxlen ≤ 0 = grind (arith, nat_tests) in
      let long : s.first < s.maxlen = grind (arith, nat_tests) in
      absurd (omega (arith, short, long))
  | inr outside ↦ outside
]

no_first : (bs : List ℕ) → None ≡ slice_get bs 0 → length bs ≡ 0
no_first [] none = refl
no_first (b ∷ bs) none = cc

no_super : (v : Volume) (b : ℕ) → length (journal_blocks v b) ≡ 0 → is_sound_journal_super v b ≡ false
unfolding is_sound_journal_super
no_super v b none = rw (none, no_room (journal_super v b)) (fourth_fails ((journal_super v b).magic == log_magic) ((journal_super v b).blocktype == 4) ((journal_super v b).blocksize == block_size v))

pub no_blocks : (v : Volume) (b : ℕ) (leaves : List Leaf) → leaves ≡ leaf_records v b → None ≡ slice_get (flat_map (blocks_under v) leaves) 0 → is_sound_journal v b ≡ false
unfolding is_sound_journal journal_blocks
no_blocks v b leaves are none =
    let empty : length (journal_blocks v b) ≡ 0 = no_first (journal_blocks v b) (none ∙ ap (λ ls. slice_get (flat_map (blocks_under v) ls) 0) are) in
    rw (no_super v b empty) (fifth_fails (is_none_of (extent_faults v b)) (not (is_none_of (leaf_records v b))) (are_without_gap (leaf_records v b)) (have_no_flags (leaf_records v b)) (has_known_features v b))

-- ---- else its superblock decides
some_records : (v : Volume) (leaves : List Leaf) (first : ℕ) → Some first ≡ slice_get (flat_map (blocks_under v) leaves) 0 → is_none_of leaves ≡ false
some_records v [] first is = cc
some_records v (x ∷ xs) first is = refl

pub by_super : (v : Volume) (b : ℕ) (leaves : List Leaf) (first : ℕ) → extent_faults v b ≡ [] → leaves ≡ leaf_records v b → (are_without_gap leaves && have_no_flags leaves) ≡ true
    → Some first ≡ slice_get (flat_map (blocks_under v) leaves) 0 → is_sound_journal v b ≡ (is_sound_journal_super v b && has_known_features v b)
unfolding is_sound_journal
by_super v b leaves first none are sound is =
    rw (none, ← are, some_records v leaves first is) (last_two (are_without_gap leaves) (have_no_flags leaves) (is_sound_journal_super v b) (has_known_features v b) sound)

-- which stands in the first block
pub super_in : (v : Volume) (b : ℕ) (leaves : List Leaf) (first : ℕ) → leaves ≡ leaf_records v b → Some first ≡ slice_get (flat_map (blocks_under v) leaves) 0 → journal_super_of (v.at first) ≡ journal_super v b
unfolding journal_blocks
super_in v b leaves first are is =
    let found : Some first ≡ slice_get (journal_blocks v b) 0 = is ∙ ap (λ ls. slice_get (flat_map (blocks_under v) ls) 0) are in
    ap (λ o. journal_super_of (option_map_or v.at o [])) found

pub blocks_are : (v : Volume) (b : ℕ) (leaves : List Leaf) → leaves ≡ leaf_records v b → length (flat_map (blocks_under v) leaves) ≡ length (journal_blocks v b)
unfolding journal_blocks
blocks_are v b leaves are = ap (λ ls. length (flat_map (blocks_under v) ls)) are
