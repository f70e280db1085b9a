-- The writes of a log are of whole blocks, as the log's own blocks are.
use Rattle.std.proofs.Common.{◌≡◌, inl, inr, ⊎_elim, ℕ, zero, suc, ◌+◌, ◌%◌, ◌^◌, ◌<◌, ◌≤◌, Bool, true, ◌&&◌, not, ◌==◌, List, [], ◌∷◌, ◌++◌, map, length, drop, refl, ◌∙◌, ap, subst, arith, Some, None, length-append, length-drop}
use Rattle.std.specs.Prelude.{filter, slice_get, nat_le, nat_lt}
use Rattle.std.specs.List.{AllByRecursion, Contains}
use Rattle.std.specs.Option.{option_map_or}
use Rattle.std.proofs.lemmas.Bool.{cases_Bool, and_parts, leb-true, ltb-true}
use Rattle.o2_model.specs.declared.journal_part.JournalPart.TheVariants as part
use Rattle.o2_model.specs.Orders.{from_to}
use Rattle.o2_model.specs.Volume.{Volume, block_size}
use Rattle.o2_model.specs.Journals.{journal_blocks, journal_block, journal_super, has_sound_bounds, log_magic, is_sound_journal_super}
use Rattle.o2_model.specs.Logs.{Tag, LoggedBlock, Transaction, no_writes, with_write, with_revokes, unescaped, magic_bytes, tags_of, revokes_of, has_log_header, descriptor_type, revoke_type, commit_type, read_log, is_wide, log_blocks, log_in, is_revoked_by, unrevoked}
use Rattle.o2_model.specs.Dirty.{slot_journal, journal_part_fault, log_of, committed_writes}
use Rattle.std.proofs.lemmas.List.Elements.{Contains-append_cases}
use Rattle.o2_laws.proofs.Found.{each_of, all_push, contains_first, contains_later}
use Rattle.o2_replay_laws.proofs.Stable.OneSlot.{below_high}
use Rattle.o2_replay_laws.proofs.Stable.SameJournal.{usable_has_extents}

-- ---- what is read of whole blocks
abbrev AreBytes : ℕ → List (List ℕ) → Type 0
AreBytes n blocks = AllByRecursion (λ b. length b ≡ n) blocks

abbrev AreWhole : ℕ → List LoggedBlock → Type 0
AreWhole n ws = AllByRecursion (λ w. length w.bytes ≡ n) ws

abbrev HaveWhole : ℕ → List Transaction → Type 0
HaveWhole n ts = AllByRecursion (λ t. AreWhole n t.writes) ts

length-unescaped : (n : ℕ) (tag : Tag) (bytes : List ℕ) → 4 ≤ n → length bytes ≡ n → length (unescaped tag bytes) ≡ n
unfolding unescaped
length-unescaped n tag bytes four long = elim (cases_Bool tag.is_escaped) [
  | inr plain ↦ rw plain long
  | inl escaped ↦ rw escaped (omega (arith, length-append magic_bytes (drop 4 bytes), length-drop 4 bytes, long, four))
]

read_whole : (n : ℕ) → 4 ≤ n → (wide : Bool) (sequence : ℕ) (t : Transaction) (tags : List Tag) (blocks : List (List ℕ)) → AreWhole n t.writes → AreBytes n blocks
    → HaveWhole n (read_log wide sequence t tags blocks)
read_whole n four wide sequence t tags [] so_far all = tt
read_whole n four wide sequence t (tag ∷ tags) (b ∷ blocks) so_far all =
    read_whole n four wide sequence (with_write t tag b) tags blocks (all_push (λ w. length w.bytes ≡ n) t.writes _ so_far (length-unescaped n tag b four all.0)) all.1
read_whole n four wide sequence t [] (b ∷ blocks) so_far all = elim (cases_Bool (has_log_header descriptor_type sequence b)) [
  | inl is ↦ rw is (read_whole n four wide sequence t (tags_of wide b) blocks so_far all.1)
  | inr no_descriptor ↦ elim (cases_Bool (has_log_header revoke_type sequence b)) [
    | inl is ↦ rw (no_descriptor, is) (read_whole n four wide sequence (with_revokes t (revokes_of wide b)) [] blocks so_far all.1)
    | inr no_revoke ↦ elim (cases_Bool (has_log_header commit_type sequence b)) [
      | inl is ↦ rw (no_descriptor, no_revoke, is) (so_far, read_whole n four wide ((sequence + 1) % 2 ^ 32) no_writes [] blocks tt all.1)
      | inr no_commit ↦ rw (no_descriptor, no_revoke, no_commit) tt
    ]
  ]
]

-- ---- what is committed
all_filtered : {A : Type 0} (P : A → Type 0) (p : A → Bool) (xs : List A) → AllByRecursion P xs → AllByRecursion P (filter p xs)
all_filtered P p [] all = tt
all_filtered P p (x ∷ xs) all = elim (cases_Bool (p x)) [
  | inl good ↦ rw good (all.0, all_filtered P p xs all.1)
  | inr bad ↦ rw bad (all_filtered P p xs all.1)
]

all_joined : {A : Type 0} (P : A → Type 0) (xs ys : List A) → AllByRecursion P xs → AllByRecursion P ys → AllByRecursion P (xs ++ ys)
all_joined P [] ys all more = more
all_joined P (x ∷ xs) ys all more = (all.0, all_joined P xs ys all.1 more)

unrevoked_whole : (n : ℕ) (ts : List Transaction) → HaveWhole n ts → AreWhole n (unrevoked ts)
unrevoked_whole n [] all = tt
unrevoked_whole n (t ∷ ts) all =
    let here = filter (λ w. not (is_revoked_by (t ∷ ts) w.block)) t.writes in
    all_joined (λ w. length w.bytes ≡ n) here (unrevoked ts) (all_filtered (λ w. length w.bytes ≡ n) _ t.writes all.0) (unrevoked_whole n ts all.1)

-- ---- the blocks of a log
got : (ns : List ℕ) (k : ℕ) → k < length ns → (n : ℕ) × (slice_get ns k ≡ Some n)
got [] k low = absurd (omega (arith, low))
got (n ∷ ns) zero low = (n, refl)
got (n ∷ ns) (suc k) low = got ns k (omega (arith, low))

-- a journal that can be used has sound bounds
sound_super : (v : Volume) (j : ℕ) → journal_part_fault v j ≡ None → is_sound_journal_super v j ≡ true
unfolding journal_part_fault
sound_super v j none = elim (cases_Bool (is_sound_journal_super v j)) [
  | inl sound ↦ sound
  | inr bad ↦ let e : Some part.Superblock ≡ None = rw (usable_has_extents v j none, bad) at none in cc
]

sound_bounds : (v : Volume) (j : ℕ) → journal_part_fault v j ≡ None → has_sound_bounds (length (journal_blocks v j)) (journal_super v j) ≡ true
unfolding is_sound_journal_super
sound_bounds v j none =
    let super = journal_super v j in
    (and_parts (super.magic == log_magic && super.blocktype == 4 && super.blocksize == block_size v) _ (sound_super v j none)).1

module _ (v : Volume) (j : ℕ) (whole : (b : ℕ) → length (v.at b) ≡ block_size v) where
  block_whole : (k : ℕ) → k < length (journal_blocks v j) → length (journal_block v j k) ≡ block_size v
  block_whole k low = let one = got (journal_blocks v j) k low in ap (λ o. length (option_map_or v.at o [])) one.1 ∙ whole one.0

  all_below : (high : ℕ) (ks : List ℕ) → ((k : ℕ) → Contains ks k → k < high) → high ≤ length (journal_blocks v j) → AreBytes (block_size v) (map (journal_block v j) ks)
  all_below high [] low fits = tt
  all_below high (k ∷ ks) low fits =
      let here : k < high = low k (contains_first k ks) in
      (block_whole k (omega (arith, here, fits)), all_below high ks (λ l is. low l (contains_later k l ks is)) fits)

  -- the log lies within the journal's blocks
  log_whole : journal_part_fault v j ≡ None → AreBytes (block_size v) (log_blocks v j)
  unfolding log_blocks
  log_whole none =
      let super = journal_super v j in
      let bounds = sound_bounds v j none in
      let many = length (journal_blocks v j) in
      let last = and_parts (nat_le super.maxlen many && nat_le 1 super.first && nat_lt super.first super.maxlen) _ bounds in
      let second = and_parts (nat_le super.maxlen many && nat_le 1 super.first) _ last.0 in
      let fits : super.maxlen ≤ many = leb-true _ _ (and_parts (nat_le super.maxlen many) _ second.0).0 in
      let place = last.1 in
      elim (cases_Bool (super.start == 0)) [
        | inl empty ↦ rw empty tt
        | inr begun ↦
            let inside : (nat_le super.first super.start && nat_lt super.start super.maxlen) ≡ true = rw begun at place in
            let low : super.start < super.maxlen = ltb-true _ _ (and_parts (nat_le super.first super.start) _ inside).1 in
            rw begun (all_below super.maxlen (from_to super.start super.maxlen ++ from_to super.first super.start) (λ k is. ⊎_elim
            (λ behind. below_high super.start super.maxlen k behind)
            (λ around. let less = below_high super.first super.start k around in omega (arith, less, low))
            (Contains-append_cases (from_to super.start super.maxlen) (from_to super.first super.start) k is)) fits)
      ]

-- The writes of a slot that a replay applies are of whole blocks.
pub whole_writes : (v : Volume) (s j : ℕ) → slot_journal v s ≡ Some j → journal_part_fault v j ≡ None → ((b : ℕ) → length (v.at b) ≡ block_size v) → 4 ≤ block_size v
    → (w : LoggedBlock) → Contains (committed_writes v s) w → length w.bytes ≡ block_size v
unfolding committed_writes log_of log_in
whole_writes v s j journal none whole four w inside =
    each_of (λ x. length x.bytes ≡ block_size v) (unrevoked (log_in v j)) w
    (unrevoked_whole (block_size v) (log_in v j) (read_whole (block_size v) four (is_wide v j) (journal_super v j).sequence no_writes [] (log_blocks v j) tt (log_whole v j whole none)))
    (subst (λ o. Contains (unrevoked (option_map_or (log_in v) o [])) w) journal inside)
