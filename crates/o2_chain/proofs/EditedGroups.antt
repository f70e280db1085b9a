-- Groups whose bits are changed, one after the other.
use Rattle.std.proofs.Common.{◌≡◌, ◌≢◌, ◌⊎◌, inl, inr, ℕ, zero, suc, ◌+◌, ◌-◌, ◌^◌, ◌<◌, ◌==◌, ◌&&◌, ◌||◌, Bool, true, false, cond, nat_lt, nat_le, List, [], ◌∷◌, ◌++◌, map, filter, length, get_or, take, if◌then◌else◌, refl, sym, ◌∙◌, ap, subst, arith}
use Rattle.std.specs.List.{Contains, AllPairs}
use Rattle.std.proofs.lemmas.Bool.{cases_Bool, false≢true}
use Rattle.std.proofs.lemmas.Bool.Decides.{nat_tests, Decides-eqb}
use Rattle.std.proofs.lemmas.List.Elements.{filter-append, Contains-append_right, Contains-append_cases}
use Rattle.std.proofs.lemmas.List.Folds.{list_any-append}
use Rattle.std.proofs.lemmas.List.{map-append, length-map, length-take-le, get_or-take, get_or-map, get_or_default}
use Rattle.std.proofs.lemmas.List.Sums.{sum_by-cons}
use Rattle.std.proofs.lemmas.Map.Made.{AllPairs-from_IsDistinct}
use Rattle.o2_ondisk.specs.GroupDescs.{group_desc_of}
use Rattle.o2_ondisk.specs.declared.group_desc.GroupDesc.{GroupDesc}
use Rattle.o2_ondisk.specs.Signatures.{group_signature, inode_signature}
use Rattle.o2_model.specs.declared.allocator.Allocator.{Allocator}
use Rattle.o2_model.specs.declared.allocator.Group.{Group as Walked}
use Rattle.o2_model.specs.Words.{among, Apart}
use Rattle.o2_model.specs.Volume.{Volume, is_valid, dinode, over}
use Rattle.o2_model.specs.Groups.{group_desc, is_bit_set_in}
use Rattle.o2_model.specs.Checks.ClusterAllocBit.{cluster_of_bit}
use Rattle.o2_view.specs.Views.{with_block}
use Rattle.o2_view.specs.declared.run.Run.{Run}
use Rattle.o2_chain.specs.Bits.{IsChangedGroup}
use Rattle.o2_chain.specs.Edits.{IsEdited, IsEditedAllocator, IsEditedGroup, AreEditedGroups, shares, shared_bits, shared_by, shared_blocks, edited_blocks, clear_after}
use Rattle.o2_chain.specs.declared.group.Group.{Group}
use Rattle.o2_chain.specs.Walks.{AreGroups, group_in}
use Rattle.o2_chain.proofs.Groups.{groups_met}
use Rattle.o2_view.proofs.HomePlans.{not_first}
use Rattle.o2_view.specs.FreeRuns.{is_of_run}

-- ---- blocks
pub other_block : (b c : ℕ) (bytes : List ℕ) (at : ℕ → List ℕ) → b ≢ c → with_block b bytes at c ≡ at c
other_block b c bytes at apart = let test : (b == c) ≡ false = grind (arith, nat_tests) in rw test refl

pub same_block : (b : ℕ) (bytes : List ℕ) (at : ℕ → List ℕ) → with_block b bytes at b ≡ bytes
same_block b bytes at = let test : (b == b) ≡ true = grind (arith, nat_tests) in rw test refl

-- a block of none of the groups is none of those of some of them
pub among_none : (p : Walked → Bool) (gs : List Walked) (b : ℕ) → ((x : Walked) → Contains gs x → x.block ≢ b) → among (map (λ g. g.block) (filter p gs)) b ≡ false
among_none p [] b apart = refl
among_none p (x ∷ xs) b apart =
    let rest = among_none p xs b (λ y is. apart y (Contains-append_right (x ∷ []) xs y is)) in
    let first : x.block ≢ b = apart x (0, omega arith, refl) in
    let test : (b == x.block) ≡ false = grind (arith, nat_tests) in
    elim (cases_Bool (p x)) [
      | inl some ↦ rw (some, test) rest
      | inr none ↦ rw none rest
    ]

first_false : (x y : Bool) → (x || y) ≡ false → x ≡ false
first_false true y h = h
first_false false y h = refl

second_false : (x y : Bool) → (x || y) ≡ false → y ≡ false
second_false true y h = absurd (false≢true (sym h))
second_false false y h = h

module _ (v : Volume) (run : Run) (gs : List Walked) (g : Walked) where
  blocks_push : shared_blocks v run (gs ++ g ∷ []) ≡ shared_blocks v run gs ++ map (λ x. x.block) (filter (shares v run) (g ∷ []))
  blocks_push = ap (map (λ (x : Walked). x.block)) (filter-append (shares v run) gs (g ∷ [])) ∙ map-append (λ (x : Walked). x.block) (filter (shares v run) gs) (filter (shares v run) (g ∷ []))

  among_push : (b : ℕ) → among (shared_blocks v run (gs ++ g ∷ [])) b ≡ (among (shared_blocks v run gs) b || among (map (λ x. x.block) (filter (shares v run) (g ∷ []))) b)
  among_push b = ap (λ bs. among bs b) blocks_push ∙ list_any-append (λ m. b == m) (shared_blocks v run gs) (map (λ x. x.block) (filter (shares v run) (g ∷ [])))

  -- a block of none of them is none of the first ones'
  pub none_before : (b : ℕ) → among (shared_blocks v run (gs ++ g ∷ [])) b ≡ false → among (shared_blocks v run gs) b ≡ false
  none_before b none = first_false _ _ (sym (among_push b) ∙ none)

  -- nor the last one's
  pub none_last : (b : ℕ) → among (shared_blocks v run (gs ++ g ∷ [])) b ≡ false → shares v run g ≡ true → among (g.block ∷ []) b ≡ false
  none_last b none share = ap (λ t. among (map (λ (x : Walked). x.block) (cond t (g ∷ []) [])) b) (sym share) ∙ second_false _ _ (sym (among_push b) ∙ none)

-- ---- groups
last_is : (g x : Walked) → Contains (g ∷ []) x → g ≡ x
last_is g x (zero, low, same) = same
last_is g x (suc k, low, same) = absurd (omega (arith, low))

pub same_group : (v w new : Volume) (set : Bool) (run : Run) (g : Walked) → new.at g.block ≡ w.at g.block → IsEditedGroup v w set run g → IsEditedGroup v new set run g
same_group v w new set run g same h = record {
  fields = ap group_desc_of same ∙ h.fields;
  bits = λ k. ap (λ bytes. is_bit_set_in 0x40 bytes k) same ∙ h.bits k;
  others = λ i out low. ap (λ bytes. get_or bytes i 0) same ∙ h.others i out low;
  size = ap length same ∙ h.size;
}

module _ (v w : Volume) (set : Bool) (run : Run) (gs : List Walked) (g : Walked) (so_far : AreEditedGroups v w set run gs) where
  -- a group that shares nothing
  pub edited_none : shares v run g ≡ false → AreEditedGroups v w set run (gs ++ g ∷ [])
  edited_none none = record {
    numbers = so_far.numbers;
    device = so_far.device;
    group = λ x is share. elim (Contains-append_cases gs (g ∷ []) x is) [
      | inl before ↦ so_far.group x before share
      | inr last ↦ absurd (false≢true (sym none ∙ (ap (shares v run) (last_is g x last) ∙ share)))
    ];
    others = λ b out. so_far.others b (none_before v run gs g b out);
  }

  -- a group that does
  pub edited_more : (bytes : List ℕ) (first end : ℕ) → shares v run g ≡ true → ((x : Walked) → Contains gs x → x.block ≢ g.block) → IsChangedGroup (w.at g.block) bytes first end set
      → ((k : ℕ) → (nat_lt k g.bits && is_of_run (cluster_of_bit v g k) run) ≡ (nat_le first k && nat_lt k end)) → shared_bits v run g ≡ end - first
      → AreEditedGroups v (over w (with_block g.block bytes w.at)) set run (gs ++ g ∷ [])
  edited_more bytes first end share apart changed each count =
      let new : Volume = over w (with_block g.block bytes w.at) in
      let was : w.at g.block ≡ v.at g.block = so_far.others g.block (among_none (shares v run) gs g.block apart) in
      let now : new.at g.block ≡ bytes = same_block g.block bytes w.at in
      let with_count = λ (d : GroupDesc) (n : ℕ). let x : GroupDesc = record d { free_bits_count = clear_after (2 ^ 16) set d.free_bits_count n } in x in
      let here : IsEditedGroup v new set run g = record {
        fields = ap group_desc_of now ∙ (changed.fields ∙ (ap (λ bs. with_count (group_desc_of bs) (end - first)) was ∙ ap (with_count (group_desc_of (v.at g.block))) (sym count)));
        bits = λ k. ap (λ bs. is_bit_set_in 0x40 bs k) now
            ∙ (changed.bits k
            ∙ (ap (λ t. if t then set else is_bit_set_in 0x40 (w.at g.block) k) (sym (each k)) ∙ ap (λ bs. if nat_lt k g.bits && is_of_run (cluster_of_bit v g k) run then set else is_bit_set_in 0x40 bs k) was));
        others = λ i out low. ap (λ bs. get_or bs i 0) now ∙ (changed.others i out low ∙ ap (λ bs. get_or bs i 0) was);
        size = ap length now ∙ (changed.size ∙ ap length was);
      } in
      record {
        numbers = so_far.numbers;
        device = so_far.device;
        group = λ x is sharing. elim (Contains-append_cases gs (g ∷ []) x is) [
          | inl before ↦ same_group v w new set run x (other_block g.block x.block bytes w.at (λ e. apart x before (sym e))) (so_far.group x before sharing)
          | inr last ↦ subst (IsEditedGroup v new set run) (last_is g x last) here
        ];
        others = λ b out. other_block g.block b bytes w.at (not_first b g.block [] (none_last v run gs g b out share)) ∙ so_far.others b (none_before v run gs g b out);
      }

-- ---- the groups of a walk
-- their blocks are all different
blocks_differ : (n : ℕ) (groups : List Group) → Apart n (map (λ g. g.block) groups) → (i j : ℕ) (d : Group) → i < j → j < length groups → (get_or groups i d).block ≢ (get_or groups j d).block
blocks_differ n groups apart i j d before low =
    let pairs : AllPairs (λ x y. x ≢ y) (0 ∷ map (λ (g : Group). g.block) groups) = AllPairs-from_IsDistinct Decides-eqb (0 ∷ map (λ (g : Group). g.block) groups) apart.distinct in
    let at = λ (k : ℕ) (h : k < length groups). get_or-map (λ (g : Group). g.block) groups k d 0 h in
    λ same. pairs (suc i) (suc j) 0 (omega (arith, before)) (omega (arith, low, length-map groups (λ (g : Group). g.block))) (at i (omega (arith, before, low)) ∙ (same ∙ sym (at j low)))

pub taken_differ : (n : ℕ) (a : Allocator) (groups : List Group) (i : ℕ) (d : Group) → Apart n (map (λ g. g.block) groups) → i < length groups
    → (x : Walked) → Contains (map (group_in a) (take i groups)) x → x.block ≢ (get_or groups i d).block
taken_differ n a groups i d apart low x (k, under, same) =
    let count : length (map (group_in a) (take i groups)) ≡ i = length-map (take i groups) (group_in a) ∙ length-take-le i groups (omega (arith, low)) in
    let first : k < i = omega (arith, under, count) in
    let is : group_in a (get_or groups k d) ≡ x = ap (group_in a) (sym (get_or-take i groups k d first)) ∙ (sym (get_or-map (group_in a) (take i groups) k d x (omega (arith, under, length-map (take i groups) (group_in a)))) ∙ same) in
    λ equal. blocks_differ n groups apart k i d first low (ap (λ (y : Walked). y.block) is ∙ equal)

-- ---- tests of counts
pub some_shared : (n : ℕ) → 0 < n → nat_lt 0 n ≡ true
some_shared n some = grind (arith, nat_tests)

pub none_shared : (n : ℕ) → n ≡ 0 → nat_lt 0 n ≡ false
none_shared n none = grind (arith, nat_tests)

-- ---- the dinode
-- a valid dinode is in none of the groups' blocks
signature_of_valid : (v : Volume) (b : ℕ) → is_valid v b ≡ true → (dinode v b).signature.0 ≡ inode_signature
unfolding is_valid
signature_of_valid v b valid = grind (arith, nat_tests)

pub apart_from_dinode : (v : Volume) (a : Allocator) (groups : List Group) (b : ℕ) → AreGroups v a [] groups → is_valid v b ≡ true → (x : Walked) → Contains (map (group_in a) groups) x → x.block ≢ b
apart_from_dinode v a groups b are valid x (k, low, same) =
    let d : Group = record { chain = 0; block = 0; bits = 0 } in
    let within : k < length groups = omega (arith, low, length-map groups (group_in a)) in
    let y = get_or groups k d in
    let is : group_in a y ≡ x = sym (get_or-map (group_in a) groups k d x within) ∙ same in
    let met = groups_met v a [] groups are y (k, within, get_or_default groups k y d within) in
    λ equal.
    let at : y.block ≡ b = ap (λ (z : Walked). z.block) is ∙ equal in
    let signature : group_signature ≡ inode_signature = sym met.signature ∙ (ap (λ n. (group_desc v n).signature.0) at ∙ signature_of_valid v b valid) in
    omega (arith, signature)

cases_zero : (n : ℕ) → (n ≡ 0) ⊎ (0 < n)
cases_zero zero = inl refl
cases_zero (suc n) = inr (omega arith)

-- where groups share nothing, none of their blocks changes
none_blocks : (v : Volume) (run : Run) (gs : List Walked) → shared_by v run gs ≡ 0 → shared_blocks v run gs ≡ []
none_blocks v run [] none = refl
none_blocks v run (g ∷ gs) none =
    let both : shared_by v run (g ∷ gs) ≡ shared_bits v run g + shared_by v run gs = sum_by-cons (shared_bits v run) g gs in
    let share : shares v run g ≡ false = none_shared (shared_bits v run g) (omega (arith, both, none)) in
    rw share (none_blocks v run gs (omega (arith, both, none)))

module _ (v : Volume) (run : Run) (a : Allocator) (gs : List Walked) where
  some_changed : 0 < shared_by v run gs → edited_blocks v run a gs ≡ a.block ∷ shared_blocks v run gs
  some_changed some = ap (λ t. if t then a.block ∷ shared_blocks v run gs else []) (some_shared (shared_by v run gs) some)

  none_changed : shared_by v run gs ≡ 0 → edited_blocks v run a gs ≡ []
  none_changed none = ap (λ t. if t then a.block ∷ shared_blocks v run gs else []) (none_shared (shared_by v run gs) none)

  -- a block that does not change is none of the groups'
  pub unchanged_group : (b : ℕ) → among (edited_blocks v run a gs) b ≡ false → among (shared_blocks v run gs) b ≡ false
  unchanged_group b out = elim (cases_zero (shared_by v run gs)) [
    | inl none ↦ ap (λ bs. among bs b) (none_blocks v run gs none)
    | inr some ↦ second_false (b == a.block) (among (shared_blocks v run gs) b) (sym (ap (λ bs. among bs b) (some_changed some)) ∙ out)
  ]

  -- nor the dinode's, where it changes
  pub unchanged_dinode : 0 < shared_by v run gs → (b : ℕ) → among (edited_blocks v run a gs) b ≡ false → among (a.block ∷ []) b ≡ false
  unchanged_dinode some b out = ap (λ t. t || false) (first_false (b == a.block) (among (shared_blocks v run gs) b) (sym (ap (λ bs. among bs b) (some_changed some)) ∙ out))

module _ (v w : Volume) (set : Bool) (run : Run) (a : Allocator) (gs : List Walked) (edited : AreEditedGroups v w set run gs) (apart : (x : Walked) → Contains gs x → x.block ≢ a.block) where
  -- the groups, and then the dinode
  pub all_edited : (bytes : List ℕ) → 0 < shared_by v run gs → IsEditedAllocator v (over w (with_block a.block bytes w.at)) set run a gs → IsEdited v (over w (with_block a.block bytes w.at)) set run a gs
  all_edited bytes some allocator = record {
    numbers = edited.numbers;
    device = edited.device;
    group = λ x is share. same_group v w (over w (with_block a.block bytes w.at)) set run x (other_block a.block x.block bytes w.at (λ e. apart x is (sym e))) (edited.group x is share);
    allocator = λ _. allocator;
    others = λ b out. other_block a.block b bytes w.at (not_first b a.block [] (unchanged_dinode v run a gs some b out)) ∙ edited.others b (unchanged_group v run a gs b out);
  }

  -- nothing is shared
  pub none_edited : shared_by v run gs ≡ 0 → IsEdited v w set run a gs
  none_edited none = record {
    numbers = edited.numbers;
    device = edited.device;
    group = edited.group;
    allocator = λ some. absurd (omega (arith, some, none));
    others = λ b out. edited.others b (unchanged_group v run a gs b out);
  }
