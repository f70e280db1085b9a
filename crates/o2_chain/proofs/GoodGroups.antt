-- What makes a block a good group, in the order in which it is judged.
use Rattle.std.proofs.Common.{◌≡◌, inl, inr, ℕ, zero, suc, ◌+◌, ◌/◌, ◌%◌, ◌<◌, ◌≤◌, Bool, true, false, ◌&&◌, ◌||◌, eqb, List, map, refl, sym, ◌∙◌, ap, arith}
use Rattle.std.specs.Prelude.{not, if◌then◌else◌}
use Rattle.std.specs.List.{range_with_len, list_any, list_all}
use Rattle.std.proofs.Math.Bool.{and-true}
use Rattle.std.proofs.lemmas.Bool.{cases_Bool, cases_lt, false≢true}
use Rattle.std.proofs.lemmas.Bool.Decides.{nat_tests}
use Rattle.std.proofs.lemmas.List.{map-append}
use Rattle.std.proofs.lemmas.List.Folds.{list_any-append}
use Rattle.o2_model.specs.declared.allocator.Allocator.{Allocator}
use Rattle.o2_model.specs.declared.allocator.Group.{Group as Group-walked}
use Rattle.o2_model.specs.Words.{among}
use Rattle.o2_model.specs.Volume.{Volume, per_cluster, blocks, is_in_range}
use Rattle.o2_model.specs.Clusters.{cluster_of}
use Rattle.o2_model.specs.Allocators.{are_clusters}
use Rattle.o2_model.specs.Groups.{GroupWalk, group_desc, group_clusters, holds_cluster, is_fixed, is_bitmap_group, is_block_group, is_good_group}
use Rattle.o2_view.specs.Plans.{is_in_runs}
use Rattle.o2_view.specs.declared.run.Run.{Run}
use Rattle.o2_chain.specs.Walks.{walked_before, group_in}
use Rattle.o2_chain.specs.Readings.{Keeps, is_descriptor}
use Rattle.o2_chain.specs.declared.group.Group.{Group}
use Rattle.o2_chain.specs.declared.walked.Walked.{Walked}
use Rattle.o2_chain.proofs.Groups.{blocks_out}
use Rattle.o2_chain.proofs.Walking.{both}

-- ---- clusters in a row
pub all_in_row : (p : ℕ → Bool) (from count : ℕ) → ((c : ℕ) → from ≤ c → c < from + count → p c ≡ true) → list_all p (range_with_len from count) ≡ true
all_in_row p from zero each = refl
all_in_row p from (suc count) each =
    both (p from) _ (each from (omega arith) (omega arith)) (all_in_row p (from + 1) count (λ c low high. each c (omega (arith, low)) (omega (arith, high))))

pub not_all_in_row : (p : ℕ → Bool) (from count c : ℕ) → from ≤ c → c < from + count → p c ≡ false → list_all p (range_with_len from count) ≡ false
not_all_in_row p from zero c low high bad = absurd (omega (arith, low, high))
not_all_in_row p from (suc count) c low high bad = elim (cases_lt from c) [
  | inl later ↦ and_none (p from) _ (not_all_in_row p (from + 1) count c (omega (arith, later)) (omega (arith, high)) bad)
  | inr same ↦ let is : from ≡ c = omega (arith, same, low) in rw (is, bad) refl
]
  where
    and_none : (x y : Bool) → y ≡ false → (x && y) ≡ false
    and_none true y h = h
    and_none false y h = refl

-- ---- a good group, by its parts
module _ (v : Volume) (a : Allocator) (walked : List Group-walked) (b : ℕ) where
  pub out_of_range : is_in_range v b ≡ false → is_good_group v a walked b ≡ false
  unfolding is_good_group
  out_of_range out = rw out refl

  pub good_by : is_in_range v b ≡ true → among (map (λ g. g.block) walked) b ≡ false
      → is_good_group v a walked b ≡ (is_descriptor v a b && (if are_clusters a.bit_use then is_bitmap_group v b else is_block_group v walked b))
  unfolding is_good_group
  good_by inside new = rw (inside, new) (and-true (is_descriptor v a b && (if are_clusters a.bit_use then is_bitmap_group v b else is_block_group v walked b)))

-- a block that was walked is no good group
last_fails : (x y : Bool) → y ≡ true → (x && not y) ≡ false
last_fails true true h = refl
last_fails false true h = refl
last_fails x false h = absurd (false≢true h)

not_new : (v : Volume) (a : Allocator) (walked : List Group-walked) (b : ℕ) → among (map (λ g. g.block) walked) b ≡ true → is_good_group v a walked b ≡ false
unfolding is_good_group
not_new v a walked b old = last_fails _ (among (map (λ g. g.block) walked) b) old

-- ---- blocks that the reader knows
module _ (v : Volume) (a : Allocator) (before : List Run) (walked : Walked) (w : GroupWalk) (h : Keeps v a before walked w) (b : ℕ) where
  -- which blocks were walked
  walked_blocks : among (map (λ g. g.block) w.groups) b ≡ (is_in_runs walked.starts b || among (map (λ (g : Group). g.block) walked.groups.items) b)
  walked_blocks =
      ap (λ gs. among (map (λ (g : Group-walked). g.block) gs) b) h.groups
      ∙ (ap (λ bs. among bs b) (map-append (λ (g : Group-walked). g.block) (walked_before v before) (map (group_in a) walked.groups.items))
      ∙ (list_any-append (eqb b) (map (λ (g : Group-walked). g.block) (walked_before v before)) (map (λ (g : Group-walked). g.block) (map (group_in a) walked.groups.items))
      ∙ either (sym (h.starts b)) (ap (λ bs. among bs b) (blocks_out a walked.groups.items))))
    where
      either : {x y p q : Bool} → x ≡ p → y ≡ q → (x || y) ≡ (p || q)
      either e f = cc

  pub unseen_new : is_in_runs walked.seen b ≡ false → is_in_runs walked.starts b ≡ false → among (map (λ g. g.block) w.groups) b ≡ false
  unseen_new unseen apart = elim (cases_Bool (among (map (λ (g : Group). g.block) walked.groups.items) b)) [
    | inl met ↦ absurd (false≢true (sym unseen ∙ h.met b met))
    | inr unmet ↦ walked_blocks ∙ rw (apart, unmet) refl
  ]

  pub start_bad : is_in_runs walked.starts b ≡ true → is_good_group v a w.groups b ≡ false
  start_bad start = not_new v a w.groups b (walked_blocks ∙ rw start refl)

-- ---- a group of blocks, by its clusters
module _ (v : Volume) (b bits : ℕ) (walked : List Group-walked) (bits_are : (group_desc v b).bits ≡ bits) where
  pub uneven : (b % per_cluster v ≡ 0 → bits % per_cluster v ≡ 0 → 2 ≤ bits → ⊥) → is_block_group v walked b ≡ false
  uneven bad = elim (cases_Bool (is_block_group v walked b)) [
    | inr no_group ↦ no_group
    | inl good ↦ absurd (bad (grind (arith, nat_tests, good)) (grind (arith, nat_tests, good, bits_are)) (grind (arith, nat_tests, good, bits_are)))
  ]

  pub too_far : blocks v < b + bits → is_block_group v walked b ≡ false
  too_far far = elim (cases_Bool (is_block_group v walked b)) [
    | inr no_group ↦ no_group
    | inl good ↦ absurd (let near : b + bits ≤ blocks v = grind (arith, nat_tests, good, bits_are) in omega (arith, near, far))
  ]

  module _ (whole : b % per_cluster v ≡ 0) (whole_bits : bits % per_cluster v ≡ 0) (some : 2 ≤ bits) (near : b + bits ≤ blocks v) where
    pub free_row : ((c : ℕ) → cluster_of v b ≤ c → c < cluster_of v b + bits / per_cluster v → is_fixed v c ≡ false) → ((c : ℕ) → cluster_of v b ≤ c → c < cluster_of v b + bits / per_cluster v → list_any (holds_cluster v c) walked ≡ false)
        → is_block_group v walked b ≡ true
    free_row fixed held =
        let all : list_all (λ c. not (is_fixed v c) && not (list_any (holds_cluster v c) walked)) (group_clusters v b (group_desc v b).bits) ≡ true =
        rw bits_are (all_in_row _ (cluster_of v b) (bits / per_cluster v) (λ c low high. both (not (is_fixed v c)) (not (list_any (holds_cluster v c) walked)) (ap not (fixed c low high)) (ap not (held c low high))))
        in
        grind (arith, nat_tests, all, whole, whole_bits, some, near, bits_are)

    pub taken_cluster : (c : ℕ) → cluster_of v b ≤ c → c < cluster_of v b + bits / per_cluster v → (not (is_fixed v c) && not (list_any (holds_cluster v c) walked)) ≡ false → is_block_group v walked b ≡ false
    taken_cluster c low high taken =
        let none : list_all (λ c. not (is_fixed v c) && not (list_any (holds_cluster v c) walked)) (group_clusters v b (group_desc v b).bits) ≡ false =
        rw bits_are (not_all_in_row (λ c. not (is_fixed v c) && not (list_any (holds_cluster v c) walked)) (cluster_of v b) (bits / per_cluster v) c low high taken)
        in
        grind (arith, nat_tests, none)
