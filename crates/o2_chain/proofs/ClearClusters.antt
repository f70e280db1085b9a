-- The clear bits of a group, as clusters.
use Rattle.std.proofs.Common.{◌≡◌, ℕ, zero, suc, ◌+◌, ◌-◌, ◌*◌, Bool, true, false, ◌&&◌, ◌||◌, inl, inr, List, [], ◌∷◌, ◌++◌, map, refl, sym, ◌∙◌, ap, arith, add-zero, zero-add}
use Rattle.std.specs.Prelude.{◌==◌, not, nat_le, nat_lt}
use Rattle.std.specs.List.{range_with_len, list_any}
use Rattle.std.specs.List.Sorted.{IsPermutation}
use Rattle.std.proofs.lemmas.Bool.{cases_Bool}
use Rattle.std.proofs.lemmas.Bool.Decides.{nat_tests}
use Rattle.std.proofs.lemmas.List.Sorted.{list_any-IsPermutation, IsPermutation-map}
use Rattle.o2_model.specs.declared.allocator.Allocator.{Allocator}
use Rattle.o2_model.specs.Volume.{Volume}
use Rattle.o2_model.specs.ClusterGroups.{group_size, group_index}
use Rattle.o2_model.specs.Groups.{is_bit_set, is_bit_set_in}
use Rattle.o2_model.specs.declared.geo.Geo.{Geo}
use Rattle.o2_view.specs.declared.run.Run.{Run}
use Rattle.o2_chain.specs.FreeGroups.{first_cluster}
use Rattle.o2_view.specs.FreeRuns.{is_of_runs}
use Rattle.o2_chain.specs.FreeRuns.{is_clear_in, is_free}
use Rattle.o2_view.specs.RunLists.{is_gained, Gains}
use Rattle.o2_chain.specs.Walks.{group_in}
use Rattle.o2_chain.specs.declared.group.Group.{Group}

-- the bits from `from` on, where bit k stands for cluster `first + k`
bits_from : (free : ℕ → Bool) (first from bits c : ℕ)
    → (nat_le (first + from) c && nat_lt c (first + (from + bits)) && free (c - first)) ≡ list_any (λ k. first + k == c && free k) (range_with_len from bits)
bits_from free first from zero c = grind (arith, nat_tests)
bits_from free first from (suc bits) c = elim (cases_Bool (first + from == c)) [
  | inl here ↦
      let place : c - first ≡ from = grind (arith, nat_tests, here) in
      let same : free (c - first) ≡ free from = ap free place in
      let later = bits_from free first (from + 1) bits c in
      grind (arith, nat_tests, here, same, later)
  | inr other ↦
      let later = bits_from free first (from + 1) bits c in
      grind (arith, nat_tests, other, later)
]

all_bits : (free : ℕ → Bool) (first bits c : ℕ) → is_gained free first bits c ≡ list_any (λ k. first + k == c && free k) (range_with_len 0 bits)
all_bits free first bits c = simp (add-zero, zero-add) at (bits_from free first 0 bits c)

module _ (v : Volume) (geo : Geo) (same : v.geo ≡ geo) (a : Allocator) where
  -- what the bytes of a group's block gain are the clusters that the group says are free
  clear_in : (g : Group) (bytes : List ℕ) (c : ℕ) → bytes ≡ v.at g.block → is_gained (λ k. not (is_bit_set_in 0x40 bytes k)) (first_cluster geo g.block) g.bits c ≡ is_clear_in v c (group_in a g)
  clear_in g bytes c is = rw (is, sym same) (all_bits (λ k. not (is_bit_set v g.block k)) (group_index v g.block * group_size v) g.bits c)

  one_more : (gs : List Group) (g : Group) (c : ℕ) → is_free v (map (group_in a) (gs ++ g ∷ [])) c ≡ (is_free v (map (group_in a) gs) c || is_clear_in v c (group_in a g))
  one_more [] g c = or_false (is_clear_in v c (group_in a g))
    where
      or_false : (x : Bool) → (x || false) ≡ x
      or_false true = refl
      or_false false = refl
  one_more (h ∷ gs) g c = ap (λ b. is_clear_in v c (group_in a h) || b) (one_more gs g c) ∙ or_assoc (is_clear_in v c (group_in a h)) _ _
    where
      or_assoc : (x y z : Bool) → (x || (y || z)) ≡ ((x || y) || z)
      or_assoc true y z = refl
      or_assoc false y z = refl

  -- the runs of some groups' free clusters, and one group more
  pub free_more : (gs : List Group) (g : Group) (bytes : List ℕ) (first : ℕ) (old new : List Run) → bytes ≡ v.at g.block → first ≡ first_cluster geo g.block
      → Gains (λ k. not (is_bit_set_in 0x40 bytes k)) first g.bits old new
      → ((c : ℕ) → is_of_runs old c ≡ is_free v (map (group_in a) gs) c) → (c : ℕ) → is_of_runs new c ≡ is_free v (map (group_in a) (gs ++ g ∷ [])) c
  free_more gs g bytes first old new is at gained before c =
      gained.clusters c
      ∙ (ap (λ b. b || is_gained (λ k. not (is_bit_set_in 0x40 bytes k)) first g.bits c) (before c)
      ∙ (ap (λ n. is_free v (map (group_in a) gs) c || is_gained (λ k. not (is_bit_set_in 0x40 bytes k)) n g.bits c) at
      ∙ (ap (λ b. is_free v (map (group_in a) gs) c || b) (clear_in g bytes c is)
      ∙ sym (one_more gs g c))))

-- the order of the groups does not count
pub free_in_order : (v : Volume) (a : Allocator) (gs sorted : List Group) (c : ℕ) → IsPermutation gs sorted → is_free v (map (group_in a) sorted) c ≡ is_free v (map (group_in a) gs) c
free_in_order v a gs sorted c same = sym (list_any-IsPermutation (is_clear_in v c) (map (group_in a) gs) (map (group_in a) sorted) (IsPermutation-map (group_in a) gs sorted same))
