-- No block stands for bits of two groups that the walk reaches.
use Rattle.std.proofs.Common.{◌≡◌, inl, inr, ℕ, zero, suc, ◌+◌, ◌-◌, ◌*◌, ◌/◌, ◌%◌, ◌<◌, ◌≤◌, Bool, true, false, ◌&&◌, not, eqb, List, [], ◌∷◌, refl, sym, ◌∙◌, ap, subst, arith}
use Rattle.std.specs.List.{AllByRecursion, range_with_len, list_any, list_all}
use Rattle.std.proofs.Math.Nat.{div-add-mod, div-mul-le_self, div-lt_iff_lt-mul, add-mul, mul_comm}
use Rattle.std.proofs.Math.Pow.{pow_mono}
use Rattle.std.proofs.lemmas.Nat.{le-div}
use Rattle.std.proofs.lemmas.Bool.{cases_Bool, and_parts, or_left, or_right, or_parts, not-true, false≢true}
use Rattle.std.proofs.lemmas.Bool.Decides.{nat_tests}
use Rattle.o2_model.specs.declared.allocator.Allocator.{Allocator}
use Rattle.o2_model.specs.declared.allocator.Group.{Group}
use Rattle.o2_model.specs.Words.{among, push}
use Rattle.o2_model.specs.Volume.{Volume, per_cluster}
use Rattle.o2_model.specs.Clusters.{cluster_of}
use Rattle.o2_model.specs.Groups.{group_desc, holds_cluster, is_fixed, is_of_clusters, is_good_group, groups}
use Rattle.o2_judges_alloc.specs.ApartGroups.{holds_block, AreApart}
use Rattle.o2_judges_alloc.proofs.GoodGroups.{IsGoodGroup, groups_by, good_more, is_of_blocks}

-- ---- numbers in a row
in_row : (from count c : ℕ) → from ≤ c → c < from + count → among (range_with_len from count) c ≡ true
in_row from zero c low high = absurd (omega (arith, low, high))
in_row from (suc count) c low high = elim (cases_Bool (eqb c from)) [
  | inl same ↦ or_left (eqb c from) _ same
  | inr other ↦
      let later : from + 1 ≤ c = behind from c low other in
      or_right (eqb c from) _ (in_row (from + 1) count c later (omega (arith, high)))
]
  where
    behind : (from c : ℕ) → from ≤ c → eqb c from ≡ false → from + 1 ≤ c
    behind from c low other = grind (arith, nat_tests)

each_in_row : (p : ℕ → Bool) (from count c : ℕ) → list_all p (range_with_len from count) ≡ true → from ≤ c → c < from + count → p c ≡ true
each_in_row p from zero c all low high = absurd (omega (arith, low, high))
each_in_row p from (suc count) c all low high = elim (cases_Bool (eqb c from)) [
  | inl same ↦ let is : from ≡ c = first from c same in subst (λ n. p n ≡ true) is (and_parts (p from) _ all).0
  | inr other ↦ each_in_row p (from + 1) count c (and_parts (p from) _ all).1 (later from c low other) (omega (arith, high))
]
  where
    first : (from c : ℕ) → eqb c from ≡ true → from ≡ c
    first from c same = grind (arith, nat_tests)

    later : (from c : ℕ) → from ≤ c → eqb c from ≡ false → from + 1 ≤ c
    later from c low other = grind (arith, nat_tests)

-- ---- the cluster of a block of the group is one of the group's
module _ (v : Volume) where
  some_per_cluster : 0 < per_cluster v
  some_per_cluster = pow_mono {i = 0} {j = v.geo.cluster_bits - v.geo.block_bits} (omega arith)

  from_first : (g b : ℕ) → g ≤ b → cluster_of v g ≤ cluster_of v b
  from_first g b low = le-div (g / per_cluster v) b (per_cluster v) some_per_cluster (omega (arith, div-mul-le_self g (per_cluster v), low))

  -- the end of whole clusters is where they end
  up_to_last : (g bits b : ℕ) → g % per_cluster v ≡ 0 → bits % per_cluster v ≡ 0 → b < g + bits → cluster_of v b < cluster_of v g + bits / per_cluster v
  up_to_last g bits b first whole high =
      (div-lt_iff_lt-mul some_per_cluster).1 (ends (cluster_of v g) (bits / per_cluster v) (per_cluster v) (div-add-mod g (per_cluster v)) (div-add-mod bits (per_cluster v)))
    where
      ends : (c count p : ℕ) → p * c + g % per_cluster v ≡ g → p * count + bits % per_cluster v ≡ bits → b < (c + count) * p
      ends c count p start size = omega (arith, add-mul c count p, mul_comm c p, mul_comm count p, start, size, first, whole, high)

  -- A block of a group of whole clusters is in one of its clusters.
  record IsWhole (g : Group) : Type 0 where
    first : g.block % per_cluster v ≡ 0
    whole : g.bits % per_cluster v ≡ 0

  whole_group : (g : Group) → IsGoodGroup v g → is_of_clusters g ≡ false → IsWhole g
  whole_group g is other =
      let blocks = is_of_blocks v g is other in
      record {
        first = grind (arith, nat_tests, blocks);
        whole = rw is.bits (grind (arith, nat_tests, blocks));
      }

  held : (g : Group) (b : ℕ) → IsGoodGroup v g → holds_block b g ≡ true → holds_cluster v (cluster_of v b) g ≡ true
  held g b is has =
      let other : is_of_clusters g ≡ false = not-true _ (and_parts _ _ (and_parts _ _ has).0).0 in
      let low : g.block ≤ b = grind (arith, nat_tests, has) in
      let high : b < g.block + g.bits = grind (arith, nat_tests, has) in
      let group = whole_group g is other in
      rw other (in_row (cluster_of v g.block) (g.bits / per_cluster v) (cluster_of v b) (from_first g.block b low) (up_to_last g.block g.bits b group.first group.whole high))

  -- ---- a good group has no block of those before it
  none_held : (c : ℕ) (gs : List Group) (b : ℕ) → list_any (holds_cluster v c) gs ≡ false → AllByRecursion (IsGoodGroup v) gs → c ≡ cluster_of v b
      → AllByRecursion (λ x. holds_block b x ≡ false) gs
  none_held c [] b none all is = tt
  none_held c (x ∷ xs) b none all is =
      let parts = or_parts (holds_cluster v c x) _ none in (
        elim (cases_Bool (holds_block b x)) [
          | inr not_here ↦ not_here
          | inl here ↦ absurd (false≢true (sym parts.0 ∙ (ap (λ n. holds_cluster v n x) is ∙ held x b all.0 here)))
        ],
        none_held c xs b parts.1 all.1 is,
      )

  new_held : (a : Allocator) (chain b d : ℕ) (gs : List Group) → AllByRecursion (IsGoodGroup v) gs → is_good_group v a gs b ≡ true
      → holds_block d (record { of = a; chain = chain; block = b; bits = (group_desc v b).bits }) ≡ true → AllByRecursion (λ x. holds_block d x ≡ false) gs
  new_held a chain b d gs all good has =
      let g : Group = record { of = a; chain = chain; block = b; bits = (group_desc v b).bits } in
      let is : IsGoodGroup v g = record { walked = gs; good = good; bits = refl } in
      let other : is_of_clusters g ≡ false = not-true _ (and_parts _ _ (and_parts _ _ has).0).0 in
      let low : b ≤ d = grind (arith, nat_tests, has) in
      let high : d < b + g.bits = grind (arith, nat_tests, has) in
      let group = whole_group g is other in
      let each = (and_parts _ _ (is_of_blocks v g is other)).1 in
      let free = each_in_row (λ c. not (is_fixed v c) && not (list_any (holds_cluster v c) gs)) (cluster_of v b) (g.bits / per_cluster v) (cluster_of v d) each (from_first b d low) (up_to_last b g.bits d group.first group.whole high) in
      none_held (cluster_of v d) gs d (not-true _ (and_parts _ _ free).1) all refl

-- ---- one group more
any_push : {A : Type 0} (p : A → Bool) (xs : List A) (x : A) → list_any p xs ≡ false → p x ≡ false → list_any p (push xs x) ≡ false
any_push p [] x none last = rw last refl
any_push p (y ∷ ys) x none last = let parts = or_parts (p y) _ none in rw parts.0 (any_push p ys x parts.1 last)

apart_push : (gs : List Group) (g : Group) → AreApart gs → ((d : ℕ) → holds_block d g ≡ true → AllByRecursion (λ x. holds_block d x ≡ false) gs) → AreApart (push gs g)
apart_push [] g apart new = (λ d is. refl, tt)
apart_push (x ∷ xs) g apart new = (
  λ d is. elim (cases_Bool (holds_block d g)) [
    | inl also ↦ absurd (false≢true (sym (new d also).0 ∙ is))
    | inr not_here ↦ any_push (holds_block d) xs g (apart.0 d is) not_here
  ],
  apart_push xs g apart.1 (λ d is. (new d is).1),
)

-- The groups are good, and apart.
record AreGoodAndApart (v : Volume) (gs : List Group) : Type 0 where
  good : AllByRecursion (IsGoodGroup v) gs
  apart : AreApart gs

apart_more : (v : Volume) (a : Allocator) (chain b : ℕ) (gs : List Group) → AreGoodAndApart v gs → is_good_group v a gs b ≡ true
    → AreGoodAndApart v (push gs (record { of = a; chain = chain; block = b; bits = (group_desc v b).bits }))
apart_more v a chain b gs are good = record {
  good = good_more v a chain b gs are.good good;
  apart = apart_push gs _ are.apart (λ d has. new_held v a chain b d gs are.good good has);
}

pub groups_apart : (v : Volume) → AreApart (groups v)
groups_apart v = (groups_by v (AreGoodAndApart v) (apart_more v) (record { good = tt; apart = tt })).apart
