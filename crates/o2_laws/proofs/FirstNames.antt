-- What the finite maps of a volume have: the tree the first of each path, files and sharing what belongs to the number.
use Rattle.std.proofs.Common.{◌≡◌, inl, inr, ℕ, Bool, true, false, cond, ◌==◌, List, [], ◌∷◌, map, refl, sym, ◌∙◌, ap, Option, Some, None, arith}
use Rattle.std.specs.FinMap as finite
use Rattle.std.specs.FinMap.{IsAntisymmetric, slice_cmp-IsAntisymmetric, nat_cmp-IsAntisymmetric}
use Rattle.std.specs.List.{Contains}
use Rattle.std.specs.Option.{option_map_or}
use Rattle.std.specs.Ordering.{nat_cmp, eq_by_cmp, is_eq}
use Rattle.std.specs.declared.cmp.Ordering.{Ordering}
use Rattle.std.specs.declared.cmp.Ordering.TheVariants.{Less, Equal, Greater}
use Rattle.std.specs.Cmp.{IsTotalOrder, nat_cmp_total, unsigned_tied}
use Rattle.std.proofs.lemmas.Bool.{eqb-true, cases_Bool}
use Rattle.std.proofs.lemmas.Cmp.{lists_total, nat_list_cmp_total}
use Rattle.o2_model.specs.Words.{among}
use Rattle.o2_model.specs.Volume.{Volume}
use Rattle.o2_model.specs.Tree.{path_cmp, tree_of, inode_at, tree_walk, tree_inodes}
use Rattle.o2_model.specs.Files.{file_of, files_of, tree_sharing, shared_clusters, times_in}
use Rattle.o2_laws.proofs.Found.{contains_first, contains_later, either}
use Rattle.o2_laws.proofs.Members.{contains_one, contains_flat, flat_contains, contains_among, among_contains}

pub path_cmp_total : IsTotalOrder path_cmp
path_cmp_total = lists_total nat_list_cmp_total

pub tree-first : (v : Volume) (path : List (List ℕ)) → finite.get (tree_of v) path ≡ inode_at v path
tree-first v path = finite.get-from_entries path_cmp_total (tree_walk v).names path

-- a number among pairs of numbers with what a function makes of them
find-made : {A : Type 0} (f : ℕ → A) (ns : List ℕ) (n : ℕ) → finite.find nat_cmp n (map (λ m. (m, f m)) ns) ≡ cond (among ns n) (Some (f n)) None
find-made f [] n = refl
find-made f (m ∷ ms) n =
    ap (λ test. cond test (Some (f m)) (finite.find nat_cmp n (map (λ k. (k, f k)) ms))) (unsigned_tied n m)
    ∙ (at_same (n == m) (λ same. eqb-true n m same)
    ∙ either (n == m) (among ms n) (f n) _ (find-made f ms n))
  where
    at_same : (test : Bool) → (test ≡ true → n ≡ m) → cond test (Some (f m)) (finite.find nat_cmp n (map (λ k. (k, f k)) ms)) ≡ cond test (Some (f n)) (finite.find nat_cmp n (map (λ k. (k, f k)) ms))
    at_same true same = ap (λ k. Some (f k)) (sym (same refl))
    at_same false same = refl

-- a finite map that is made of numbers with what a function makes of them
get-made : {A : Type 0} (f : ℕ → A) (ns : List ℕ) (n : ℕ) → finite.get (finite.from_entries {R = nat_cmp} (map (λ m. (m, f m)) ns)) n ≡ cond (among ns n) (Some (f n)) None
get-made {A = A} f ns n = finite.get-from_entries nat_cmp_total (map {B = ℕ × A} (λ m. (m, f m)) ns) n ∙ find-made f ns n

-- ---- the inodes of the tree
equal : (o : Ordering) → is_eq o ≡ true → o ≡ Equal
equal Less h = cc
equal Equal h = refl
equal Greater h = cc

path_cmp-same : IsAntisymmetric path_cmp
path_cmp-same = slice_cmp-IsAntisymmetric (slice_cmp-IsAntisymmetric nat_cmp-IsAntisymmetric)

-- the inode at a path, as a list
abbrev one_at : List (List (List ℕ) × ℕ) → List (List ℕ) → List ℕ
one_at all path = option_map_or (λ b. b ∷ []) (finite.find path_cmp path all) []

-- The name that is found at a path.
pub record FoundName (names : List (List (List ℕ) × ℕ)) (path : List (List ℕ)) (b : ℕ) : Type 0 where
  pub name : List (List ℕ) × ℕ
  pub inside : Contains names name
  pub path_is : name.0 ≡ path
  pub inode_is : name.1 ≡ b

pub found_name : (names : List (List (List ℕ) × ℕ)) (path : List (List ℕ)) (b : ℕ) → finite.find path_cmp path names ≡ Some b → FoundName names path b
found_name [] path b h = cc
found_name (n ∷ ns) path b h = elim (cases_Bool (eq_by_cmp path_cmp path n.0)) [
  | inl same ↦
      let first : Some n.1 ≡ Some b = rw same at h in
      record { name = n; inside = contains_first n ns; path_is = sym (path_cmp-same path n.0 (equal (path_cmp path n.0) same)); inode_is = cc }
  | inr other ↦
      let later = found_name ns path b (rw other at h) in
      record { name = later.name; inside = contains_later n later.name ns later.inside; path_is = later.path_is; inode_is = later.inode_is }
]

one_at_found : (names : List (List (List ℕ) × ℕ)) (path : List (List ℕ)) (b : ℕ) → finite.find path_cmp path names ≡ Some b → Contains (one_at names path) b
one_at_found names path b h = rw h (contains_first b [])

pub one_at_only : (o : Option ℕ) (b : ℕ) → Contains (option_map_or (λ c. c ∷ []) o []) b → o ≡ Some b
one_at_only None b is = absurd (omega (arith, is.1))
one_at_only (Some c) b is = rw (contains_one c b is) refl

pub value-among : (v : Volume) (path : List (List ℕ)) (b : ℕ) → finite.get (tree_of v) path ≡ Some b → among (tree_inodes v) b ≡ true
unfolding tree_inodes
value-among v path b h =
    let names = (tree_walk v).names in
    let at : inode_at v path ≡ Some b = sym (tree-first v path) ∙ h in
    let found = found_name names path b at in
    contains_among (tree_inodes v) b
    (contains_flat (λ n. one_at names n.0) names found.name b found.inside (one_at_found names found.name.0 b (ap (λ p. finite.find path_cmp p names) found.path_is ∙ at)))

pub among-value : (v : Volume) (b : ℕ) → among (tree_inodes v) b ≡ true → (path : List (List ℕ)) × (finite.get (tree_of v) path ≡ Some b)
unfolding tree_inodes
among-value v b h =
    let names = (tree_walk v).names in
    let part = flat_contains (λ n. one_at names n.0) names b (among_contains (tree_inodes v) b h) in
    (part.item.0, tree-first v part.item.0 ∙ one_at_only (inode_at v part.item.0) b part.has)

-- ---- files and sharing
pub files-of-tree : (v : Volume) (b : ℕ) → finite.get (files_of v) b ≡ cond (among (tree_inodes v) b) (Some (file_of v b)) None
files-of-tree v b = get-made (file_of v) (tree_inodes v) b

pub sharing-counted : (v : Volume) (c : ℕ) → finite.get (shared_clusters v) c ≡ cond (among (tree_sharing v) c) (Some (times_in (tree_sharing v) c)) None
sharing-counted v c = get-made (times_in (tree_sharing v)) (tree_sharing v) c
