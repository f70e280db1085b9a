-- One reference more is counted where it is.
use Rattle.std.proofs.Common.{◌≡◌, inl, inr, ℕ, ◌+◌, Bool, true, false, cond, ◌&&◌, ◌==◌, nat_lt, List, [], ◌∷◌, refl, sym, ◌∙◌, ap, arith, Some}
use Rattle.std.specs.BTreeMap.{BTreeMap, get, is_at}
use Rattle.std.specs.Ordering.{nat_cmp, is_eq}
use Rattle.std.specs.Cmp.{tied_then}
use Rattle.std.specs.Prelude.{unwrap_or}
use Rattle.std.proofs.lemmas.Bool.{cases_Bool, and_parts, eqb-true}
use Rattle.std.proofs.lemmas.Bool.Decides.{nat_tests}
use Rattle.std.proofs.lemmas.List.Sums.{sum_by-append}
use Rattle.o2_model.specs.Words.{push}
use Rattle.o2_judges_refcount.specs.References.{in_tree, times_among, cluster_cmp, AreTimes}
use Rattle.o2_judges_refcount.specs.declared.tree_times.TreeCluster.{TreeCluster}

same_number : (a b : ℕ) → is_eq (nat_cmp a b) ≡ (a == b)
same_number a b = elim (cases_Bool (nat_lt a b)) [
  | inl below ↦ rw below (sym (differs a b below))
  | inr from ↦ elim (cases_Bool (a == b)) [
    | inl same ↦ rw (from, same) refl
    | inr other ↦ rw (from, other) refl
  ]
]
  where
    differs : (a b : ℕ) → nat_lt a b ≡ true → (a == b) ≡ false
    differs a b h = grind (arith, nat_tests)

-- the order of clusters finds the same one
same_cluster : (one of : TreeCluster) → is_at (cluster_cmp one) of ≡ (one.root == of.root && one.cluster == of.cluster)
same_cluster one of =
    sym (tied_then (nat_cmp one.root of.root) (nat_cmp one.cluster of.cluster))
    ∙ (ap (λ b. b && is_eq (nat_cmp one.cluster of.cluster)) (same_number one.root of.root)
    ∙ ap (λ b. one.root == of.root && b) (same_number one.cluster of.cluster))

one_more : (all : List TreeCluster) (one of : TreeCluster) → times_among (push all one) of ≡ times_among all of + cond (one.root == of.root && one.cluster == of.cluster) 1 0
one_more all one of = sum_by-append (λ x. cond (x.root == of.root && x.cluster == of.cluster) 1 0) all (one ∷ []) ∙ ap (λ n. times_among all of + n) (alone (one.root == of.root && one.cluster == of.cluster))
  where
    alone : (b : Bool) → 0 + cond b 1 0 ≡ cond b 1 0
    alone true = refl
    alone false = refl

pub counts_more : (all : List TreeCluster) (one : TreeCluster) (old new : BTreeMap TreeCluster ℕ) (before now : ℕ)
    → AreTimes all (record { times = old }) → before ≡ unwrap_or (get cluster_cmp old one) 0 → now ≡ before + 1
    → ((of : TreeCluster) → get cluster_cmp new of ≡ cond (is_at (cluster_cmp one) of) (Some now) (get cluster_cmp old of))
    → AreTimes (push all one) (record { times = new })
counts_more all one old new before now are was more put = record { each = at }
  where
    same_times : (of : TreeCluster) → one.root ≡ of.root → one.cluster ≡ of.cluster → times_among all one ≡ times_among all of
    same_times of p q = ap (λ root. times_among all (in_tree root one.cluster)) p ∙ ap (λ c. times_among all (in_tree of.root c)) q

    none_more : (n : ℕ) → n ≡ n + 0
    none_more n = omega arith

    at : (of : TreeCluster) → unwrap_or (get cluster_cmp new of) 0 ≡ times_among (push all one) of
    at of = ap (λ o. unwrap_or o 0) (put of ∙ ap (λ b. cond b (Some now) (get cluster_cmp old of)) (same_cluster one of)) ∙ (elim (cases_Bool (one.root == of.root && one.cluster == of.cluster)) [
      | inl same ↦
          let parts = and_parts (one.root == of.root) (one.cluster == of.cluster) same in
          let is : before ≡ times_among all of = was ∙ (are.each one ∙ same_times of (eqb-true one.root of.root parts.0) (eqb-true one.cluster of.cluster parts.1)) in
          rw same (more ∙ ap (λ n. n + 1) is)
      | inr other ↦ rw other (are.each of ∙ none_more (times_among all of))
    ] ∙ sym (one_more all one of))
