-- The inodes that the walk of the tree met, told over the rows of all inodes.
use Rattle.std.proofs.Common.{◌≡◌, inl, inr, ℕ, Bool, true, false, cond, ◌&&◌, ◌||◌, not, ◌==◌, List, [], ◌∷◌, map, filter, refl, sym, ◌∙◌, ap}
use Rattle.std.specs.List.{list_any}
use Rattle.std.proofs.lemmas.Bool.{cases_Bool, or_right, eqb-true, eq-eqb}
use Rattle.o2_model.specs.Words.{among}
use Rattle.o2_model.specs.Faults.{fails_at}
use Rattle.o2_model.specs.Orders.{rising}
use Rattle.o2_model.specs.Volume.{Volume}
use Rattle.o2_model.specs.Groups.{inodes_of}
use Rattle.o2_model.specs.Tree.{tree_walk, met_inodes, is_met}
use Rattle.o2_tables.specs.declared.inodes.InodeRow.{InodeRow}
use Rattle.o2_tables.specs.declared.tree.TreeTable.{TreeTable}
use Rattle.o2_tables.specs.Rows.{IsInodeRow, IsInodeTable, IsTreeTable}
use Rattle.o2_tally.specs.Again.{has_number}
use Rattle.o2_tally.proofs.Sames.{rising_same, any_rising, any_map}
use Rattle.o2_judges_inodes.proofs.RowsTold.{asked_lack}

-- ---- the same numbers, once by a test over all and once by a list
pub any_filter : (p q : ℕ → Bool) (ns : List ℕ) → list_any p (filter q ns) ≡ list_any (λ n. q n && p n) ns
any_filter p q [] = refl
any_filter p q (n ∷ ns) = elim (cases_Bool (q n)) [
  | inl is ↦ rw is (ap (λ b. p n || b) (any_filter p q ns))
  | inr other ↦ rw other (any_filter p q ns)
]

none_kept : (p : ℕ → Bool) (ns : List ℕ) → list_any p (filter (λ n. false) ns) ≡ false
none_kept p [] = refl
none_kept p (n ∷ ns) = none_kept p ns

-- of those that equal m
one_kept : (p : ℕ → Bool) (m : ℕ) (ns : List ℕ) → among ns m ≡ true → list_any p (filter (λ n. n == m) ns) ≡ p m
one_kept p m ns there = any_filter p (λ n. n == m) ns ∙ (go ns ∙ ap (λ b. b && p m) there)
  where
    turned : (n : ℕ) → (n == m) ≡ (m == n)
    turned n = elim (cases_Bool (n == m)) [
      | inl same ↦ same ∙ sym (eq-eqb m n (sym (eqb-true n m same)))
      | inr other ↦ elim (cases_Bool (m == n)) [
        | inr also ↦ other ∙ sym also
        | inl same ↦ eq-eqb n m (sym (eqb-true m n same)) ∙ sym same
      ]
    ]

    go : (ks : List ℕ) → list_any (λ n. n == m && p n) ks ≡ (among ks m && p m)
    go [] = refl
    go (k ∷ ks) = elim (cases_Bool (m == k)) [
      | inr other ↦ rw (turned k, other) (go ks)
      | inl same ↦ let k_is = eqb-true m k same in rw (turned k, same, go ks, sym k_is) (twice (p m) (among ks m))
    ]
      where
        twice : (a b : Bool) → (a || (b && a)) ≡ a
        twice true b = refl
        twice false true = refl
        twice false false = refl

any_either : (p f g : ℕ → Bool) (ns : List ℕ) → list_any p (filter (λ n. f n || g n) ns) ≡ (list_any p (filter f ns) || list_any p (filter g ns))
any_either p f g ns = any_filter p (λ n. f n || g n) ns ∙ (go ns ∙ (ap (λ b. b || list_any (λ n. g n && p n) ns) (sym (any_filter p f ns)) ∙ ap (λ b. list_any p (filter f ns) || b) (sym (any_filter p g ns))))
  where
    apart : (f g p a b : Bool) → (((f || g) && p) || (a || b)) ≡ (((f && p) || a) || ((g && p) || b))
    apart true true true a b = refl
    apart true true false a b = refl
    apart true false true a b = refl
    apart true false false a b = refl
    apart false true true true b = refl
    apart false true true false b = refl
    apart false true false a b = refl
    apart false false p a b = refl

    go : (ks : List ℕ) → list_any (λ n. (f n || g n) && p n) ks ≡ (list_any (λ n. f n && p n) ks || list_any (λ n. g n && p n) ks)
    go [] = refl
    go (k ∷ ks) = ap (λ b. ((f k || g k) && p k) || b) (go ks) ∙ apart (f k) (g k) (p k) (list_any (λ n. f n && p n) ks) (list_any (λ n. g n && p n) ks)

-- Where numbers are all among others, a test finds one of them where it finds one of the others that are among them.
same_by_test : (p : ℕ → Bool) (ns ms : List ℕ) → ((b : ℕ) → among ms b ≡ true → among ns b ≡ true) → list_any p (filter (among ms) ns) ≡ list_any p ms
same_by_test p ns [] within = none_kept p ns
same_by_test p ns (m ∷ ms) within =
    any_either p (λ n. n == m) (among ms) ns
    ∙ (ap (λ b. b || list_any p (filter (among ms) ns)) (one_kept p m ns (within m (ap (λ b. b || among ms m) (eq-eqb m m refl))))
    ∙ ap (λ b. p m || b) (same_by_test p ns ms (λ b h. within b (or_right (b == m) (among ms b) h))))

-- Where a check fails over one list of numbers, in order, is told over the other.
rising_by_test : (ns ms : List ℕ) (holds : ℕ → Bool) → ((b : ℕ) → among ms b ≡ true → among ns b ≡ true)
    → rising (fails_at (λ b. b) holds (filter (among ms) ns)) ≡ rising (fails_at (λ b. b) holds (rising ms))
rising_by_test ns ms holds within = rising_same _ _ (λ p.
    any_map (λ b. b) p (filter (λ b. not (holds b)) (filter (among ms) ns))
    ∙ (any_filter p (λ b. not (holds b)) (filter (among ms) ns)
    ∙ (same_by_test (λ b. not (holds b) && p b) ns ms within
    ∙ (sym (any_rising (λ b. not (holds b) && p b) ms)
    ∙ (sym (any_filter p (λ b. not (holds b)) (rising ms))
    ∙ sym (any_map (λ b. b) p (filter (λ b. not (holds b)) (rising ms))))))))

filter_same : (p q : ℕ → Bool) → ((b : ℕ) → p b ≡ q b) → (ns : List ℕ) → filter p ns ≡ filter q ns
filter_same p q same [] = refl
filter_same p q same (n ∷ ns) = ap (λ b. cond b (n ∷ filter p ns) (filter p ns)) (same n) ∙ ap (λ ms. cond (q n) (n ∷ ms) ms) (filter_same p q same ns)

-- ---- rows
-- Where a check fails of those that were met is told by rows that tell of their inodes whether it does.
pub met_told : (v : Volume) (tree : TreeTable) (rows : List InodeRow) (holds : ℕ → Bool) (lacks : InodeRow → Bool) → IsInodeTable v rows → IsTreeTable v tree
    → ((r : InodeRow) → IsInodeRow v r → lacks r ≡ not (holds r.block))
    → rising (map (λ r. r.block) (filter (λ r. has_number tree.met r.block && lacks r) rows)) ≡ rising (fails_at (λ b. b) holds (met_inodes v))
unfolding met_inodes
met_told v tree rows holds lacks table met same =
    ap rising (asked_lack v holds (has_number tree.met) lacks rows table same ∙ ap (fails_at (λ b. b) holds) (filter_same (has_number tree.met) (is_met v) met.met (inodes_of v)))
    ∙ rising_by_test (inodes_of v) (map (λ n. n.1) (tree_walk v).names) holds met.inodes
