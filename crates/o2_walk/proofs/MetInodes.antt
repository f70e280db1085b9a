-- What the walk enters are directories, and what it meets are inodes.
use Rattle.std.proofs.Common.{◌≡◌, inl, inr, ℕ, zero, suc, ◌<◌, true, false, Bool, ◌&&◌, ◌==◌, List, [], ◌∷◌, ◌++◌, map, filter, fold, get_or, Option, Some, None, refl, sym, ◌∙◌, ap, arith}
use Rattle.std.specs.Prelude.{slice_get}
use Rattle.std.specs.Option.{option_map_or}
use Rattle.std.specs.List.{list_all, range_with_len}
use Rattle.std.proofs.lemmas.Bool.{cases_Bool, eqb-true, eq-eqb}
use Rattle.std.proofs.lemmas.Bool.Decides.{nat_tests}
use Rattle.std.proofs.lemmas.List.Folds.{list_any_at, list_all-map}
use Rattle.std.proofs.lemmas.List.FromFn.{length-range_with_len, get_or-range_with_len}
use Rattle.std.proofs.lemmas.Map.Views.{any-filter_same}
use Rattle.o2_model.specs.declared.entry.Entry.{Entry}
use Rattle.o2_model.specs.Words.{among}
use Rattle.o2_model.specs.Volume.{Volume, blocks, is_valid}
use Rattle.o2_model.specs.Directories.{named_entries}
use Rattle.o2_model.specs.Inodes.{is_directory}
use Rattle.o2_model.specs.Groups.{inodes_of, is_inode}
use Rattle.o2_model.specs.Tree.{Entered, TreeWalk, tree_walk, walk_after, look_through, follow, names_users, is_entered, is_met}
use Rattle.o2_tree.specs.TreeRows.{all_directories}

-- ---- which blocks are among the inodes and the directories
inode_within : (v : Volume) (b : ℕ) → is_inode v b ≡ true → b < blocks v
unfolding is_inode is_valid
inode_within v b is = grind (arith, nat_tests)

in_range : (b n : ℕ) → b < n → among (range_with_len 0 n) b ≡ true
in_range b n low =
    let there : b ≡ get_or (range_with_len 0 n) b 0 = omega (arith, get_or-range_with_len 0 n b 0 low) in
    list_any_at (λ m. b == m) (range_with_len 0 n) b 0 (omega (arith, low, length-range_with_len 0 n)) (eq-eqb b _ there)

among_inodes : (v : Volume) (b : ℕ) → is_inode v b ≡ true → among (inodes_of v) b ≡ true
unfolding inodes_of
among_inodes v b is =
    any-filter_same (λ m. b == m) (is_inode v) (is_inode v b) (λ k same. ap (is_inode v) (sym (eqb-true b k same))) (range_with_len 0 (blocks v))
    ∙ rw is (in_range b (blocks v) (inode_within v b is))

among_directories : (v : Volume) (b : ℕ) → among (all_directories v) b ≡ (is_directory v b && among (inodes_of v) b)
among_directories v b = any-filter_same (λ m. b == m) (is_directory v) (is_directory v b) (λ k same. ap (is_directory v) (sym (eqb-true b k same))) (inodes_of v)

-- a directory is an inode
is_among_inodes : (v : Volume) (b : ℕ) → among (all_directories v) b ≡ true → among (inodes_of v) b ≡ true
is_among_inodes v b is = second (is_directory v b) (among (inodes_of v) b) (sym (among_directories v b) ∙ is)
  where
    second : (p q : Bool) → (p && q) ≡ true → q ≡ true
    second true q h = h
    second false q h = cc

-- ---- the walk
-- It entered directories alone, and met inodes alone.
record IsSound (v : Volume) (w : TreeWalk) : Type 0 where
  entered : list_all (λ d. among (all_directories v) d.inode) w.entered ≡ true
  met : list_all (λ n. among (inodes_of v) n.1) w.names ≡ true

pushed : {A : Type 0} (p : A → Bool) (xs : List A) (x : A) → list_all p xs ≡ true → p x ≡ true → list_all p (xs ++ x ∷ []) ≡ true
pushed p [] x all is = rw is refl
pushed p (y ∷ ys) x all is = elim (cases_Bool (p y)) [
  | inl first ↦ rw first (pushed p ys x (rw first at all) is)
  | inr none ↦ let e = rw none at all in cc
]

user_is_inode : (v : Volume) (e : Entry) → names_users v e ≡ true → among (inodes_of v) e.inode ≡ true
unfolding names_users
user_is_inode v e is = among_inodes v e.inode (first (is_inode v e.inode) _ _ is)
  where
    first : (p q r : Bool) → (p && q && r) ≡ true → p ≡ true
    first true q r h = refl
    first false q r h = cc

sound_follow : (v : Volume) (d : Entered) (w : TreeWalk) (e : Entry) → names_users v e ≡ true → IsSound v w → IsSound v (follow v d w e)
sound_follow v d w e user is =
    let inode = user_is_inode v e user in
    elim (cases_Bool (is_directory v e.inode)) [
      | inr other ↦ rw other (record { entered = is.entered; met = pushed _ w.names _ is.met inode })
      | inl directory ↦ elim (cases_Bool (is_entered w e.inode)) [
        | inl again ↦ rw (directory, again) (record { entered = is.entered; met = is.met })
        | inr new ↦ rw (directory, new) (record {
          entered = pushed _ w.entered _ is.entered (among_directories v e.inode ∙ rw (directory, inode) refl);
          met = pushed _ w.names _ is.met inode;
        })
      ]
    ]

sound_each : (v : Volume) (d : Entered) (w : TreeWalk) (es : List Entry) → IsSound v w → IsSound v (fold (follow v d) w (filter (names_users v) es))
sound_each v d w [] is = is
sound_each v d w (e ∷ es) is = elim (cases_Bool (names_users v e)) [
  | inl user ↦ rw user (sound_each v d (follow v d w e) es (sound_follow v d w e user is))
  | inr other ↦ rw other (sound_each v d w es is)
]

sound_after : (v : Volume) (n : ℕ) → among (all_directories v) v.geo.root ≡ true → IsSound v (walk_after v n)
sound_after v zero root = record { entered = rw root refl; met = rw (is_among_inodes v v.geo.root root) refl }
sound_after v (suc n) root = go (slice_get (walk_after v n).entered n) (sound_after v n root)
  where
    go : (found : Option Entered) → IsSound v (walk_after v n) → IsSound v (option_map_or (look_through v (walk_after v n)) found (walk_after v n))
    go None is = is
    go (Some d) is = sound_each v d (walk_after v n) (named_entries v d.inode) is

-- ---- what it told
module _ (v : Volume) (root : among (all_directories v) v.geo.root ≡ true) where
  pub entered_are_directories : list_all (λ d. among (all_directories v) d.inode) (tree_walk v).entered ≡ true
  unfolding tree_walk
  entered_are_directories = (sound_after v (blocks v) root).entered

  pub met_are_inodes : (b : ℕ) → is_met v b ≡ true → among (inodes_of v) b ≡ true
  unfolding tree_walk
  met_are_inodes b is = one_of b (map (λ n. n.1) (tree_walk v).names) (list_all-map (λ m. among (inodes_of v) m) (λ n. n.1) (tree_walk v).names ∙ (sound_after v (blocks v) root).met) is
    where
      one_of : (b : ℕ) (ms : List ℕ) → list_all (among (inodes_of v)) ms ≡ true → among ms b ≡ true → among (inodes_of v) b ≡ true
      one_of b [] all is = cc
      one_of b (m ∷ ms) all is = elim (cases_Bool (b == m)) [
        | inl same ↦ ap (among (inodes_of v)) (eqb-true b m same) ∙ first (among (inodes_of v) m) _ all
        | inr other ↦ one_of b ms (second (among (inodes_of v) m) _ all) (rw other at is)
      ]
        where
          first : (p q : Bool) → (p && q) ≡ true → p ≡ true
          first true q h = refl
          first false q h = cc

          second : (p q : Bool) → (p && q) ≡ true → q ≡ true
          second true q h = h
          second false q h = cc
