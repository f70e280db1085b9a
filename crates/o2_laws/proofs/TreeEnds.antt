-- The walk of the tree ends: each directory that it enters is looked through, whatever its bound.
use Rattle.std.proofs.Common.{◌≡◌, inl, inr, ⊎_elim, ℕ, zero, suc, ◌+◌, ◌<◌, ◌≤◌, true, false, ◌||◌, eqb, List, [], ◌∷◌, length, sym, ◌∙◌, ap, subst, arith}
use Rattle.std.specs.List.{list_any, IsDistinct}
use Rattle.std.specs.Option.{option_map_or}
use Rattle.std.proofs.lemmas.Bool.{cases_Bool, or_cases, eqb-true, false≢true}
use Rattle.std.proofs.lemmas.List.Folds.{list_any-append}
use Rattle.std.proofs.lemmas.List.{map-append, length-map}
use Rattle.std.proofs.lemmas.Bool.Decides.{nat_tests}
use Rattle.std.specs.Cmp.{nat_eq_equiv}
use Rattle.std.proofs.lemmas.Map.Keys.{IsDistinct-push}
use Rattle.std.proofs.lemmas.Map.Steps.{length-le_from_distinct_below}
use Rattle.o2_model.specs.Words.{among}
use Rattle.o2_model.specs.Volume.{Volume, blocks, is_valid}
use Rattle.o2_model.specs.Inodes.{is_directory}
use Rattle.o2_model.specs.declared.entry.Entry.{Entry}
use Rattle.o2_model.specs.Groups.{is_inode}
use Rattle.std.proofs.lemmas.Option.{slice_get_past}
use Rattle.o2_laws.specs.Frames.{entered_inodes as inodes_entered}
use Rattle.o2_laws.proofs.TreeWalks.{Keeps, walk_keeps}
use Rattle.o2_model.specs.Tree.{Entered, TreeWalk, names_users, look_through, walk_after, tree_walk}

-- no number stands there twice, and each is below n
pub record IsApart (n : ℕ) (ns : List ℕ) : Type 0 where
  pub apart : IsDistinct eqb ns
  pub within : (b : ℕ) → list_any (eqb b) ns ≡ true → b < n

pub at_most : (n : ℕ) (w : TreeWalk) → IsApart n (inodes_entered w) → length w.entered ≤ n
at_most n w h = omega (arith, length-le_from_distinct_below (inodes_entered w) n h.apart h.within, length-map w.entered (λ (e : Entered). e.inode))

-- an entry that is followed names a block of the volume
named_within : (v : Volume) (p : Entry) → names_users v p ≡ true → p.inode < blocks v
unfolding names_users is_inode is_valid
named_within v p h = grind (arith, nat_tests)

apart_follow : (v : Volume) → Keeps v (λ w. IsApart (blocks v) (inodes_entered w))
apart_follow v d w p names h = elim (cases_Bool (is_directory v p.inode)) [
  | inr other ↦ rw other h
  | inl directory ↦ elim (cases_Bool (among (inodes_entered w) p.inode)) [
    | inl again ↦ rw (directory, again) h
    | inr new ↦ rw (directory, new) (record {
      apart = subst (IsDistinct eqb) (sym (map-append (λ (e : Entered). e.inode) w.entered _)) (IsDistinct-push nat_eq_equiv (inodes_entered w) p.inode h.apart new);
      within = λ b named.
          let parts : (list_any (eqb b) (inodes_entered w) || (eqb b p.inode || false)) ≡ true
          = sym (ap (list_any (eqb b)) (map-append (λ (e : Entered). e.inode) w.entered _) ∙ list_any-append (eqb b) (inodes_entered w) (p.inode ∷ [])) ∙ named in
          ⊎_elim (λ old. h.within b old)
          (λ last. ⊎_elim (λ same. omega (arith, eqb-true b p.inode same, named_within v p names)) (λ e. absurd (false≢true e)) (or_cases (eqb b p.inode) false last))
          (or_cases _ _ parts);
    })
  ]
]

one_distinct : (n : ℕ) → IsDistinct eqb (n ∷ [])
unfolding IsDistinct
one_distinct n = (tt, tt)

pub apart_after : (v : Volume) → v.geo.root < blocks v → (k : ℕ) → IsApart (blocks v) (inodes_entered (walk_after v k))
apart_after v root k = walk_keeps v (λ w. IsApart (blocks v) (inodes_entered w)) (apart_follow v) (record {
  apart = one_distinct v.geo.root;
  within = λ b named. ⊎_elim (λ same. omega (arith, eqb-true b v.geo.root same)) (λ e. absurd (false≢true e)) (or_cases (eqb b v.geo.root) false named);
}) k

-- Past its bound the walk stands still.
pub walk_ends : (v : Volume) → v.geo.root < blocks v → (k : ℕ) → walk_after v (k + blocks v) ≡ tree_walk v
unfolding tree_walk
walk_ends v root zero = let e : 0 + blocks v ≡ blocks v = omega arith in ap (walk_after v) e
walk_ends v root (suc k) =
    let n = k + blocks v in
    let e : suc k + blocks v ≡ suc n = omega arith in
    let past : length (walk_after v n).entered ≤ n = omega (arith, at_most (blocks v) (walk_after v n) (apart_after v root n)) in
    ap (walk_after v) e ∙ (ap (λ o. option_map_or (look_through v (walk_after v n)) o (walk_after v n)) (slice_get_past (walk_after v n).entered n past) ∙ walk_ends v root k)
