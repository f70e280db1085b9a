-- Where nothing fails, blocks that agree on the held ones have the same files at the paths of the tree.
use Rattle.std.proofs.Common.{◌≡◌, inl, inr, ℕ, true, false, not, List, [], ◌∷◌, map, ◌∙◌, ap, subst}
use Rattle.std.specs.Prelude.{flat_map}
use Rattle.std.specs.Option.{option_map_or}
use Rattle.std.specs.FinMap as finite
use Rattle.std.specs.List.{AllByRecursion, Contains}
use Rattle.std.specs.Ordering.{nat_cmp}
use Rattle.std.proofs.lemmas.Bool.{cases_Bool, and_parts, not-true}
use Rattle.o2_model.specs.Words.{among, push}
use Rattle.o2_model.specs.Orders.{rising}
use Rattle.o2_model.specs.Volume.{Volume, over, blocks}
use Rattle.o2_model.specs.Inodes.{is_directory}
use Rattle.o2_model.specs.declared.entry.Entry.{Entry}
use Rattle.o2_model.specs.Directories.{own_inodes}
use Rattle.o2_model.specs.Files.{File, file_of, files_of}
use Rattle.o2_model.specs.Groups.{is_inode}
use Rattle.o2_model.specs.Journals.{journals}
use Rattle.o2_laws.specs.Frames.{entered_inodes as inodes_entered}
use Rattle.o2_model.specs.Tree.{TreeWalk, names_users, path_cmp, tree_walk, met_inodes, tree_inodes}
use Rattle.o2_model.specs.Failing.{failing}
use Rattle.o2_laws.proofs.Held.HeldBlocks.{AgreesOnHeld}
use Rattle.o2_laws.proofs.Agreeing.{map_agree}
use Rattle.o2_laws.proofs.FirstNames.{found_name, one_at_only}
use Rattle.o2_laws.proofs.Found.{all_map, all_push, each_of}
use Rattle.o2_laws.proofs.Members.{flat_contains}
use Rattle.o2_laws.proofs.Rising.{all_rising}
use Rattle.o2_laws.proofs.TreeWalks.{Keeps, users_inode, walk_keeps}
use Rattle.o2_laws.proofs.Held.OwnInodes.{root_is_inode, root_is_directory, directory_apart, users_apart}
use Rattle.o2_laws.proofs.Held.HeldTells.{held_tell_file}
use Rattle.o2_laws.proofs.Held.HeldTree.{held_tell_tree}

-- ---- what has a name
-- an inode that is no journal
pub record IsReadable (v : Volume) (b : ℕ) : Type 0 where
  pub inode : is_inode v b ≡ true
  pub apart : among (journals v) b ≡ false

abbrev pub AllReadable : Volume → List (List (List ℕ) × ℕ) → Type 0
AllReadable v names = AllByRecursion (λ n. IsReadable v n.1) names

users_own : (v : Volume) (e : Entry) → names_users v e ≡ true → among (own_inodes v) e.inode ≡ false
unfolding names_users
users_own v e h = not-true (among (own_inodes v) e.inode) (and_parts _ (not (among (own_inodes v) e.inode)) h).1

users_readable : (v : Volume) (e : Entry) → failing v ≡ [] → names_users v e ≡ true → IsReadable v e.inode
users_readable v e none h = record { inode = users_inode v e h; apart = users_apart v e.inode none (users_own v e h) }

follow_named : (v : Volume) → failing v ≡ [] → Keeps v (λ w. AllReadable v w.names)
follow_named v none d w e names h =
    let is = users_readable v e none names in
    elim (cases_Bool (is_directory v e.inode)) [
      | inr other ↦ rw other (all_push (λ n. IsReadable v n.1) w.names (push d.path e.name, e.inode) h is)
      | inl directory ↦ elim (cases_Bool (among (inodes_entered w) e.inode)) [
        | inl again ↦ rw (directory, again) h
        | inr new ↦ rw (directory, new) (all_push (λ n. IsReadable v n.1) w.names (push d.path e.name, e.inode) h is)
      ]
    ]

pub tree_named : (v : Volume) → failing v ≡ [] → AllReadable v (tree_walk v).names
unfolding tree_walk
tree_named v none =
    walk_keeps v (λ w. AllReadable v w.names) (follow_named v none)
    (record { inode = root_is_inode v none; apart = directory_apart v v.geo.root none (root_is_directory v none) }, tt) (blocks v)

pub held_tell_met_inodes : (v : Volume) (at : ℕ → List ℕ) → failing v ≡ [] → AgreesOnHeld v at → met_inodes (over v at) ≡ met_inodes v
unfolding met_inodes
held_tell_met_inodes v at none agrees = ap (λ (w : TreeWalk). rising (map (λ n. n.1) w.names)) (held_tell_tree v at none agrees)

pub met_readable : (v : Volume) (b : ℕ) → failing v ≡ [] → Contains (met_inodes v) b → IsReadable v b
unfolding met_inodes
met_readable v b none is =
    let names = (tree_walk v).names in
    each_of (IsReadable v) (rising (map (λ n. n.1) names)) b (all_rising (IsReadable v) (map (λ n. n.1) names) (all_map (IsReadable v) (λ n. n.1) names (tree_named v none))) is

-- ---- the inodes at the paths of the tree
pub held_tell_tree_inodes : (v : Volume) (at : ℕ → List ℕ) → failing v ≡ [] → AgreesOnHeld v at → tree_inodes (over v at) ≡ tree_inodes v
unfolding tree_inodes
held_tell_tree_inodes v at none agrees =
    ap (λ (w : TreeWalk). flat_map (λ n. option_map_or (λ b. b ∷ []) (finite.find path_cmp n.0 w.names) []) w.names) (held_tell_tree v at none agrees)

pub tree_readable : (v : Volume) (b : ℕ) → failing v ≡ [] → Contains (tree_inodes v) b → IsReadable v b
unfolding tree_inodes
tree_readable v b none is =
    let names = (tree_walk v).names in
    let part = flat_contains (λ n. option_map_or (λ c. c ∷ []) (finite.find path_cmp n.0 names) []) names b is in
    let found = found_name names part.item.0 b (one_at_only (finite.find path_cmp part.item.0 names) b part.has) in
    subst (IsReadable v) found.inode_is (each_of (λ n. IsReadable v n.1) names found.name (tree_named v none) found.inside)

-- ---- files
pub held_tell_files : (v : Volume) (at : ℕ → List ℕ) → failing v ≡ [] → AgreesOnHeld v at → files_of (over v at) ≡ files_of v
held_tell_files v at none agrees =
    ap (λ bs. finite.from_entries {R = nat_cmp} (map {B = ℕ × File} (λ b. (b, file_of (over v at) b)) bs)) (held_tell_tree_inodes v at none agrees)
    ∙ ap (λ es. finite.from_entries {R = nat_cmp} es)
    (map_agree {B = ℕ × File} (λ b. (b, file_of (over v at) b)) (λ b. (b, file_of v b)) (tree_inodes v)
    (λ b is. let readable = tree_readable v b none is in ap (λ (f : File). (b, f)) (held_tell_file v at b none agrees readable.inode readable.apart)))
