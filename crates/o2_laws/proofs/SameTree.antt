-- Two volumes whose directories follow the same entries have the same tree.
use Rattle.std.proofs.Common.{◌≡◌, ℕ, zero, suc, true, List, refl, ◌∙◌, ap, Option, Some, None}
use Rattle.std.specs.Prelude.{slice_get, fold}
use Rattle.std.specs.Option.{option_map_or}
use Rattle.o2_model.specs.Volume.{Volume, over, blocks}
use Rattle.o2_model.specs.Inodes.{is_directory}
use Rattle.o2_model.specs.declared.entry.Entry.{Entry}
use Rattle.o2_model.specs.Directories.{named_entries}
use Rattle.o2_model.specs.Groups.{is_inode}
use Rattle.o2_model.specs.Tree.{Entered, TreeWalk, names_users, followed, follow, look_through, walk_after, tree_walk}
use Rattle.o2_laws.proofs.Found.{all_get}
use Rattle.o2_laws.proofs.Members.{contains_filter}
use Rattle.o2_laws.proofs.Agreeing.{fold_agree}
use Rattle.o2_laws.proofs.TreeWalks.{StaysGood, walk_good, users_inode}

-- what the walk reads is the same, where it looks through good directories alone
pub record SameTree (v : Volume) (at : ℕ → List ℕ) (Good : ℕ → Type 0) : Type 0 where
  pub good : StaysGood v Good
  pub kind : (b : ℕ) → is_inode v b ≡ true → is_directory (over v at) b ≡ is_directory v b
  pub entries : (d : ℕ) → Good d → followed (over v at) d ≡ followed v d

follow_same : (v : Volume) (at : ℕ → List ℕ) (d : Entered) (w : TreeWalk) (e : Entry) → is_directory (over v at) e.inode ≡ is_directory v e.inode → follow (over v at) d w e ≡ follow v d w e
follow_same v at d w e kind = rw kind refl

-- a directory that is looked through
look_same : (v : Volume) (at : ℕ → List ℕ) (Good : ℕ → Type 0) → SameTree v at Good → (w : TreeWalk) (d : Entered) → Good d.inode → look_through (over v at) w d ≡ look_through v w d
look_same v at Good same w d good =
    ap (λ es. fold (follow (over v at) d) w es) (same.entries d.inode good)
    ∙ fold_agree (follow (over v at) d) (follow v d) w (followed v d.inode)
    (λ u e is. follow_same v at d u e (same.kind e.inode (users_inode v e (contains_filter (names_users v) (named_entries v d.inode) e is).1)))

step_same : (v : Volume) (at : ℕ → List ℕ) (Good : ℕ → Type 0) → SameTree v at Good → (w : TreeWalk) (o : Option Entered) → ((d : Entered) → o ≡ Some d → Good d.inode)
    → option_map_or (look_through (over v at) w) o w ≡ option_map_or (look_through v w) o w
step_same v at Good same w None good = refl
step_same v at Good same w (Some d) good = look_same v at Good same w d (good d refl)

walk_same : (v : Volume) (at : ℕ → List ℕ) (Good : ℕ → Type 0) → SameTree v at Good → (k : ℕ) → walk_after (over v at) k ≡ walk_after v k
walk_same v at Good same zero = refl
walk_same v at Good same (suc k) =
    let w = walk_after v k in
    ap (λ (u : TreeWalk). option_map_or (look_through (over v at) u) (slice_get u.entered k) u) (walk_same v at Good same k)
    ∙ step_same v at Good same w (slice_get w.entered k) (λ d is. all_get (λ (x : Entered). Good x.inode) w.entered k d (walk_good v Good same.good k) is)

-- The tree is the same.
pub tree_walk-same : (v : Volume) (at : ℕ → List ℕ) (Good : ℕ → Type 0) → SameTree v at Good → tree_walk (over v at) ≡ tree_walk v
unfolding tree_walk
tree_walk-same v at Good same = walk_same v at Good same (blocks v)
