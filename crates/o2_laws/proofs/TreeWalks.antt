-- What each step of the walk of the tree keeps, the walk keeps.
use Rattle.std.proofs.Common.{◌≡◌, inl, inr, ℕ, zero, suc, true, List, [], ◌∷◌, arith, Option, Some, None}
use Rattle.std.specs.Prelude.{slice_get, fold, filter}
use Rattle.std.specs.List.{AllByRecursion}
use Rattle.std.specs.Option.{option_map_or}
use Rattle.std.proofs.lemmas.Bool.{cases_Bool}
use Rattle.o2_model.specs.Words.{among}
use Rattle.o2_model.specs.Volume.{Volume}
use Rattle.o2_model.specs.Inodes.{is_directory}
use Rattle.o2_model.specs.declared.entry.Entry.{Entry}
use Rattle.o2_model.specs.Directories.{named_entries}
use Rattle.o2_model.specs.Groups.{is_inode}
use Rattle.o2_laws.specs.Frames.{entered_inodes as inodes_entered}
use Rattle.o2_model.specs.Tree.{Entered, TreeWalk, names_users, follow, look_through, at_root, walk_after}
use Rattle.o2_laws.proofs.Found.{all_push}

pub users_inode : (v : Volume) (e : Entry) → names_users v e ≡ true → is_inode v e.inode ≡ true
unfolding names_users
users_inode v e h = grind arith

-- ---- what a walk keeps
-- The step over an entry that names an inode of the users keeps it.
abbrev pub Keeps : Volume → (TreeWalk → Type 0) → Type 0
Keeps v P = (d : Entered) (w : TreeWalk) (e : Entry) → names_users v e ≡ true → P w → P (follow v d w e)

look_keeps : (v : Volume) (P : TreeWalk → Type 0) → Keeps v P → (d : Entered) (es : List Entry) (w : TreeWalk) → P w → P (fold (follow v d) w (filter (names_users v) es))
look_keeps v P keeps d [] w h = h
look_keeps v P keeps d (e ∷ es) w h = elim (cases_Bool (names_users v e)) [
  | inl taken ↦ rw taken (look_keeps v P keeps d es (follow v d w e) (keeps d w e taken h))
  | inr other ↦ rw other (look_keeps v P keeps d es w h)
]

step_keeps : (v : Volume) (P : TreeWalk → Type 0) → Keeps v P → (w : TreeWalk) (o : Option Entered) → P w → P (option_map_or (look_through v w) o w)
step_keeps v P keeps w None h = h
step_keeps v P keeps w (Some d) h = look_keeps v P keeps d (named_entries v d.inode) w h

-- What holds at the root and is kept holds all the way.
pub walk_keeps : (v : Volume) (P : TreeWalk → Type 0) → Keeps v P → P (at_root v) → (k : ℕ) → P (walk_after v k)
walk_keeps v P keeps root zero = root
walk_keeps v P keeps root (suc k) = step_keeps v P keeps (walk_after v k) (slice_get (walk_after v k).entered k) (walk_keeps v P keeps root k)

-- ---- the directories that it enters
-- The root is good, and so is each inode that is a directory.
pub record StaysGood (v : Volume) (Good : ℕ → Type 0) : Type 0 where
  pub root : Good v.geo.root
  pub named : (b : ℕ) → is_inode v b ≡ true → is_directory v b ≡ true → Good b

-- each that was entered is good
abbrev pub AllGood : (ℕ → Type 0) → TreeWalk → Type 0
AllGood Good w = AllByRecursion (λ d. Good d.inode) w.entered

follow_good : (v : Volume) (Good : ℕ → Type 0) → StaysGood v Good → Keeps v (AllGood Good)
follow_good v Good stays d w e names h = elim (cases_Bool (is_directory v e.inode)) [
  | inr other ↦ rw other h
  | inl directory ↦ elim (cases_Bool (among (inodes_entered w) e.inode)) [
    | inl again ↦ rw (directory, again) h
    | inr new ↦ rw (directory, new) (all_push (λ (x : Entered). Good x.inode) w.entered _ h (stays.named e.inode (users_inode v e names) directory))
  ]
]

pub walk_good : (v : Volume) (Good : ℕ → Type 0) → StaysGood v Good → (k : ℕ) → AllGood Good (walk_after v k)
walk_good v Good stays k = walk_keeps v (AllGood Good) (follow_good v Good stays) (stays.root, tt) k
