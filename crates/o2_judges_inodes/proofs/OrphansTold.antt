-- ORPHAN_FLAG, ORPHAN_ENTRY and NOT_CONNECTED by rows.
use Rattle.std.proofs.Common.{◌≡◌, inl, inr, ℕ, Bool, true, false, ◌&&◌, ◌||◌, not, ◌==◌, List, [], ◌∷◌, ◌++◌, map, filter, refl, sym, ◌∙◌, ap}
use Rattle.std.specs.BTreeSet.{BTreeSet}
use Rattle.std.specs.List.{list_any}
use Rattle.std.proofs.lemmas.Bool.{cases_Bool}
use Rattle.std.proofs.lemmas.List.{map-append}
use Rattle.std.proofs.lemmas.List.Folds.{list_any-append}
use Rattle.o2_ondisk.specs.Bits.{has_bits, orphaned_inode_flag}
use Rattle.o2_model.specs.declared.check.Check.TheVariants as check
use Rattle.o2_model.specs.declared.entry.Entry.{Entry}
use Rattle.o2_model.specs.Words.{among}
use Rattle.o2_model.specs.Faults.{fails_at}
use Rattle.o2_model.specs.Orders.{rising, later_like}
use Rattle.o2_model.specs.Volume.{Volume}
use Rattle.o2_model.specs.Directories.{own_inodes}
use Rattle.o2_model.specs.Groups.{is_inode}
use Rattle.o2_model.specs.Tree.{is_met}
use Rattle.o2_model.specs.Failing.{faults}
use Rattle.o2_model.specs.Checks.OrphanFlag.{is_orphaned}
use Rattle.o2_model.specs.Checks.OrphanEntry.{orphan_entries, names_orphan as model_names_orphan}
use Rattle.o2_model.specs.Checks.NotConnected.{is_connected as model_is_connected}
use Rattle.o2_tables.specs.declared.inodes.InodeRow.{InodeRow}
use Rattle.o2_tables.specs.declared.tree.TreeTable.{TreeTable}
use Rattle.o2_tables.specs.Rows.{IsInodeRow, IsInodeTable, IsTreeTable}
use Rattle.o2_tally.specs.Again.{has_number}
use Rattle.o2_tally.proofs.Sames.{rising_same, any_rising}
use Rattle.o2_tree.specs.TreeRows.{IsInodeAt, row_of}
use Rattle.o2_tree.specs.TreeWalks.{AreOwn, AreOrphans}
use Rattle.o2_tree.specs.declared.directories.EntryRow.{EntryRow}
use Rattle.o2_judges_inodes.specs.OrphanRows.{is_marked, is_connected, AreNamed, names_orphan, numbered}
use Rattle.o2_judges_inodes.proofs.MetRows.{met_told}
use Rattle.o2_judges_inodes.proofs.RowsTold.{rows_lack}

-- ---- ORPHAN_FLAG
marked_is : (v : Volume) (r : InodeRow) → IsInodeRow v r → is_marked r ≡ is_orphaned v r.block
marked_is v r is = ap (λ f. has_bits f.0 orphaned_inode_flag) is.flags

not_not : (b : Bool) → b ≡ not (not b)
not_not true = refl
not_not false = refl

pub flags_told : (v : Volume) (tree : TreeTable) (rows : List InodeRow) → IsInodeTable v rows → IsTreeTable v tree
    → rising (map (λ r. r.block) (filter (λ r. has_number tree.met r.block && is_marked r) rows)) ≡ rising (faults v check.OrphanFlag)
unfolding faults
flags_told v tree rows table met =
    met_told v tree rows (λ b. not (is_orphaned v b)) is_marked table met (λ r is. marked_is v r is ∙ not_not (is_orphaned v r.block))

-- ---- NOT_CONNECTED
any_mapped : {A B : Type 0} (f : A → B) (p : B → Bool) (xs : List A) → list_any p (map f xs) ≡ list_any (λ x. p (f x)) xs
any_mapped f p [] = refl
any_mapped f p (x ∷ xs) = ap (λ b. p (f x) || b) (any_mapped f p xs)

module _ (v : Volume) (tree : TreeTable) (own named : BTreeSet ℕ) (orphans : List EntryRow) (met : IsTreeTable v tree) (are : AreOwn v own) (listed : AreOrphans v orphans) (kept : AreNamed orphans named) where
  named_is : (b : ℕ) → has_number named b ≡ list_any (λ e. e.inode == b) (orphan_entries v)
  named_is b = kept.each b ∙ (ap (list_any (λ e. e.inode == b)) listed.listed ∙ any_mapped row_of (λ e. e.inode == b) (orphan_entries v))

  row_connected : (r : InodeRow) → IsInodeRow v r → is_connected tree own named r ≡ model_is_connected v r.block
  unfolding model_is_connected
  row_connected r is =
      ap (λ x. x || has_number own r.block || (is_marked r && has_number named r.block)) (met.met r.block)
      ∙ (ap (λ x. is_met v r.block || x || (is_marked r && has_number named r.block)) (are.each r.block)
      ∙ (ap (λ x. is_met v r.block || among (own_inodes v) r.block || (x && has_number named r.block)) (marked_is v r is)
      ∙ ap (λ x. is_met v r.block || among (own_inodes v) r.block || (is_orphaned v r.block && x)) (named_is r.block)))

  pub connected_told : (rows : List InodeRow) → IsInodeTable v rows → fails_at (λ r. r.block) (is_connected tree own named) rows ≡ faults v check.NotConnected
  unfolding faults
  connected_told rows table = rows_lack v (model_is_connected v) (is_connected tree own named) rows table row_connected

-- ---- ORPHAN_ENTRY
module _ (v : Volume) (own : BTreeSet ℕ) (e : EntryRow) (are : AreOwn v own) where
  -- by the row of the inode that it names
  pub named_marked : (r : InodeRow) → IsInodeAt v e.inode r → is_marked r ≡ true → not (has_number own e.inode) ≡ names_orphan v e
  unfolding names_orphan
  named_marked r at marked =
      rw (at.is, sym (ap (is_orphaned v) at.block) ∙ (sym (marked_is v r at.says) ∙ marked)) (ap not (are.each e.inode))

  pub named_unmarked : (r : InodeRow) → IsInodeAt v e.inode r → is_marked r ≡ false → false ≡ names_orphan v e
  unfolding names_orphan
  named_unmarked r at other =
      rw (at.is, sym (ap (is_orphaned v) at.block) ∙ (sym (marked_is v r at.says) ∙ other)) refl

  pub none_named : is_inode v e.inode ≡ false → false ≡ names_orphan v e
  unfolding names_orphan
  none_named none = rw none refl

filter_mapped : {A B : Type 0} (f : A → B) (p : B → Bool) (xs : List A) → filter p (map f xs) ≡ map f (filter (λ x. p (f x)) xs)
filter_mapped f p [] = refl
filter_mapped f p (x ∷ xs) = elim (cases_Bool (p (f x))) [
  | inl is ↦ rw is (ap (λ ys. f x ∷ ys) (filter_mapped f p xs))
  | inr other ↦ rw other (filter_mapped f p xs)
]

later_mapped : {A B : Type 0} (f : A → B) (alike : B → B → Bool) (xs : List A) → later_like alike (map f xs) ≡ map f (later_like (λ x y. alike (f x) (f y)) xs)
later_mapped f alike [] = refl
later_mapped f alike (x ∷ xs) =
    ap (λ ys. ys ++ later_like alike (map f xs)) (filter_mapped f (alike (f x)) xs)
    ∙ (ap (λ ys. map f (filter (λ y. alike (f x) (f y)) xs) ++ ys) (later_mapped f alike xs)
    ∙ sym (map-append f (filter (λ y. alike (f x) (f y)) xs) (later_like (λ x y. alike (f x) (f y)) xs)))

map_mapped : {A B C : Type 0} (f : A → B) (g : B → C) (xs : List A) → map g (map f xs) ≡ map (λ x. g (f x)) xs
map_mapped f g [] = refl
map_mapped f g (x ∷ xs) = ap (λ ys. g (f x) ∷ ys) (map_mapped f g xs)

-- of lists one behind the other the later may be another in the same order
rising_behind : (ns ms ks : List ℕ) → rising ms ≡ rising ks → rising (ns ++ ms) ≡ rising (ns ++ ks)
rising_behind ns ms ks same = rising_same _ _ (λ p.
    list_any-append p ns ms
    ∙ (ap (λ b. list_any p ns || b) (sym (any_rising p ms) ∙ (ap (list_any p) same ∙ any_rising p ks))
    ∙ sym (list_any-append p ns ks)))

named_told : (v : Volume) (es : List Entry) → fails_at (λ e. e.block) (names_orphan v) (map row_of es) ≡ fails_at (λ e. e.block) (model_names_orphan v) es
unfolding names_orphan model_names_orphan
named_told v es =
    ap (map (λ e. e.block)) (filter_mapped row_of (λ e. not (names_orphan v e)) es) ∙ map_mapped row_of (λ e. e.block) (filter (λ e. not (model_names_orphan v e)) es)

again_told : (es : List Entry) → map (λ x. x.place) (later_like (λ x y. x.number == y.number) (map numbered (map row_of es))) ≡ map (λ e. e.block) (later_like (λ e f. e.inode == f.inode) es)
again_told es =
    ap (λ xs. map (λ x. x.place) (later_like (λ x y. x.number == y.number) xs)) (map_mapped row_of numbered es)
    ∙ (ap (map (λ x. x.place)) (later_mapped (λ e. numbered (row_of e)) (λ x y. x.number == y.number) es)
    ∙ map_mapped (λ e. numbered (row_of e)) (λ x. x.place) (later_like (λ e f. e.inode == f.inode) es))

pub entries_told : (v : Volume) (orphans : List EntryRow) (found again : List ℕ) → AreOrphans v orphans
    → found ≡ fails_at (λ e. e.block) (names_orphan v) orphans
    → rising again ≡ rising (map (λ x. x.place) (later_like (λ x y. x.number == y.number) (map numbered orphans)))
    → rising (found ++ again) ≡ rising (faults v check.OrphanEntry)
unfolding faults
entries_told v orphans found again listed are later =
    let es = orphan_entries v in
    rising_behind found again _ later
    ∙ (ap (λ ns. rising (ns ++ map (λ x. x.place) (later_like (λ x y. x.number == y.number) (map numbered orphans)))) are
    ∙ (ap (λ os. rising (fails_at (λ e. e.block) (names_orphan v) os ++ map (λ x. x.place) (later_like (λ x y. x.number == y.number) (map numbered os)))) listed.listed
    ∙ (ap (λ ns. rising (ns ++ map (λ x. x.place) (later_like (λ x y. x.number == y.number) (map numbered (map row_of es))))) (named_told v es)
    ∙ ap (λ ns. rising (fails_at (λ e. e.block) (model_names_orphan v) es ++ ns)) (again_told es))))
