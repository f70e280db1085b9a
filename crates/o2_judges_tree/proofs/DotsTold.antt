-- Rows of entries tell where DIR_DOTS fails.
use Rattle.std.proofs.Common.{◌≡◌, inl, inr, ℕ, Bool, true, false, ◌&&◌, ◌==◌, List, [], ◌∷◌, ◌++◌, map, filter, codes, refl, sym, ◌∙◌, ap}
use Rattle.std.specs.Prelude.{flat_map, bytes_eq}
use Rattle.std.proofs.lemmas.Bool.{cases_Bool, false≢true}
use Rattle.std.proofs.lemmas.List.{append_assoc}
use Rattle.std.proofs.lemmas.List.Folds.{flat_map-map}
use Rattle.o2_model.specs.declared.check.Check.TheVariants as check
use Rattle.o2_model.specs.declared.entry.Entry.{Entry}
use Rattle.o2_model.specs.Faults.{fails_unless}
use Rattle.o2_model.specs.Volume.{Volume}
use Rattle.o2_model.specs.Directories.{directory_entries, is_named}
use Rattle.o2_model.specs.Tree.{tree_walk}
use Rattle.o2_model.specs.Checks.DirDots.{not_once}
use Rattle.o2_model.specs.Failing.{faults}
use Rattle.o2_tree.specs.TreeRows.{row_of, name_of, IsDirectoryAt}
use Rattle.o2_tree.specs.TreeWalks.{AreEntered, entered_row}
use Rattle.o2_tree.specs.declared.directories.DirectoryRow.{DirectoryRow}
use Rattle.o2_tree.specs.declared.directories.EntryRow.{EntryRow}
use Rattle.o2_tree.specs.declared.directories.EntryName.{EntryName}
use Rattle.o2_tree.specs.declared.directories.EntryName.TheVariants.{Itself, Parent}
use Rattle.o2_tree.specs.declared.entered.EnteredRow.{EnteredRow}
use Rattle.o2_judges_tree.specs.EntryFaults.{is_same_name, rows_named, not_once_of, dots_of}

-- ---- names
itself_is : (name : List ℕ) → is_same_name (name_of name) Itself ≡ bytes_eq name (codes ".")
itself_is name = elim (cases_Bool (bytes_eq name (codes "."))) [
  | inl is ↦ rw is refl
  | inr other ↦ elim (cases_Bool (bytes_eq name (codes ".."))) [
    | inl parent ↦ rw (other, parent) refl
    | inr neither ↦ rw (other, neither) refl
  ]
]

not_longer : (p : Bool) → (p && false) ≡ false
not_longer true = refl
not_longer false = refl

one_dot : (name : List ℕ) → bytes_eq name (codes ".") ≡ true → bytes_eq name (codes "..") ≡ false
one_dot [] is = refl
one_dot (a ∷ []) is = not_longer (a == 46)
one_dot (a ∷ b ∷ rest) is = absurd (false≢true (sym (not_longer (a == 46)) ∙ is))

parent_is : (name : List ℕ) → is_same_name (name_of name) Parent ≡ bytes_eq name (codes "..")
parent_is name = elim (cases_Bool (bytes_eq name (codes "."))) [
  | inl is ↦ rw (is, one_dot name is) refl
  | inr other ↦ elim (cases_Bool (bytes_eq name (codes ".."))) [
    | inl parent ↦ rw (other, parent) refl
    | inr neither ↦ rw (other, neither) refl
  ]
]

-- ---- rows of one name
rows_of_name : (name : EntryName) (p : List ℕ → Bool) → ((n : List ℕ) → is_same_name (name_of n) name ≡ p n) → (es : List Entry)
    → rows_named name (map row_of es) ≡ map row_of (filter (λ e. p e.name) es)
rows_of_name name p same [] = refl
rows_of_name name p same (e ∷ es) = elim (cases_Bool (p e.name)) [
  | inl is ↦ rw (same e.name, is) (ap (λ rs. row_of e ∷ rs) (rows_of_name name p same es))
  | inr other ↦ rw (same e.name, other) (rows_of_name name p same es)
]

blocks_of : (es : List Entry) → map (λ r. r.block) (map row_of es) ≡ map (λ e. e.block) es
blocks_of [] = refl
blocks_of (e ∷ es) = ap (λ ns. e.block ∷ ns) (blocks_of es)

once_is : (inode : ℕ) (es : List Entry) → not_once_of inode (map row_of es) ≡ not_once inode es
once_is inode [] = refl
once_is inode (e ∷ es) = ap (λ ns. fails_unless e.block (e.inode == inode) ++ ns) (blocks_of es)

-- ---- one directory
pub dots_are : (v : Volume) (d : EnteredRow)
    → not_once_of d.inode (rows_named Itself (map row_of (directory_entries v d.inode))) ++ not_once_of d.parent (rows_named Parent (map row_of (directory_entries v d.inode))) ≡ dots_of v d
dots_are v d =
    let es = directory_entries v d.inode in
    let first = ap (not_once_of d.inode) (rows_of_name Itself (λ n. bytes_eq n (codes ".")) itself_is es) ∙ once_is d.inode (filter (is_named (codes ".")) es) in
    let second = ap (not_once_of d.parent) (rows_of_name Parent (λ n. bytes_eq n (codes "..")) parent_is es) ∙ once_is d.parent (filter (is_named (codes "..")) es) in
    ap (λ ns. ns ++ not_once_of d.parent (rows_named Parent (map row_of es))) first ∙ ap (λ ns. not_once d.inode (filter (is_named (codes ".")) es) ++ ns) second

-- what is told of the entries in its row, of one name behind the other
pub dots_at : (v : Volume) (d : EnteredRow) (row : DirectoryRow) (entries : List EntryRow) (start middle end : List ℕ) → IsDirectoryAt v d.inode row → entries ≡ row.entries
    → middle ≡ start ++ not_once_of d.inode (rows_named Itself entries) → end ≡ middle ++ not_once_of d.parent (rows_named Parent entries) → end ≡ start ++ dots_of v d
dots_at v d row entries start middle end at are first second =
    let rows = are ∙ (at.says.entries ∙ ap (λ b. map row_of (directory_entries v b)) at.block) in
    second
    ∙ (ap (λ ns. ns ++ not_once_of d.parent (rows_named Parent entries)) first
    ∙ (append_assoc start (not_once_of d.inode (rows_named Itself entries)) (not_once_of d.parent (rows_named Parent entries))
    ∙ ap (λ ns. start ++ ns) (ap (λ rs. not_once_of d.inode (rows_named Itself rs) ++ not_once_of d.parent (rows_named Parent rs)) rows ∙ dots_are v d)))

-- ---- DIR_DOTS
pub dots_told : (v : Volume) (rows : List EnteredRow) → AreEntered v rows → flat_map (dots_of v) rows ≡ faults v check.DirDots
unfolding faults
dots_told v rows are = ap (flat_map (dots_of v)) are.listed ∙ flat_map-map (dots_of v) entered_row (tree_walk v).entered
