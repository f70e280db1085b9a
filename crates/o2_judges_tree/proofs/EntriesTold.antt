-- Entries that are judged one by one tell where the checks of the tree's entries fail.
use Rattle.std.proofs.Common.{◌≡◌, inl, inr, ℕ, ◌+◌, ◌<◌, ◌≤◌, Bool, false, ◌||◌, ◌==◌, not, List, [], ◌∷◌, ◌++◌, length, map, filter, take, get_or, refl, sym, ◌∙◌, ap, subst}
use Rattle.std.specs.Prelude.{flat_map}
use Rattle.std.specs.Option.{option_map_or}
use Rattle.std.proofs.lemmas.Bool.{cases_Bool}
use Rattle.std.proofs.lemmas.List.{take_more, take_all, get_or-map, length-map, flat_map_more}
use Rattle.std.proofs.lemmas.List.Elements.{filter-append}
use Rattle.std.proofs.lemmas.Grind.{flat_map-append}
use Rattle.o2_ondisk.specs.Kinds.{type_of_kind}
use Rattle.o2_model.specs.declared.check.Check.TheVariants as check
use Rattle.o2_model.specs.declared.entry.Entry.{Entry}
use Rattle.o2_model.specs.Faults.{fails_at}
use Rattle.o2_model.specs.Volume.{Volume}
use Rattle.o2_model.specs.Directories.{directory_entries, is_dot, named_entries}
use Rattle.o2_model.specs.Inodes.{kind}
use Rattle.o2_model.specs.Groups.{is_inode}
use Rattle.o2_model.specs.Tree.{Entered, names_users, tree_walk, tree_directories, tree_entries}
use Rattle.o2_model.specs.Checks.DirentType.{has_type_of_inode}
use Rattle.o2_model.specs.Failing.{faults}
use Rattle.o2_tables.specs.declared.inodes.InodeRow.{InodeRow}
use Rattle.o2_tree.specs.TreeRows.{row_of, IsInodeAt}
use Rattle.o2_tree.specs.TreeWalks.{AreEntered, entered_row}
use Rattle.o2_tree.specs.declared.directories.EntryName.TheVariants.{Itself}
use Rattle.o2_tree.specs.declared.directories.EntryRow.{EntryRow}
use Rattle.o2_tree.specs.declared.entered.EnteredRow.{EnteredRow}
use Rattle.o2_judges_tree.specs.EntryFaults.{fault_of, faults_in, is_named_soundly, is_typed_soundly}

-- ---- one entry more
abbrev pub no_row : EntryRow
no_row = record { inode = 0; file_type = 0; name = Itself; block = 0 }

abbrev pub no_entry : Entry
no_entry = record { inode = 0; file_type = 0; name = []; block = 0; at = 0 }

-- What is told of the entry at a place stands behind what was told of those before.
pub entry_more : (f : Entry → List ℕ) (es : List Entry) (rows : List EntryRow) (i : ℕ) (start now new : List ℕ) → map row_of es ≡ rows → i < length rows
    → now ≡ start ++ flat_map f (take i es) → ((e : Entry) → row_of e ≡ get_or rows i no_row → new ≡ now ++ f e) → new ≡ start ++ flat_map f (take (i + 1) es)
entry_more f es rows i start now new are low before more =
    let within : i < length es = subst (λ n. i < n) (ap length (sym are) ∙ length-map es row_of) low in
    more (get_or es i no_entry) (sym (get_or-map row_of es i no_entry no_row within) ∙ ap (λ rs. get_or rs i no_row) are)
    ∙ (ap (λ ns. ns ++ f (get_or es i no_entry)) before
    ∙ (flat_map_more f start (take i es) (get_or es i no_entry) ∙ ap (λ xs. start ++ flat_map f xs) (sym (take_more es i no_entry within))))

pub entries_all : (f : Entry → List ℕ) (es : List Entry) (rows : List EntryRow) (i : ℕ) (start now : List ℕ) → map row_of es ≡ rows → length rows ≤ i
    → now ≡ start ++ flat_map f (take i es) → now ≡ start ++ flat_map f es
entries_all f es rows i start now are past before =
    let all : length es ≤ i = subst (λ n. n ≤ i) (ap length (sym are) ∙ length-map es row_of) past in
    before ∙ ap (λ xs. start ++ flat_map f xs) (take_all i es all)

-- ---- one type
-- The row of the inode that an entry names tells whether the entry has its type.
pub type_is : (v : Volume) (e : Entry) (row : InodeRow) → IsInodeAt v e.inode row → option_map_or (λ k. e.file_type == type_of_kind k) row.kind false ≡ is_typed_soundly v e
unfolding has_type_of_inode
type_is v e row at =
    let kind_is = at.says.kind ∙ ap (kind v) at.block in
    ap (λ found. option_map_or (λ k. e.file_type == type_of_kind k) found false) kind_is
    ∙ ap (λ b. not b || option_map_or (λ k. e.file_type == type_of_kind k) (kind v e.inode) false) (sym at.is)

-- ---- all entries of the tree
in_tree : (v : Volume) (f : Entry → List ℕ) (ds : List Entered)
    → flat_map (λ r. flat_map f (directory_entries v r.inode)) (map entered_row ds) ≡ flat_map f (flat_map (directory_entries v) (map (λ d. d.inode) ds))
in_tree v f [] = refl
in_tree v f (d ∷ ds) =
    ap (λ ns. flat_map f (directory_entries v d.inode) ++ ns) (in_tree v f ds)
    ∙ sym (flat_map-append f (directory_entries v d.inode) (flat_map (directory_entries v) (map (λ (x : Entered). x.inode) ds)))

over_tree : (v : Volume) (holds : Entry → Bool) (rows : List EnteredRow) → AreEntered v rows
    → flat_map (λ r. faults_in v holds r.inode) rows ≡ flat_map (fault_of holds) (flat_map (directory_entries v) (tree_directories v))
over_tree v holds rows are = ap (flat_map (λ (r : EnteredRow). faults_in v holds r.inode)) are.listed ∙ in_tree v (fault_of holds) (tree_walk v).entered

-- Of entries that are judged where they are asked, those are told that are asked and do not hold.
asked_not : (asked holds : Entry → Bool) (es : List Entry) → flat_map (fault_of (λ e. not (asked e) || holds e)) es ≡ fails_at (λ e. e.block) holds (filter asked es)
asked_not asked holds [] = refl
asked_not asked holds (e ∷ es) = elim (cases_Bool (asked e)) [
  | inr other ↦ rw other (asked_not asked holds es)
  | inl is ↦ elim (cases_Bool (holds e)) [
    | inl good ↦ rw (is, good) (asked_not asked holds es)
    | inr bad ↦ rw (is, bad) (ap (λ ns. e.block ∷ ns) (asked_not asked holds es))
  ]
]

-- the same where another test tells what is not asked
passed_not : (passed holds : Entry → Bool) (es : List Entry) → flat_map (fault_of (λ e. passed e || holds e)) es ≡ fails_at (λ e. e.block) holds (filter (λ e. not (passed e)) es)
passed_not passed holds [] = refl
passed_not passed holds (e ∷ es) = elim (cases_Bool (passed e)) [
  | inl is ↦ rw is (passed_not passed holds es)
  | inr asked ↦ elim (cases_Bool (holds e)) [
    | inl good ↦ rw (asked, good) (passed_not passed holds es)
    | inr bad ↦ rw (asked, bad) (ap (λ ns. e.block ∷ ns) (passed_not passed holds es))
  ]
]

named_in : (v : Volume) (ds : List ℕ) → filter (λ e. not (is_dot e)) (flat_map (directory_entries v) ds) ≡ flat_map (named_entries v) ds
named_in v [] = refl
named_in v (d ∷ ds) =
    filter-append (λ e. not (is_dot e)) (directory_entries v d) (flat_map (directory_entries v) ds)
    ∙ ap (λ es. named_entries v d ++ es) (named_in v ds)

-- ---- the checks
pub inodes_told : (v : Volume) (rows : List EnteredRow) → AreEntered v rows → flat_map (λ r. faults_in v (is_named_soundly v) r.inode) rows ≡ faults v check.DirentInode
unfolding faults
inodes_told v rows are =
    over_tree v (is_named_soundly v) rows are
    ∙ (passed_not is_dot (names_users v) (flat_map (directory_entries v) (tree_directories v))
    ∙ ap (fails_at (λ e. e.block) (names_users v)) (named_in v (tree_directories v)))

pub types_told : (v : Volume) (rows : List EnteredRow) → AreEntered v rows → flat_map (λ r. faults_in v (is_typed_soundly v) r.inode) rows ≡ faults v check.DirentType
unfolding faults tree_entries
types_told v rows are =
    over_tree v (is_typed_soundly v) rows are
    ∙ asked_not (λ e. is_inode v e.inode) (has_type_of_inode v) (flat_map (directory_entries v) (tree_directories v))
