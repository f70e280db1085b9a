-- Where nothing fails, the volume's own files are inodes, and no directory is a journal.
use Rattle.std.proofs.Common.{◌≡◌, inl, inr, ℕ, Bool, true, false, ◌&&◌, ◌||◌, not, ◌==◌, List, [], ◌∷◌, ◌++◌, refl, sym, ◌∙◌, ap, subst, Option, Some, None, arith}
use Rattle.std.specs.Prelude.{filter, codes, bytes_eq, is_some}
use Rattle.std.specs.List.{AllByRecursion, Contains}
use Rattle.std.specs.Option.{option_map_or}
use Rattle.std.proofs.lemmas.Bool.{cases_Bool, and_from, and_parts, or_right, eq-eqb, eqb-true, false≢true, cond-true, cond-false, not_from_false}
use Rattle.std.proofs.lemmas.Slice.Eq.{bytes_eq-Decides}
use Rattle.o2_ondisk.specs.declared.kind.Kind.{Kind}
use Rattle.o2_ondisk.specs.declared.kind.Kind.TheVariants.{File, Directory, Character, Block, Fifo, Socket, Link}
use Rattle.o2_model.specs.declared.check.Check.TheVariants as check
use Rattle.o2_model.specs.declared.system_file.SlotFile.TheVariants.{OrphanDir, ExtentAlloc, InodeAlloc, Journal, LocalAlloc, TruncateLog}
use Rattle.o2_model.specs.declared.system_file.SystemFile.{SystemFile}
use Rattle.o2_model.specs.declared.system_file.SystemFile.TheVariants.{BadBlocks, GlobalInodeAlloc, SlotMap, Heartbeat, GlobalBitmap, OfSlot}
use Rattle.o2_model.specs.Words.{among}
use Rattle.o2_model.specs.Faults.{fails_unless, fails_at}
use Rattle.o2_model.specs.Volume.{Volume, is_valid}
use Rattle.o2_model.specs.Inodes.{kind, is_directory, is_directory_kind, is_file, is_file_kind}
use Rattle.o2_model.specs.declared.entry.Entry.{Entry}
use Rattle.o2_model.specs.Directories.{directory_entries, is_dot, is_named, first_named, own_inodes}
use Rattle.o2_model.specs.SystemFiles.{system_name, slot_in_name, system_inode, slots}
use Rattle.o2_model.specs.Journals.{named_journal, journals}
use Rattle.o2_model.specs.Groups.{has_inode_bit, is_inode}
use Rattle.o2_model.specs.Checks.Sysdir.{is_sound_directory, sysdir_faults}
use Rattle.o2_model.specs.Checks.Root.{is_sound_root, root_faults}
use Rattle.o2_model.specs.Checks.Sysfile.{has_system_files, is_name_of_slot, has_kind_of_name, is_sound_system_entry, system_entries, sysfile_faults}
use Rattle.o2_model.specs.Failing.{faults, failing}
use Rattle.o2_laws.proofs.NothingFails.{no_check_fails}
use Rattle.o2_laws.proofs.SlotNames.{slot_only, slot_told_by_digits}
use Rattle.o2_model.proofs.Faults.{holds_unless}
use Rattle.o2_laws.proofs.Failing.{none_fails}
use Rattle.o2_laws.proofs.Found.{append_nothing, found, any_map, any_filter, passing, any_flat, find_passing, each_of, mapped_some}
use Rattle.o2_laws.proofs.Members.{among_one}

-- ---- checks
files_hold : (v : Volume) → failing v ≡ [] → sysfile_faults v ≡ []
unfolding faults
files_hold v none = no_check_fails v none check.Sysfile

root_holds : (v : Volume) → failing v ≡ [] → root_faults v ≡ []
unfolding faults
root_holds v none = no_check_fails v none check.Root

pub sysdir_holds : (v : Volume) → failing v ≡ [] → sysdir_faults v ≡ []
unfolding faults
sysdir_holds v none = no_check_fails v none check.Sysdir

file_parts : (v : Volume) → sysfile_faults v ≡ [] → (has_system_files v ≡ true) × AllByRecursion (λ e. is_sound_system_entry v e ≡ true) (system_entries v)
file_parts v h =
    let parts = append_nothing (fails_unless v.geo.sysdir (has_system_files v) ++ fails_at (λ e. e.inode) (is_sound_system_entry v) (system_entries v)) _ h in
    let both = append_nothing (fails_unless v.geo.sysdir (has_system_files v)) (fails_at (λ e. e.inode) (is_sound_system_entry v) (system_entries v)) parts.0 in
    (holds_unless v.geo.sysdir (has_system_files v) both.0, none_fails (λ e. e.inode) (is_sound_system_entry v) (system_entries v) both.1)

-- ---- the two directories
root_parts : (v : Volume) → failing v ≡ [] → (is_valid v v.geo.root ≡ true) × (is_directory v v.geo.root ≡ true)
unfolding is_sound_root
root_parts v none = and_parts (is_valid v v.geo.root) (is_directory v v.geo.root) (holds_unless v.geo.root (is_sound_root v) (root_holds v none))

sysdir_parts : (v : Volume) → failing v ≡ [] → (is_valid v v.geo.sysdir ≡ true) × (is_directory v v.geo.sysdir ≡ true)
unfolding is_sound_directory
sysdir_parts v none =
    let both = and_parts (is_valid v v.geo.sysdir && is_directory v v.geo.sysdir) _ (holds_unless v.geo.sysdir (is_sound_directory v v.geo.sysdir) (sysdir_holds v none)) in
    and_parts (is_valid v v.geo.sysdir) (is_directory v v.geo.sysdir) both.0

pub root_is_directory : (v : Volume) → failing v ≡ [] → is_directory v v.geo.root ≡ true
root_is_directory v none = (root_parts v none).1

pub sysdir_is_directory : (v : Volume) → failing v ≡ [] → is_directory v v.geo.sysdir ≡ true
sysdir_is_directory v none = (sysdir_parts v none).1

directories_have_bits : (v : Volume) → has_system_files v ≡ true → (has_inode_bit v v.geo.root ≡ true) × (has_inode_bit v v.geo.sysdir ≡ true)
unfolding has_system_files
directories_have_bits v h =
    let both = and_parts _ (has_inode_bit v v.geo.sysdir) h in
    ((and_parts _ (has_inode_bit v v.geo.root) both.0).1, both.1)

valid_on_bit : (v : Volume) (b : ℕ) → is_valid v b ≡ true → has_inode_bit v b ≡ true → is_inode v b ≡ true
unfolding is_inode
valid_on_bit v b valid bit = and_from (is_valid v b) (has_inode_bit v b) valid bit

pub root_is_inode : (v : Volume) → failing v ≡ [] → is_inode v v.geo.root ≡ true
root_is_inode v none = valid_on_bit v v.geo.root (root_parts v none).0 (directories_have_bits v (file_parts v (files_hold v none)).0).0

pub sysdir_is_inode : (v : Volume) → failing v ≡ [] → is_inode v v.geo.sysdir ≡ true
sysdir_is_inode v none = valid_on_bit v v.geo.sysdir (sysdir_parts v none).0 (directories_have_bits v (file_parts v (files_hold v none)).0).1

-- ---- names
dotless : (file : SystemFile) → (bytes_eq (system_name file) (codes ".") || bytes_eq (system_name file) (codes "..")) ≡ false
unfolding system_name
dotless BadBlocks = refl
dotless GlobalInodeAlloc = refl
dotless SlotMap = refl
dotless Heartbeat = refl
dotless GlobalBitmap = refl
dotless (OfSlot OrphanDir slot) = refl
dotless (OfSlot ExtentAlloc slot) = refl
dotless (OfSlot InodeAlloc slot) = refl
dotless (OfSlot Journal slot) = refl
dotless (OfSlot LocalAlloc slot) = refl
dotless (OfSlot TruncateLog slot) = refl

name_is : (e : Entry) (name : List ℕ) → is_named name e ≡ true → e.name ≡ name
name_is e name h = (bytes_eq-Decides e.name name).0 h

no_dot : (file : SystemFile) (e : Entry) → is_named (system_name file) e ≡ true → is_dot e ≡ false
no_dot file e h = ap (λ n. bytes_eq n (codes ".") || bytes_eq n (codes "..")) (name_is e (system_name file) h) ∙ dotless file

-- ---- the entry that names a file
filtered : {A : Type 0} (P : A → Type 0) (q : A → Bool) (xs : List A) → AllByRecursion P (filter q xs) → AllByRecursion (λ x. q x ≡ true → P x) xs
filtered P q [] h = tt
filtered P q (x ∷ xs) h = elim (cases_Bool (q x)) [
  | inl good ↦ let both : AllByRecursion P (x ∷ filter q xs) = rw good at h in (λ k. both.0, filtered P q xs both.1)
  | inr bad ↦ (λ k. absurd (false≢true (sym bad ∙ k)), filtered P q xs (rw bad at h))
]

record NamedFile (v : Volume) (file : SystemFile) (b : ℕ) : Type 0 where
  entry : Entry
  name : is_named (system_name file) entry ≡ true
  inode : entry.inode ≡ b
  sound : is_sound_system_entry v entry ≡ true
  own : among (own_inodes v) b ≡ true

-- what an entry but the dots names is the volume's own
entry_own : (v : Volume) (e : Entry) → Contains (directory_entries v v.geo.sysdir) e → not (is_dot e) ≡ true → among (own_inodes v) e.inode ≡ true
unfolding own_inodes
entry_own v e is h =
    or_right (e.inode == v.geo.sysdir) _ (any_map (λ m. e.inode == m) (λ (x : Entry). x.inode) (filter (λ x. not (is_dot x)) (directory_entries v v.geo.sysdir))
    ∙ (any_filter (λ x. e.inode == x.inode) (λ x. not (is_dot x)) (directory_entries v v.geo.sysdir)
    ∙ found (λ x. not (is_dot x) && e.inode == x.inode) (directory_entries v v.geo.sysdir) e is (and_from _ _ h (eq-eqb e.inode e.inode refl))))

named_file : (v : Volume) (file : SystemFile) (b : ℕ) → failing v ≡ [] → system_inode v file ≡ Some b → NamedFile v file b
unfolding system_inode
named_file v file b none h =
    let entry = mapped_some (λ (e : Entry). e.inode) (first_named v v.geo.sysdir (system_name file)) b h in
    let at = find_passing (is_named (system_name file)) (directory_entries v v.geo.sysdir) entry.0 entry.1 in
    let no_dots : not (is_dot entry.0) ≡ true = not_from_false _ (no_dot file entry.0 at.1) in
    let all = filtered (λ e. is_sound_system_entry v e ≡ true) (λ e. not (is_dot e)) (directory_entries v v.geo.sysdir) (file_parts v (files_hold v none)).1 in
    record {
      entry = entry.0;
      name = at.1;
      inode = entry.2;
      sound = each_of (λ e. not (is_dot e) ≡ true → is_sound_system_entry v e ≡ true) (directory_entries v v.geo.sysdir) entry.0 all at.0 no_dots;
      own = subst (λ x. among (own_inodes v) x ≡ true) entry.2 (entry_own v entry.0 at.0 no_dots);
    }

sound_parts : (v : Volume) (e : Entry) → is_sound_system_entry v e ≡ true → (is_inode v e.inode ≡ true) × (has_kind_of_name v e ≡ true)
unfolding is_sound_system_entry
sound_parts v e h = (grind arith, grind arith)

-- a file that is found is an inode
pub file_is_inode : (v : Volume) (file : SystemFile) (b : ℕ) → failing v ≡ [] → system_inode v file ≡ Some b → is_inode v b ≡ true
file_is_inode v file b none h =
    let named = named_file v file b none h in
    subst (λ x. is_inode v x ≡ true) named.inode (sound_parts v named.entry named.sound).0

-- and what is found by the name of an orphan directory is a directory
pub orphan_directory_is : (v : Volume) (slot b : ℕ) → failing v ≡ [] → system_inode v (OfSlot OrphanDir slot) ≡ Some b → is_directory v b ≡ true
unfolding has_kind_of_name
orphan_directory_is v slot b none h =
    let named = named_file v (OfSlot OrphanDir slot) b none h in
    let told : is_name_of_slot OrphanDir named.entry ≡ true
    = ap (λ name. is_some (slot_in_name OrphanDir name)) (name_is named.entry (system_name (OfSlot OrphanDir slot)) named.name) ∙ ap is_some (slot_told_by_digits OrphanDir slot) in
    subst (λ x. is_directory v x ≡ true) named.inode (and_parts (is_directory v named.entry.inode) _ (sym (cond-true (is_name_of_slot OrphanDir named.entry) _ _ told) ∙ (sound_parts v named.entry named.sound).1)).0

-- ---- journals
two_names : (s t : ℕ) → bytes_eq (system_name (OfSlot Journal s)) (system_name (OfSlot OrphanDir t)) ≡ false
unfolding system_name
two_names s t = refl

no_slot : (e : Entry) (s : ℕ) (slot : Option ℕ) → slot_in_name OrphanDir e.name ≡ slot → is_named (system_name (OfSlot Journal s)) e ≡ true → is_some slot ≡ false
no_slot e s None is h = refl
no_slot e s (Some t) is h =
    let other : e.name ≡ system_name (OfSlot OrphanDir t) = slot_only OrphanDir e.name t is in
    absurd (false≢true (sym (two_names s t) ∙ (ap (λ n. bytes_eq n (system_name (OfSlot OrphanDir t))) (sym (name_is e (system_name (OfSlot Journal s)) h)) ∙ (bytes_eq-Decides e.name (system_name (OfSlot OrphanDir t))).1 other)))

no_orphan_name : (e : Entry) (s : ℕ) → is_named (system_name (OfSlot Journal s)) e ≡ true → is_name_of_slot OrphanDir e ≡ false
no_orphan_name e s h = no_slot e s (slot_in_name OrphanDir e.name) refl h

is_file_by_name : (v : Volume) (e : Entry) → is_name_of_slot OrphanDir e ≡ false → has_kind_of_name v e ≡ true → is_file v e.inode ≡ true
unfolding has_kind_of_name
is_file_by_name v e other h = (and_parts (is_file v e.inode) _ (sym (cond-false (is_name_of_slot OrphanDir e) _ _ other) ∙ h)).0

two_kinds : (k : Option Kind) → is_file_kind k ≡ true → is_directory_kind k ≡ true → ⊥
two_kinds None f d = false≢true f
two_kinds (Some File) f d = false≢true d
two_kinds (Some Directory) f d = false≢true f
two_kinds (Some Character) f d = false≢true f
two_kinds (Some Block) f d = false≢true f
two_kinds (Some Fifo) f d = false≢true f
two_kinds (Some Socket) f d = false≢true f
two_kinds (Some Link) f d = false≢true f

no_file_directory : (v : Volume) (b : ℕ) → is_file v b ≡ true → is_directory v b ≡ true → ⊥
unfolding is_file is_directory
no_file_directory v b f d = two_kinds (kind v b) f d

journal_is_file : (v : Volume) (s b : ℕ) → failing v ≡ [] → named_journal v s ≡ Some b → is_file v b ≡ true
journal_is_file v s b none h =
    let named = named_file v (OfSlot Journal s) b none h in
    subst (λ x. is_file v x ≡ true) named.inode
    (is_file_by_name v named.entry (no_orphan_name named.entry s named.name) (sound_parts v named.entry named.sound).1)

of_option : (b : ℕ) (o : Option ℕ) → among (option_map_or (λ c. c ∷ []) o []) b ≡ true → o ≡ Some b
of_option b None h = absurd (false≢true h)
of_option b (Some c) h = let same : b ≡ c = eqb-true b c (among_one b c h) in rw same refl

-- the slot whose journal it is
record IsJournal (v : Volume) (b : ℕ) : Type 0 where
  slot : ℕ
  named : named_journal v slot ≡ Some b

journal_of_slot : (v : Volume) (b : ℕ) → among (journals v) b ≡ true → IsJournal v b
unfolding journals
journal_of_slot v b h =
    let s = passing (λ slot. among (option_map_or (λ c. c ∷ []) (named_journal v slot) []) b) (slots v)
    (sym (any_flat (λ m. b == m) (λ slot. option_map_or (λ c. c ∷ []) (named_journal v slot) []) (slots v)) ∙ h) in
    record { slot = s.item; named = of_option b (named_journal v s.item) s.passes }

pub journal_is_inode : (v : Volume) (b : ℕ) → failing v ≡ [] → among (journals v) b ≡ true → is_inode v b ≡ true
journal_is_inode v b none h =
    let journal = journal_of_slot v b h in
    file_is_inode v (OfSlot Journal journal.slot) b none journal.named

journal_listed : (v : Volume) (b : ℕ) → failing v ≡ [] → among (journals v) b ≡ true → is_file v b ≡ true
journal_listed v b none h =
    let journal = journal_of_slot v b h in
    journal_is_file v journal.slot b none journal.named

-- a journal is an inode
-- what is not the volume's own is no journal
pub users_apart : (v : Volume) (b : ℕ) → failing v ≡ [] → among (own_inodes v) b ≡ false → among (journals v) b ≡ false
users_apart v b none other = elim (cases_Bool (among (journals v) b)) [
  | inr apart ↦ apart
  | inl is ↦
      let journal = journal_of_slot v b is in
      let named = named_file v (OfSlot Journal journal.slot) b none journal.named in
      absurd (false≢true (sym other ∙ named.own))
]

-- a directory is no journal
pub directory_apart : (v : Volume) (d : ℕ) → failing v ≡ [] → is_directory v d ≡ true → among (journals v) d ≡ false
directory_apart v d none is = elim (cases_Bool (among (journals v) d)) [
  | inr apart ↦ apart
  | inl journal ↦ absurd (no_file_directory v d (journal_listed v d none journal) is)
]
