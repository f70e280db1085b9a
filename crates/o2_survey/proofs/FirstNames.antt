-- The first entry of each name is the one whose inode is kept.
use Rattle.std.proofs.Common.{◌≡◌, inl, inr, ℕ, Bool, true, false, cond, List, ◌∷◌, find, refl, sym, ◌∙◌, ap, Option, Some, None}
use Rattle.std.specs.Prelude.{is_some, option_map}
use Rattle.std.specs.Option.{option_or}
use Rattle.std.proofs.lemmas.Bool.{cases_Bool, false≢true}
use Rattle.o2_model.specs.declared.entry.Entry.{Entry}
use Rattle.o2_model.specs.declared.system_file.SystemFile.{SystemFile}
use Rattle.o2_model.specs.Volume.{Volume}
use Rattle.o2_model.specs.Directories.{directory_entries, is_named}
use Rattle.o2_model.specs.SystemFiles.{system_name, system_inode}
use Rattle.o2_survey.specs.SystemNames.{inode_at, AreSystemNames}
use Rattle.o2_survey.specs.declared.system_names.SystemNames.{SystemNames}
use Rattle.o2_survey.proofs.NameMaps.{equal_names}

-- the inode of the first entry of the name
abbrev pub first_inode : List Entry → List ℕ → Option ℕ
first_inode es name = option_map (λ e. e.inode) (find (is_named name) es)

-- ---- one entry
kept : (o : Option ℕ) (test : Bool) (i : ℕ) → (test ≡ true → is_some o ≡ true) → o ≡ option_or o (cond test (Some i) None)
kept None true i has = absurd (false≢true (has refl))
kept None false i has = refl
kept (Some x) test i has = refl

added : (o : Option ℕ) (test : Bool) (i : ℕ) → (test ≡ true → is_some o ≡ false) → cond test (Some i) o ≡ option_or o (cond test (Some i) None)
added None true i none = refl
added None false i none = refl
added (Some x) true i none = absurd (false≢true (sym (none refl)))
added (Some x) false i none = refl

-- a name that the map has keeps its inode
pub met_before : (f : List ℕ → Option ℕ) (e : Entry) → is_some (f e.name) ≡ true → (name : List ℕ) → f name ≡ option_or (f name) (cond (is_named name e) (Some e.inode) None)
met_before f e has name = kept (f name) (is_named name e) e.inode (λ same. ap (λ n. is_some (f n)) (sym (equal_names e.name name same)) ∙ has)

-- a new one gets that of the entry
pub met_first : (f : List ℕ → Option ℕ) (e : Entry) → is_some (f e.name) ≡ false → (name : List ℕ) → cond (is_named name e) (Some e.inode) (f name) ≡ option_or (f name) (cond (is_named name e) (Some e.inode) None)
met_first f e none name = added (f name) (is_named name e) e.inode (λ same. ap (λ n. is_some (f n)) (sym (equal_names e.name name same)) ∙ none)

-- ---- all entries
pub one_taken : (o : Option ℕ) (e : Entry) (rest : List Entry) (name : List ℕ)
    → option_or (option_or o (cond (is_named name e) (Some e.inode) None)) (first_inode rest name) ≡ option_or o (first_inode (e ∷ rest) name)
one_taken o e rest name = elim (cases_Bool (is_named name e)) [
  | inl same ↦ rw same (first_of_two o)
  | inr other ↦ rw other (none_of_two o (first_inode rest name))
]
  where
    first_of_two : (o : Option ℕ) → option_or (option_or o (Some e.inode)) (first_inode rest name) ≡ option_or o (Some e.inode)
    first_of_two None = refl
    first_of_two (Some x) = refl

    none_of_two : (o later : Option ℕ) → option_or (option_or o None) later ≡ option_or o later
    none_of_two None later = refl
    none_of_two (Some x) later = refl

pub or_none : (o : Option ℕ) → option_or o None ≡ o
or_none None = refl
or_none (Some x) = refl

pub first_is : (v : Volume) (file : SystemFile) → first_inode (directory_entries v v.geo.sysdir) (system_name file) ≡ system_inode v file
unfolding system_inode
first_is v file = refl

-- such a map is that of the volume
pub named_so : (v : Volume) (names : SystemNames) (es : List Entry) → ((name : List ℕ) → inode_at names.inodes name ≡ first_inode es name) → es ≡ directory_entries v v.geo.sysdir → AreSystemNames v names
named_so v names es each are = record { each = λ file. each (system_name file) ∙ (ap (λ xs. first_inode xs (system_name file)) are ∙ first_is v file) }
