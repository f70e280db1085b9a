-- The directories among the inodes, one inode more at a time.
use Rattle.std.proofs.Common.{◌≡◌, ℕ, Bool, true, false, cond, ◌||◌, List, [], ◌∷◌, ◌++◌, filter, refl, sym, ◌∙◌, ap}
use Rattle.std.specs.Prelude.{flat_map}
use Rattle.std.specs.List.{list_any}
use Rattle.std.proofs.lemmas.List.{append-nil}
use Rattle.std.proofs.lemmas.List.Elements.{filter-append}
use Rattle.std.proofs.lemmas.List.Folds.{list_any-append}
use Rattle.std.proofs.lemmas.Grind.{flat_map-append}
use Rattle.o2_ondisk.specs.Kinds.{kind_of_mode}
use Rattle.o2_model.specs.Words.{push}
use Rattle.o2_model.specs.Orders.{rising}
use Rattle.o2_model.specs.Volume.{Volume, dinode}
use Rattle.o2_model.specs.Inodes.{is_directory, is_directory_kind}
use Rattle.o2_model.specs.Groups.{inodes_of}
use Rattle.o2_tally.proofs.Sames.{any_rising, rising_same}
use Rattle.o2_tree.specs.TreeRows.{IsDirectoryTable}
use Rattle.o2_inodes.specs.Directories.{of_directory}
use Rattle.o2_inodes.specs.InodeSurveys.{TellsInodes}
use Rattle.o2_inodes.specs.declared.survey.InodeSurvey.{InodeSurvey}

-- ---- those that pass
filter_push : (p : ℕ → Bool) (bs : List ℕ) (b : ℕ) → filter p (push bs b) ≡ filter p bs ++ cond (p b) (b ∷ []) []
filter_push p bs b = filter-append p bs (b ∷ [])

-- ---- lists of faults
all_push : (v : Volume) (faults : Volume → ℕ → List ℕ) (bs : List ℕ) (b : ℕ)
    → flat_map (faults v) (filter (is_directory v) (push bs b)) ≡ flat_map (faults v) (filter (is_directory v) bs) ++ of_directory faults v b
all_push v faults bs b =
    ap (flat_map (faults v)) (filter_push (is_directory v) bs b)
    ∙ (flat_map-append (faults v) (filter (is_directory v) bs) (cond (is_directory v b) (b ∷ []) []) ∙ ap (λ ns. flat_map (faults v) (filter (is_directory v) bs) ++ ns) (one (is_directory v b)))
  where
    one : (p : Bool) → flat_map (faults v) (cond p (b ∷ []) []) ≡ cond p (faults v b) []
    one true = append-nil (faults v b)
    one false = refl

-- those of one inode behind those of the ones before
pub directory_more : (v : Volume) (faults : Volume → ℕ → List ℕ) (bs found new : List ℕ) (b : ℕ) → found ≡ flat_map (faults v) (filter (is_directory v) bs)
    → new ≡ found ++ of_directory faults v b → new ≡ flat_map (faults v) (filter (is_directory v) (push bs b))
directory_more v faults bs found new b before more = more ∙ (ap (λ ns. ns ++ of_directory faults v b) before ∙ sym (all_push v faults bs b))

-- the same up to order and repetition
pub again_more : (v : Volume) (faults : Volume → ℕ → List ℕ) (bs found new : List ℕ) (b : ℕ) → rising found ≡ rising (flat_map (faults v) (filter (is_directory v) bs))
    → ((ns : List ℕ) → rising found ≡ rising ns → rising new ≡ rising (ns ++ of_directory faults v b)) → rising new ≡ rising (flat_map (faults v) (filter (is_directory v) (push bs b)))
again_more v faults bs found new b before more = more (flat_map (faults v) (filter (is_directory v) bs)) before ∙ ap rising (sym (all_push v faults bs b))

-- what is the same in order is found by the same tests
same_found : (p : ℕ → Bool) (ns ms : List ℕ) → rising ns ≡ rising ms → list_any p ns ≡ list_any p ms
same_found p ns ms same = sym (any_rising p ns) ∙ (ap (list_any p) same ∙ any_rising p ms)

pub rising_both : (ns bs cs ds : List ℕ) → rising ns ≡ rising bs → rising cs ≡ rising ds → rising (ns ++ cs) ≡ rising (bs ++ ds)
rising_both ns bs cs ds first second =
    rising_same (ns ++ cs) (bs ++ ds)
    (λ p.
    list_any-append p ns cs
    ∙ (ap (λ t. t || list_any p cs) (same_found p ns bs first)
    ∙ (ap (λ t. list_any p bs || t) (same_found p cs ds second) ∙ sym (list_any-append p bs ds))))

-- those of a directory
pub of_one : (v : Volume) (faults : Volume → ℕ → List ℕ) (b : ℕ) → is_directory v b ≡ true → of_directory faults v b ≡ faults v b
of_one v faults b is = ap (λ c. cond c (faults v b) []) is

-- ---- inodes that pass a test
pub passed_more : (p : ℕ → Bool) (bs found new : List ℕ) (b : ℕ) → found ≡ filter p bs → new ≡ found ++ cond (p b) (b ∷ []) [] → new ≡ filter p (push bs b)
passed_more p bs found new b before more = more ∙ (ap (λ ns. ns ++ cond (p b) (b ∷ []) []) before ∙ sym (filter_push p bs b))

-- ---- the kind, and the whole table
pub directory_by : (v : Volume) (b : ℕ) (is : Bool) → is_directory_kind (kind_of_mode (dinode v b).mode) ≡ is → is_directory v b ≡ is
unfolding is_directory
directory_by v b is h = h

pub directory_table : (v : Volume) (survey : InodeSurvey) → TellsInodes v (inodes_of v) survey → IsDirectoryTable v survey.directories.items
directory_table v survey tells = record { directories = tells.directories.listed; each = tells.directories.each }
