-- A word asks for one query.
use Rattle.std.proofs.Common.{◌≡◌, ℕ, List, ◌++◌, codes, refl, sym, ◌∙◌, ap}
use Rattle.o2_debug.specs.Answers.{path_of}
use Rattle.o2_debug.specs.declared.query.PathQuery.{PathQuery}
use Rattle.o2_debug.specs.declared.query.PathQuery.TheVariants.{Ls, Stat, Cat, Refcount}
use Rattle.o2_debug.specs.declared.query.Query.{Query}
use Rattle.o2_debug.specs.declared.query.Query.TheVariants.{Stats, SlotMap, At}
use Rattle.o2_words.specs.QueryWords.{Asks, NamesPath, query_name}
use Rattle.o2_words.proofs.Refused.{apart}

-- ---- with a path
asks_path : (q r : PathQuery) (word : List ℕ) → NamesPath (query_name q) (path_of q) word → NamesPath (query_name r) (path_of r) word → q ≡ r
asks_path (Ls p) (Ls q) word a b = ap Ls (let same : codes "ls " ++ p ≡ codes "ls " ++ q = sym a.form ∙ b.form in cc same)
asks_path (Stat p) (Stat q) word a b = ap Stat (let same : codes "stat " ++ p ≡ codes "stat " ++ q = sym a.form ∙ b.form in cc same)
asks_path (Cat p) (Cat q) word a b = ap Cat (let same : codes "cat " ++ p ≡ codes "cat " ++ q = sym a.form ∙ b.form in cc same)
asks_path (Refcount p) (Refcount q) word a b = ap Refcount (let same : codes "refcount " ++ p ≡ codes "refcount " ++ q = sym a.form ∙ b.form in cc same)
asks_path (Ls p) (Stat q) word a b = absurd (apart 0 (codes "ls " ++ p) (codes "stat " ++ q) refl (sym a.form ∙ b.form))
asks_path (Ls p) (Cat q) word a b = absurd (apart 0 (codes "ls " ++ p) (codes "cat " ++ q) refl (sym a.form ∙ b.form))
asks_path (Ls p) (Refcount q) word a b = absurd (apart 0 (codes "ls " ++ p) (codes "refcount " ++ q) refl (sym a.form ∙ b.form))
asks_path (Stat p) (Ls q) word a b = absurd (apart 0 (codes "stat " ++ p) (codes "ls " ++ q) refl (sym a.form ∙ b.form))
asks_path (Stat p) (Cat q) word a b = absurd (apart 0 (codes "stat " ++ p) (codes "cat " ++ q) refl (sym a.form ∙ b.form))
asks_path (Stat p) (Refcount q) word a b = absurd (apart 0 (codes "stat " ++ p) (codes "refcount " ++ q) refl (sym a.form ∙ b.form))
asks_path (Cat p) (Ls q) word a b = absurd (apart 0 (codes "cat " ++ p) (codes "ls " ++ q) refl (sym a.form ∙ b.form))
asks_path (Cat p) (Stat q) word a b = absurd (apart 0 (codes "cat " ++ p) (codes "stat " ++ q) refl (sym a.form ∙ b.form))
asks_path (Cat p) (Refcount q) word a b = absurd (apart 0 (codes "cat " ++ p) (codes "refcount " ++ q) refl (sym a.form ∙ b.form))
asks_path (Refcount p) (Ls q) word a b = absurd (apart 0 (codes "refcount " ++ p) (codes "ls " ++ q) refl (sym a.form ∙ b.form))
asks_path (Refcount p) (Stat q) word a b = absurd (apart 0 (codes "refcount " ++ p) (codes "stat " ++ q) refl (sym a.form ∙ b.form))
asks_path (Refcount p) (Cat q) word a b = absurd (apart 0 (codes "refcount " ++ p) (codes "cat " ++ q) refl (sym a.form ∙ b.form))

-- ---- without one
stats_no_path : (q : PathQuery) (word : List ℕ) → word ≡ codes "stats" → NamesPath (query_name q) (path_of q) word → ⊥
stats_no_path (Ls p) word is named = apart 0 (codes "stats") (codes "ls " ++ p) refl (sym is ∙ named.form)
stats_no_path (Stat p) word is named = apart 4 (codes "stats") (codes "stat " ++ p) refl (sym is ∙ named.form)
stats_no_path (Cat p) word is named = apart 0 (codes "stats") (codes "cat " ++ p) refl (sym is ∙ named.form)
stats_no_path (Refcount p) word is named = apart 0 (codes "stats") (codes "refcount " ++ p) refl (sym is ∙ named.form)

slot_map_no_path : (q : PathQuery) (word : List ℕ) → word ≡ codes "slotmap" → NamesPath (query_name q) (path_of q) word → ⊥
slot_map_no_path (Ls p) word is named = apart 0 (codes "slotmap") (codes "ls " ++ p) refl (sym is ∙ named.form)
slot_map_no_path (Stat p) word is named = apart 1 (codes "slotmap") (codes "stat " ++ p) refl (sym is ∙ named.form)
slot_map_no_path (Cat p) word is named = apart 0 (codes "slotmap") (codes "cat " ++ p) refl (sym is ∙ named.form)
slot_map_no_path (Refcount p) word is named = apart 0 (codes "slotmap") (codes "refcount " ++ p) refl (sym is ∙ named.form)

pub asks_one : (q r : Query) (word : List ℕ) → Asks q word → Asks r word → q ≡ r
asks_one Stats Stats word a b = refl
asks_one SlotMap SlotMap word a b = refl
asks_one (At q) (At r) word a b = ap At (asks_path q r word a b)
asks_one Stats SlotMap word a b = absurd (apart 1 (codes "stats") (codes "slotmap") refl (sym a ∙ b))
asks_one SlotMap Stats word a b = absurd (apart 1 (codes "slotmap") (codes "stats") refl (sym a ∙ b))
asks_one Stats (At r) word a b = absurd (stats_no_path r word a b)
asks_one (At q) Stats word a b = absurd (stats_no_path q word b a)
asks_one SlotMap (At r) word a b = absurd (slot_map_no_path r word a b)
asks_one (At q) SlotMap word a b = absurd (slot_map_no_path q word b a)
