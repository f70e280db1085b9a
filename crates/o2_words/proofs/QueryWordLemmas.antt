-- What a word behind `debugfs -R` does not ask for.
use Rattle.std.proofs.Common.{◌≡◌, inl, inr, ℕ, List, ◌++◌, codes, subst, sym, ◌∙◌}
use Rattle.std.proofs.lemmas.List.{append_cancel_left}
use Rattle.o2_dir.specs.PathTexts.{IsPath}
use Rattle.o2_debug.specs.declared.query.PathQuery.TheVariants.{Ls, Stat, Cat, Refcount}
use Rattle.o2_debug.specs.declared.query.Query.TheVariants.{Stats, SlotMap, At}
use Rattle.o2_words.specs.declared.query_word.Asked.{Asked}
use Rattle.o2_words.specs.declared.query_word.Asked.TheVariants as asked
use Rattle.o2_words.specs.AskedWords.{IsAsked, AsksOfNoPath}
use Rattle.o2_words.specs.QueryWords.{IsNumber, NamesPath, NamesNumber, IsForLater, IsQueryWord}

-- what is behind the name is no path
pub names_no_path : (name word rest : List ℕ) → word ≡ name ++ rest → (IsPath rest → ⊥) → (path : List ℕ) → NamesPath name path word → ⊥
names_no_path name word rest is other path named = other (subst IsPath (append_cancel_left name path rest (sym named.form ∙ is)) named.is)

-- the word asks for nothing at the end of a path
pub asks_no_path : (word : List ℕ) → ((path : List ℕ) → NamesPath (codes "ls ") path word → ⊥) → ((path : List ℕ) → NamesPath (codes "stat ") path word → ⊥) → ((path : List ℕ) → NamesPath (codes "cat ") path word → ⊥)
    → ((path : List ℕ) → NamesPath (codes "refcount ") path word → ⊥) → AsksOfNoPath word
asks_no_path word ls stat cat refcount (Ls path) named = ls path named
asks_no_path word ls stat cat refcount (Stat path) named = stat path named
asks_no_path word ls stat cat refcount (Cat path) named = cat path named
asks_no_path word ls stat cat refcount (Refcount path) named = refcount path named

-- the word asks for nothing
pub asks_nothing : (word : List ℕ) → (word ≡ codes "stats" → ⊥) → (word ≡ codes "slotmap" → ⊥) → AsksOfNoPath word → (IsForLater word → ⊥) → IsQueryWord word → ⊥
asks_nothing word stats slots none later (inl (Stats, is)) = stats is
asks_nothing word stats slots none later (inl (SlotMap, is)) = slots is
asks_nothing word stats slots none later (inl (At query, named)) = none query named
asks_nothing word stats slots none later (inr is) = later is

-- a number, just where it is behind the name
pub number_is_behind : (name word rest : List ℕ) → word ≡ name ++ rest → (number : List ℕ) × NamesNumber name number word → IsNumber rest
number_is_behind name word rest is named = subst IsNumber (append_cancel_left name named.0 rest (sym named.1.form ∙ is)) named.1.is

-- a word that was read asks for something
pub asked_word : (asked : Asked) (word : List ℕ) → IsAsked asked word → IsQueryWord word
asked_word asked.Stats word is = inl (Stats, is)
asked_word asked.SlotMap word is = inl (SlotMap, is)
asked_word (asked.Ls path) word named = inl (At (Ls path.now), named)
asked_word (asked.Stat path) word named = inl (At (Stat path.now), named)
asked_word (asked.Cat path) word named = inl (At (Cat path.now), named)
asked_word (asked.Refcount path) word named = inl (At (Refcount path.now), named)
asked_word asked.Later word later = inr later
