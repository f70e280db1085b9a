-- What was read of a word behind `debugfs -R`.
use Rattle.std.specs.Prelude.{◌≡◌, List, ℕ, codes}
use Rattle.o2_debug.specs.Answers.{path_of}
use Rattle.o2_debug.specs.declared.query.PathQuery.{PathQuery}
use Rattle.o2_words.specs.QueryWords.{NamesPath, IsForLater, query_name}
use Rattle.o2_words.specs.declared.query_word.Asked.{Asked}
use Rattle.o2_words.specs.declared.query_word.Asked.TheVariants.{Stats, SlotMap, Ls, Stat, Cat, Refcount, Later}

-- the word asks for what was read
abbrev pub IsAsked : Asked → List ℕ → Type 0
IsAsked Stats word = word ≡ codes "stats"
IsAsked SlotMap word = word ≡ codes "slotmap"
IsAsked (Ls path) word = NamesPath (codes "ls ") path.now word
IsAsked (Stat path) word = NamesPath (codes "stat ") path.now word
IsAsked (Cat path) word = NamesPath (codes "cat ") path.now word
IsAsked (Refcount path) word = NamesPath (codes "refcount ") path.now word
IsAsked Later word = IsForLater word

-- the word asks for nothing that stands at the end of a path
abbrev pub AsksOfNoPath : List ℕ → Type 0
AsksOfNoPath word = (query : PathQuery) → NamesPath (query_name query) (path_of query) word → ⊥
