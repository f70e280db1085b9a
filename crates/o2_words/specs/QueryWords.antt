-- What a word behind `debugfs -R` asks for.
use Rattle.std.specs.Prelude.{◌≡◌, ◌⊎◌, ℕ, ◌≤◌, true, List, ◌++◌, length, codes}
use Rattle.std.specs.Char.{is_ascii_digit}
use Rattle.std.specs.List.{list_all}
use Rattle.o2_dir.specs.PathTexts.{IsPath}
use Rattle.o2_debug.specs.Answers.{path_of}
use Rattle.o2_debug.specs.declared.query.PathQuery.{PathQuery}
use Rattle.o2_debug.specs.declared.query.PathQuery.TheVariants.{Ls, Stat, Cat, Refcount}
use Rattle.o2_debug.specs.declared.query.Query.{Query}
use Rattle.o2_debug.specs.declared.query.Query.TheVariants.{Stats, SlotMap, At}

-- a number on a command line: 1 to 18 digits
pub record IsNumber (text : List ℕ) : Type 0 where
  pub some : 1 ≤ length text
  pub most : length text ≤ 18
  pub digits : list_all is_ascii_digit text ≡ true

-- the word is this name, with the space behind it, and a path
pub record NamesPath (name path word : List ℕ) : Type 0 where
  pub form : word ≡ name ++ path
  pub is : IsPath path

-- or a number
pub record NamesNumber (name number word : List ℕ) : Type 0 where
  pub form : word ≡ name ++ number
  pub is : IsNumber number

-- the name of a query about what stands at the end of a path, with the space behind it
abbrev pub query_name : PathQuery → List ℕ
query_name (Ls path) = codes "ls "
query_name (Stat path) = codes "stat "
query_name (Cat path) = codes "cat "
query_name (Refcount path) = codes "refcount "

-- the word asks for this
abbrev pub Asks : Query → List ℕ → Type 0
Asks Stats word = word ≡ codes "stats"
Asks SlotMap word = word ≡ codes "slotmap"
Asks (At query) word = NamesPath (query_name query) (path_of query) word

-- the word asks for what is not answered yet
abbrev pub IsForLater : List ℕ → Type 0
IsForLater word =
    ((number : List ℕ) × NamesNumber (codes "logdump ") number word)
    ⊎ ((number : List ℕ) × NamesNumber (codes "icheck ") number word)

-- the word asks for something
abbrev pub IsQueryWord : List ℕ → Type 0
IsQueryWord word = ((query : Query) × Asks query word) ⊎ IsForLater word
