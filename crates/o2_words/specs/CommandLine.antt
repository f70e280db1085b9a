-- The command lines that the program reads, and how it refuses other words.
use Rattle.std.specs.Prelude.{◌≡◌, ◌⊎◌, ℕ, ◌+◌, ◌-◌, ◌<◌, ◌≤◌, List, [], ◌∷◌, ◌++◌, length, map, take, codes, slice_index_or}
use Rattle.std.specs.List.{AllZip, concat}
use Rattle.o2_words.specs.Forms.{Form, IsLineOf, BeginsLineOf}
use Rattle.o2_words.specs.LetterWords.{IsLetterWord, GivesAnswer}
use Rattle.o2_words.specs.QueryWords.{IsForLater, IsQueryWord}
use Rattle.o2_words.specs.declared.command.WordFault.{WordFault}
use Rattle.o2_words.specs.declared.command.WordFault.TheVariants.{NoMemory, Usage, Later}
use Rattle.o2_words.specs.declared.form.TheConstants.{FORMS}
use Rattle.o2_words.specs.declared.letters.Answer.{Answer}
use Rattle.o2_words.specs.declared.letters.Answer.TheVariants.{No, Yes}
pub use Rattle.o2_words.specs.Forms.{Words, texts}
pub use Rattle.o2_words.specs.Kinds.{IsDevice}

-- tunefs -L LABEL DEVICE
pub record IsLabelLine (label device : List ℕ) (words : Words) : Type 0 where
  pub form : words ≡ codes "tunefs" ∷ codes "-L" ∷ label ∷ device ∷ []
  pub names : IsDevice device

-- debugfs -R WORD DEVICE
pub record IsDebugLine (word device : List ℕ) (words : Words) : Type 0 where
  pub form : words ≡ codes "debugfs" ∷ codes "-R" ∷ word ∷ device ∷ []
  pub asks : IsQueryWord word
  pub names : IsDevice device

-- fsck, words of letters and DEVICE. `letters` are those of each word, and all of them together give the answer
pub record IsFsckLine (answer : Answer) (letters : List (List ℕ)) (device : List ℕ) (words : Words) : Type 0 where
  pub between : Words
  pub form : words ≡ codes "fsck" ∷ (between ++ device ∷ [])
  pub some : 0 < length between
  pub each : AllZip IsLetterWord letters between
  pub gives : GivesAnswer answer (concat letters)
  pub names : IsDevice device

-- the words are a command line of tunefs
abbrev pub IsTunefs : Words → Type 0
IsTunefs words = (label : List ℕ) × ((device : List ℕ) × IsLabelLine label device words)

-- or of debugfs
abbrev pub IsDebugfs : Words → Type 0
IsDebugfs words = (word : List ℕ) × ((device : List ℕ) × IsDebugLine word device words)

-- or one of fsck that gives this answer
abbrev pub IsFsckOf : Answer → Words → Type 0
IsFsckOf answer words = (letters : List (List ℕ)) × ((device : List ℕ) × IsFsckLine answer letters device words)

-- or any one of fsck
abbrev pub IsFsck : Words → Type 0
IsFsck words = (answer : Answer) × IsFsckOf answer words

-- one by which a volume is checked and nothing written
abbrev pub IsCheckLine : Words → Type 0
IsCheckLine words = IsFsckOf No words

-- and one by which it is mended
abbrev pub IsMendLine : Words → Type 0
IsMendLine words = IsFsckOf Yes words

-- the forms that are served
abbrev pub forms : List Form
forms = map (λ form. form.now) FORMS

-- the words are a command line
abbrev pub IsLine : Words → Type 0
IsLine words = IsLineOf forms words

-- more words behind them make one
abbrev pub Begins : Words → Type 0
Begins words = BeginsLineOf forms words

-- The words are no command line, and leave the grammar at this place: those before it begin a command line, and with
-- the word there they don't. Words that end too soon leave it behind their last.
pub record LeavesAt (words : Words) (place : ℕ) : Type 0 where
  pub no_line : IsLine words → ⊥
  pub within : place ≤ length words
  pub begins : Begins (take place words)
  pub leaves : place < length words → Begins (take (place + 1) words) → ⊥

-- the first word is this one
abbrev pub IsFirst : List ℕ → Words → Type 0
IsFirst tool words = (rest : Words) × (words ≡ tool ∷ rest)

-- the first two are these
abbrev pub AreFirst : List ℕ → List ℕ → Words → Type 0
AreFirst tool option words = (rest : Words) × (words ≡ tool ∷ option ∷ rest)

-- a tool or a form that is not built yet
abbrev pub IsNotBuilt : Words → Type 0
IsNotBuilt words =
    IsFirst (codes "mkfs") words ⊎ IsFirst (codes "sample") words
    ⊎ AreFirst (codes "tunefs") (codes "-N") words ⊎ AreFirst (codes "tunefs") (codes "-J") words ⊎ AreFirst (codes "tunefs") (codes "-S") words

-- a command line of debugfs that asks for what is not answered yet
pub record IsLaterLine (words : Words) : Type 0 where
  pub word : List ℕ
  pub device : List ℕ
  pub line : IsDebugLine word device words
  pub later : IsForLater word

-- words that are not served, and why
abbrev pub RefusesWords : Words → WordFault → Type 0
RefusesWords words Later = IsNotBuilt words ⊎ IsLaterLine words ⊎ IsMendLine words
RefusesWords words (Usage place) = (IsNotBuilt words → ⊥) × LeavesAt words place
RefusesWords words NoMemory = Unit {0}

-- the first word, or nothing
abbrev pub tool_of : Words → List ℕ
tool_of words = slice_index_or words 0 []

-- the label that a command line of tunefs gives
abbrev pub label_of : Words → List ℕ
label_of words = slice_index_or words 2 []

-- the word that asks, in one of debugfs
abbrev pub word_of : Words → List ℕ
word_of words = slice_index_or words 2 []

-- the device's name, in either
abbrev pub device_of : Words → List ℕ
device_of words = slice_index_or words 3 []

-- the place of the device's name in one of fsck, where it is the last word
abbrev pub place_of_device : Words → ℕ
place_of_device words = length words - 1

-- and that name
abbrev pub checked_device_of : Words → List ℕ
checked_device_of words = slice_index_or words (place_of_device words) []
