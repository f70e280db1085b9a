-- What a word of each kind is.
use Rattle.std.specs.Prelude.{◌≡◌, ◌≢◌, ℕ, ◌<◌, List, length, slice_index}
use Rattle.o2_words.specs.Names.{text_of}
use Rattle.o2_words.specs.LetterWords.{IsAnswerWord}
use Rattle.o2_words.specs.QueryWords.{IsNumber, IsQueryWord}
use Rattle.o2_words.specs.declared.kind.Kind.{Kind}
use Rattle.o2_words.specs.declared.kind.Kind.TheVariants.{Fixed, Text, Device, Query, Number, Letters}

-- a word that may name a device: it is not empty and does not begin with a dash
pub record IsDevice (word : List ℕ) : Type 0 where
  pub some : 0 < length word
  pub no_option : slice_index word 0 ≢ 45

-- the word is one of the kind
abbrev pub Fits : Kind → List ℕ → Type 0
Fits (Fixed name) word = word ≡ text_of name
Fits Text word = Unit {0}
Fits Device word = IsDevice word
Fits Query word = IsQueryWord word
Fits Number word = IsNumber word
Fits (Letters answer) word = IsAnswerWord answer word
