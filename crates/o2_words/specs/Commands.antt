-- What a command read from words says of them.
use Rattle.std.specs.Prelude.{◌≡◌, ℕ, ◌<◌, List, length}
use Rattle.o2_debug.specs.declared.query.Query.{Query}
use Rattle.o2_words.specs.declared.command.Command.{Command}
use Rattle.o2_words.specs.declared.command.Command.TheVariants.{Label, Debug, Check}
use Rattle.o2_words.specs.declared.letters.Answer.TheVariants.{No}
use Rattle.o2_words.specs.declared.query_word.Asked.{Asked}
use Rattle.o2_words.specs.CommandLine.{Words, IsLabelLine, IsDebugLine, IsFsckLine, word_of, device_of, place_of_device, checked_device_of}
use Rattle.o2_words.specs.QueryWords.{Asks}
use Rattle.o2_words.specs.AskedWords.{IsAsked}

-- the words are a command line of tunefs that gives this label, and their device stands at this place
pub record ReadsLabel (label : List ℕ) (device : ℕ) (words : Words) : Type 0 where
  pub place : device ≡ 3
  pub line : IsLabelLine label (device_of words) words

-- the words are a command line of debugfs that asks for this, and their device stands at this place
pub record ReadsQuery (query : Query) (device : ℕ) (words : Words) : Type 0 where
  pub place : device ≡ 3
  pub line : IsDebugLine (word_of words) (device_of words) words
  pub asks : Asks query (word_of words)

-- the words are a command line of fsck by which a volume is checked and nothing written, and their device stands at this place
pub record ReadsCheck (device : ℕ) (words : Words) : Type 0 where
  pub place : device ≡ place_of_device words
  pub within : device < length words
  pub letters : List (List ℕ)
  pub line : IsFsckLine No letters (checked_device_of words) words

-- the words say this command
abbrev pub Says : Command → Words → Type 0
Says (Label label device) words = ReadsLabel label device words
Says (Debug query device) words = ReadsQuery query device words
Says (Check device) words = ReadsCheck device words

-- the words are a command line of debugfs, and this was read of the word that asks
pub record ReadsAsked (asked : Asked) (words : Words) : Type 0 where
  pub line : IsDebugLine (word_of words) (device_of words) words
  pub asks : IsAsked asked (word_of words)

-- the words are a command line of debugfs that asks this query, which is answered
abbrev pub AsksFor : Query → Words → Type 0
AsksFor query words = ReadsQuery query 3 words

-- or some query
abbrev pub AsksQuery : Words → Type 0
AsksQuery words = (query : Query) × AsksFor query words
