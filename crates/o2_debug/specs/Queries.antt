-- The answer to any query.
use Rattle.std.specs.Prelude.{◌≡◌, ◌⊎◌, ℕ, List, Option, Some, None}
use Rattle.o2_disk.specs.Output.{SinkState}
use Rattle.o2_model.specs.declared.check.Check.{Check}
use Rattle.o2_model.specs.Volume.{Volume}
use Rattle.o2_cause.specs.Taken.{Takes, TakesSome}
use Rattle.o2_dir.specs.PathTexts.{IsPath}
use Rattle.o2_debug.specs.declared.query.Query.{Query}
use Rattle.o2_debug.specs.declared.query.Query.TheVariants.{Stats, SlotMap, At}
use Rattle.o2_debug.specs.Answers.{path_of}
use Rattle.o2_debug.specs.PathAnswers.{IsPathAnswer, LacksName, LeadsToWrongKind, FailsOnPath}
use Rattle.o2_debug.specs.Texts.{stats_text, slot_map_text}

-- the path that the query names, if it names one
abbrev pub named_path : Query → Option (List ℕ)
named_path Stats = None
named_path SlotMap = None
named_path (At query) = Some (path_of query)

-- where it names one, that is a path
abbrev pub NamesPath : Query → Type 0
NamesPath Stats = Unit {0}
NamesPath SlotMap = Unit {0}
NamesPath (At query) = IsPath (path_of query)

-- ---- its text
-- This text answers the query: of a volume as a whole there is always one, and of a path where it leads to an inode that
-- the query is answered for.
abbrev pub IsAnswerText : Query → Volume → List ℕ → Type 0
IsAnswerText Stats v text = text ≡ stats_text v
IsAnswerText SlotMap v text = text ≡ slot_map_text v
IsAnswerText (At query) v text = IsPathAnswer query v text

-- the sink took a text that answers the query
abbrev pub AnswersAt : Query → Volume → SinkState → SinkState → Type 0
AnswersAt query v old new = (text : List ℕ) × (IsAnswerText query v text × Takes old new text)

-- or its first bytes, maybe none or all
abbrev pub AnswersSomeAt : Query → Volume → SinkState → SinkState → Type 0
AnswersSomeAt query v old new = (text : List ℕ) × (IsAnswerText query v text × TakesSome old new text)

-- nothing was put, or first bytes of a text that answers the query
abbrev pub BeginsAnswerAt : Query → Volume → SinkState → SinkState → Type 0
BeginsAnswerAt query v old new = (new ≡ old) ⊎ AnswersSomeAt query v old new

-- ---- why there is none, where the skeleton is sound: only a path can be refused
-- a name of the path has no live entry
abbrev pub IsAbsent : Query → Volume → Type 0
IsAbsent Stats v = ⊥
IsAbsent SlotMap v = ⊥
IsAbsent (At query) v = LacksName query v

-- an inode in the middle is no directory, or the last one is of a kind that the query is not for
abbrev pub IsOfWrongKind : Query → Volume → Type 0
IsOfWrongKind Stats v = ⊥
IsOfWrongKind SlotMap v = ⊥
IsOfWrongKind (At query) v = LeadsToWrongKind query v

-- this is the first check that fails on the way, or for the last inode, and this is the least block at which it does
abbrev pub FailsOn : Query → Volume → Check → ℕ → Type 0
FailsOn Stats v failing at = ⊥
FailsOn SlotMap v failing at = ⊥
FailsOn (At query) v failing at = FailsOnPath query v failing at
