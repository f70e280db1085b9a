-- The forms of command lines, and the words that follow them.
use Rattle.std.specs.Prelude.{◌≡◌, ℕ, ◌+◌, ◌<◌, ◌≤◌, List, [], ◌∷◌, ◌++◌, length, map, take, drop, slice_index_or, String, string_bytes, All, Any, HoldsAt, sum_by}
use Rattle.std.specs.List.{AllWithin}
use Rattle.std.specs.declared.alloc.Global.{Global}
use Rattle.o2_words.specs.Parts.{Reads, MayBeLeft}
use Rattle.o2_words.specs.declared.kind.Kind.{Kind}
use Rattle.o2_words.specs.declared.name.Name.{Name}
use Rattle.o2_words.specs.declared.form.Part.{Part}
use Rattle.o2_words.specs.declared.form.Part.TheVariants.{One, Perhaps, Optional, Flag}

-- the words behind the program's name
abbrev pub Words : Type 0
Words = List (List ℕ)

abbrev pub texts : List (String Global) → Words
texts words = map string_bytes words

-- the parts of a line, in their order
abbrev pub Form : Type 0
Form = List Part

-- The part has read its first word: what may follow. Options beside it may still stand, and its value comes first.
abbrev pub left_behind : Part → Form → Form → Form
left_behind (One kind) before behind = behind
left_behind (Perhaps kind) before behind = behind
left_behind (Optional name kind) before behind = One kind ∷ (before ++ behind)
left_behind (Flag name) before behind = before ++ behind

-- the line goes on without the part at this word
pub record IsPassed (word : List ℕ) (part : Part) : Type 0 where
  pub may : MayBeLeft part
  pub unread : Reads part word → ⊥

-- the part at this place is the one that reads the word
pub record IsReader (form : Form) (word : List ℕ) (place : ℕ) : Type 0 where
  pub within : place < length form
  pub reads : HoldsAt (λ part. Reads part word) form place
  pub passed : AllWithin (IsPassed word) form 0 place

-- the word is read, and this is left of the form
pub record Follows (form : Form) (word : List ℕ) (rest : Form) : Type 0 where
  pub place : ℕ
  pub reader : IsReader form word place
  pub leaves : HoldsAt (λ part. rest ≡ left_behind part (take place form) (drop (place + 1) form)) form place

-- all the words are
abbrev pub Leads : Form → Words → Form → Type 0
Leads form [] rest = rest ≡ form
Leads form (word ∷ words) rest = (next : Form) × Follows form word next × Leads next words rest

-- the words before this place follow the form, and the word there follows nothing that is left
pub record StopsAt (form : Form) (words : Words) (place : ℕ) : Type 0 where
  pub within : place ≤ length words
  pub left : Form
  pub leads : Leads form (take place words) left
  pub stops : place < length words → (rest : Form) → Follows left (slice_index_or words place []) rest → ⊥

-- how many words a part has
abbrev pub words_of : Part → ℕ
words_of (One kind) = 1
words_of (Perhaps kind) = 1
words_of (Optional name kind) = 2
words_of (Flag name) = 1

-- and a line of the form at most
abbrev pub most_words : Form → ℕ
most_words form = sum_by words_of form

-- the words are a line of the form: what is left may be left out
abbrev pub Matches : Form → Words → Type 0
Matches form words = (rest : Form) × Leads form words rest × All MayBeLeft rest

-- a line of one of the forms
abbrev pub IsLineOf : List Form → Words → Type 0
IsLineOf forms words = Any (λ form. Matches form words) forms

-- more words behind them make one
abbrev pub BeginsLineOf : List Form → Words → Type 0
BeginsLineOf forms words = (more : Words) × IsLineOf forms (words ++ more)

-- the words before this place begin a line, and with the word there they don't
pub record ReachesTo (forms : List Form) (words : Words) (place : ℕ) : Type 0 where
  pub within : place ≤ length words
  pub begins : BeginsLineOf forms (take place words)
  pub leaves : place < length words → BeginsLineOf forms (take (place + 1) words) → ⊥

-- the word is the name of an option that may still stand
pub record IsOption (form : Form) (word : List ℕ) : Type 0 where
  pub place : ℕ
  pub name : Name
  pub value : Kind
  pub reader : IsReader form word place
  pub is : HoldsAt (λ part. part ≡ Optional name value) form place
