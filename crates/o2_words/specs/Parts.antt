-- The parts of a form, and the words that they read.
use Rattle.std.specs.Prelude.{◌≡◌, ℕ, List}
use Rattle.o2_words.specs.Names.{text_of}
use Rattle.o2_words.specs.Kinds.{Fits}
use Rattle.o2_words.specs.declared.form.Part.{Part}
use Rattle.o2_words.specs.declared.form.Part.TheVariants.{One, Perhaps, Optional, Flag}

-- the part begins with this word
abbrev pub Reads : Part → List ℕ → Type 0
Reads (One kind) word = Fits kind word
Reads (Perhaps kind) word = Fits kind word
Reads (Optional name kind) word = word ≡ text_of name
Reads (Flag name) word = word ≡ text_of name

-- a line may go on, or end, without the part
abbrev pub MayBeLeft : Part → Type 0
MayBeLeft (One kind) = ⊥
MayBeLeft (Perhaps kind) = Unit {0}
MayBeLeft (Optional name kind) = Unit {0}
MayBeLeft (Flag name) = Unit {0}
