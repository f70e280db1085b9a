-- The words of letters in a command line of fsck.
use Rattle.std.specs.Prelude.{◌≢◌, ℕ, ◌<◌, List, ◌++◌, ◌≡◌, length, codes, All, AllPairs, Contains}
use Rattle.o2_words.specs.declared.letters.Answer.{Answer}
use Rattle.o2_words.specs.declared.letters.Answer.TheVariants.{No, Yes}

-- a letter that fsck knows
abbrev pub IsLetter : ℕ → Type 0
IsLetter letter = Contains (codes "fny") letter

-- a word of letters: a dash, and one letter or more behind it
pub record IsLetterWord (letters word : List ℕ) : Type 0 where
  pub form : word ≡ codes "-" ++ letters
  pub some : 0 < length letters
  pub each : All IsLetter letters

-- the letter of an answer: n, and y
abbrev pub letter_of : Answer → ℕ
letter_of No = 110
letter_of Yes = 121

abbrev pub other_than : Answer → Answer
other_than No = Yes
other_than Yes = No

-- Letters that give this answer: each stands at most once, and just the answer's letter of n and y stands.
pub record GivesAnswer (answer : Answer) (letters : List ℕ) : Type 0 where
  pub once : AllPairs (λ a b. a ≢ b) letters
  pub stands : Contains letters (letter_of answer)
  pub alone : Contains letters (letter_of (other_than answer)) → ⊥

-- a word of letters that gives an answer by itself
pub record IsAnswerWord (answer : Answer) (word : List ℕ) : Type 0 where
  pub letters : List ℕ
  pub is : IsLetterWord letters word
  pub gives : GivesAnswer answer letters
