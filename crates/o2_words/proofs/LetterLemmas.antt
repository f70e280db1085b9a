-- The letters that give an answer, and the words that have them.
use Rattle.std.proofs.Common.{◌≡◌, ◌≢◌, ◌⊎◌, inl, inr, ⊎_elim, ℕ, zero, suc, ◌+◌, ◌<◌, ◌≤◌, List, [], ◌∷◌, ◌++◌, length, get_or, codes, refl, sym, ◌∙◌, ap, subst, arith, All, AllPairs, Contains}
use Rattle.std.proofs.lemmas.List.{get_or_default}
use Rattle.o2_words.specs.LetterWords.{IsLetter, IsLetterWord, letter_of, other_than, GivesAnswer, IsAnswerWord}
use Rattle.o2_words.specs.declared.letters.Answer.{Answer}
use Rattle.o2_words.specs.declared.letters.Answer.TheVariants.{No, Yes}

-- ---- one letter
-- the letter is f, or the answer's
abbrev pub IsOfAnswer : Answer → ℕ → Type 0
IsOfAnswer answer letter = (letter ≡ 102) ⊎ (letter ≡ letter_of answer)

three_letters : (letter : ℕ) → IsLetter letter → (letter ≡ 102) ⊎ ((letter ≡ 110) ⊎ (letter ≡ 121))
three_letters letter (zero, below, is) = inl (sym is)
three_letters letter (suc zero, below, is) = inr (inl (sym is))
three_letters letter (suc (suc zero), below, is) = inr (inr (sym is))
three_letters letter (suc (suc (suc k)), below, is) = absurd (omega (arith, below))

of_answer : (answer : Answer) (letter : ℕ) → IsLetter letter → letter ≢ letter_of (other_than answer) → IsOfAnswer answer letter
of_answer No letter is unlike = elim (three_letters letter is) [
  | inl f ↦ inl f
  | inr one ↦ elim one [
    | inl n ↦ inr n
    | inr y ↦ absurd (unlike y)
  ]
]
of_answer Yes letter is unlike = elim (three_letters letter is) [
  | inl f ↦ inl f
  | inr one ↦ elim one [
    | inl n ↦ absurd (unlike n)
    | inr y ↦ inr y
  ]
]

-- each letter of an answer
letter_at : (answer : Answer) (letters : List ℕ) → All IsLetter letters → GivesAnswer answer letters → (k : ℕ) → k < length letters → IsOfAnswer answer (get_or letters k 0)
letter_at answer letters each gives k within =
    of_answer answer (get_or letters k 0) (each k 0 within) (λ same. gives.alone (k, within, stands same))
  where
    stands : get_or letters k 0 ≡ letter_of (other_than answer) → get_or letters k (letter_of (other_than answer)) ≡ letter_of (other_than answer)
    stands same = get_or_default letters k (letter_of (other_than answer)) 0 within ∙ same

-- two of three such letters are the same
two_alike : (answer : Answer) (a b c : ℕ) → IsOfAnswer answer a → IsOfAnswer answer b → IsOfAnswer answer c → (a ≡ b) ⊎ ((a ≡ c) ⊎ (b ≡ c))
two_alike answer a b c (inl p) (inl q) r = inl (p ∙ sym q)
two_alike answer a b c (inr p) (inr q) r = inl (p ∙ sym q)
two_alike answer a b c (inl p) (inr q) (inl r) = inr (inl (p ∙ sym r))
two_alike answer a b c (inl p) (inr q) (inr r) = inr (inr (q ∙ sym r))
two_alike answer a b c (inr p) (inl q) (inl r) = inr (inr (q ∙ sym r))
two_alike answer a b c (inr p) (inl q) (inr r) = inr (inl (p ∙ sym r))

-- ---- the letters of an answer, written out
-- the answer's letter, and f before it, behind it or not at all
abbrev pub AreWritten : Answer → List ℕ → Type 0
AreWritten answer letters = (letters ≡ letter_of answer ∷ []) ⊎ ((letters ≡ 102 ∷ letter_of answer ∷ []) ⊎ (letters ≡ letter_of answer ∷ 102 ∷ []))

two_written : (answer : Answer) (a b : ℕ) → a ≢ b → IsOfAnswer answer a → IsOfAnswer answer b → AreWritten answer (a ∷ b ∷ [])
two_written answer a b unlike (inl p) (inl q) = absurd (unlike (p ∙ sym q))
two_written answer a b unlike (inr p) (inr q) = absurd (unlike (p ∙ sym q))
two_written answer a b unlike (inl p) (inr q) = inr (inl (ap (λ (l : ℕ). l ∷ b ∷ []) p ∙ ap (λ (l : ℕ). 102 ∷ l ∷ []) q))
two_written answer a b unlike (inr p) (inl q) = inr (inr (ap (λ (l : ℕ). l ∷ b ∷ []) p ∙ ap (λ (l : ℕ). letter_of answer ∷ l ∷ []) q))

pub written : (answer : Answer) (letters : List ℕ) → All IsLetter letters → GivesAnswer answer letters → AreWritten answer letters
written answer [] each gives = absurd (let within = gives.stands.1 in omega (arith, within))
written answer (a ∷ []) each gives = inl (ap (λ (l : ℕ). l ∷ []) (only gives.stands))
  where
    only : Contains (a ∷ []) (letter_of answer) → a ≡ letter_of answer
    only (zero, within, is) = is
    only (suc k, within, is) = absurd (omega (arith, within))
written answer (a ∷ b ∷ []) each gives =
    two_written answer a b (gives.once 0 1 0 (omega arith) (omega arith)) (letter_at answer (a ∷ b ∷ []) each gives 0 (omega arith)) (letter_at answer (a ∷ b ∷ []) each gives 1 (omega arith))
written answer (a ∷ b ∷ c ∷ more) each gives =
    absurd (⊎_elim (gives.once 0 1 0 (omega arith) (omega arith)) (⊎_elim (gives.once 0 2 0 (omega arith) (omega arith)) (gives.once 1 2 0 (omega arith) (omega arith)))
    (two_alike answer a b c (at 0 (omega arith)) (at 1 (omega arith)) (at 2 (omega arith))))
  where
    at : (k : ℕ) → k < 3 + length more → IsOfAnswer answer (get_or (a ∷ b ∷ c ∷ more) k 0)
    at k within = letter_at answer (a ∷ b ∷ c ∷ more) each gives k (omega (arith, within))

-- at most two
pub at_most_two : (answer : Answer) (letters : List ℕ) → AreWritten answer letters → length letters ≤ 2
at_most_two answer letters (inl is) = subst (λ (l : List ℕ). length l ≤ 2) (sym is) (omega arith)
at_most_two answer letters (inr (inl is)) = subst (λ (l : List ℕ). length l ≤ 2) (sym is) (omega arith)
at_most_two answer letters (inr (inr is)) = subst (λ (l : List ℕ). length l ≤ 2) (sym is) (omega arith)

-- ---- such letters give the answer
each_one : (l : ℕ) → IsLetter l → All IsLetter (l ∷ [])
each_one l is zero d within = is
each_one l is (suc k) d within = absurd (omega (arith, within))

each_two : (l m : ℕ) → IsLetter l → IsLetter m → All IsLetter (l ∷ m ∷ [])
each_two l m is is' zero d within = is
each_two l m is is' (suc zero) d within = is'
each_two l m is is' (suc (suc k)) d within = absurd (omega (arith, within))

pub f_is_letter : IsLetter 102
f_is_letter = (0, omega arith, refl)

pub is_letter : (answer : Answer) → IsLetter (letter_of answer)
is_letter No = (1, omega arith, refl)
is_letter Yes = (2, omega arith, refl)

-- the answer's letter is neither f nor the other one
apart_f : (answer : Answer) → 102 ≢ letter_of answer
apart_f No same = absurd (omega (arith, same))
apart_f Yes same = absurd (omega (arith, same))

apart_other : (answer : Answer) → letter_of answer ≢ letter_of (other_than answer)
apart_other No same = absurd (omega (arith, same))
apart_other Yes same = absurd (omega (arith, same))

-- it stands alone
gives_one : (answer : Answer) → GivesAnswer answer (letter_of answer ∷ [])
gives_one answer = record {
  once = λ i j d before within. absurd (omega (arith, before, within));
  stands = (0, omega arith, refl);
  alone = none;
}
  where
    none : Contains (letter_of answer ∷ []) (letter_of (other_than answer)) → ⊥
    none (zero, within, is) = apart_other answer is
    none (suc k, within, is) = absurd (omega (arith, within))

-- or beside f
gives_two : (answer : Answer) (a b : ℕ) → a ≢ b → Contains (a ∷ b ∷ []) (letter_of answer) → a ≢ letter_of (other_than answer) → b ≢ letter_of (other_than answer) → GivesAnswer answer (a ∷ b ∷ [])
gives_two answer a b unlike stands first second = record { once = once; stands = stands; alone = none }
  where
    once : AllPairs (λ a b. a ≢ b) (a ∷ b ∷ [])
    once zero (suc zero) d before within = unlike
    once zero zero d before within = absurd (omega (arith, before))
    once zero (suc (suc j)) d before within = absurd (omega (arith, within))
    once (suc i) j d before within = absurd (omega (arith, before, within))

    none : Contains (a ∷ b ∷ []) (letter_of (other_than answer)) → ⊥
    none (zero, within, is) = first is
    none (suc zero, within, is) = second is
    none (suc (suc k), within, is) = absurd (omega (arith, within))

pub gives_behind : (answer : Answer) → GivesAnswer answer (102 ∷ letter_of answer ∷ [])
gives_behind answer = gives_two answer 102 (letter_of answer) (apart_f answer) (1, omega arith, refl) (apart_f (other_than answer)) (apart_other answer)

pub gives_before : (answer : Answer) → GivesAnswer answer (letter_of answer ∷ 102 ∷ [])
gives_before answer = gives_two answer (letter_of answer) 102 (λ same. apart_f answer (sym same)) (0, omega arith, refl) (apart_other answer) (apart_f (other_than answer))

-- ---- words
-- one letter behind the dash
pub word_of_one : (letter : ℕ) → IsLetter letter → IsLetterWord (letter ∷ []) (codes "-" ++ letter ∷ [])
word_of_one letter is = record { form = refl; some = omega arith; each = each_one letter is }

word_of_two : (a b : ℕ) → IsLetter a → IsLetter b → IsLetterWord (a ∷ b ∷ []) (codes "-" ++ a ∷ b ∷ [])
word_of_two a b is is' = record { form = refl; some = omega arith; each = each_two a b is is' }

-- a word that gives the answer by itself has one of three texts
abbrev IsWritten : Answer → List ℕ → Type 0
IsWritten answer word = (word ≡ codes "-" ++ letter_of answer ∷ []) ⊎ ((word ≡ codes "-" ++ 102 ∷ letter_of answer ∷ []) ⊎ (word ≡ codes "-" ++ letter_of answer ∷ 102 ∷ []))

pub written_word : (answer : Answer) (word : List ℕ) → IsAnswerWord answer word → IsWritten answer word
written_word answer word gives = elim (written answer gives.letters gives.is.each gives.gives) [
  | inl is ↦ inl (text is)
  | inr one ↦ elim one [
    | inl is ↦ inr (inl (text is))
    | inr is ↦ inr (inr (text is))
  ]
]
  where
    text : {letters : List ℕ} → gives.letters ≡ letters → word ≡ codes "-" ++ letters
    text is = gives.is.form ∙ ap (λ (l : List ℕ). codes "-" ++ l) is

pub answer_word : (answer : Answer) (word : List ℕ) → IsWritten answer word → IsAnswerWord answer word
answer_word answer word (inl is) = subst (IsAnswerWord answer) (sym is) (record { letters = letter_of answer ∷ []; is = word_of_one (letter_of answer) (is_letter answer); gives = gives_one answer })
answer_word answer word (inr (inl is)) =
    subst (IsAnswerWord answer) (sym is) (record { letters = 102 ∷ letter_of answer ∷ []; is = word_of_two 102 (letter_of answer) f_is_letter (is_letter answer); gives = gives_behind answer })
answer_word answer word (inr (inr is)) =
    subst (IsAnswerWord answer) (sym is) (record { letters = letter_of answer ∷ 102 ∷ []; is = word_of_two (letter_of answer) 102 (is_letter answer) f_is_letter; gives = gives_before answer })

-- letters give one answer
pub one_answer : (letters : List ℕ) → GivesAnswer No letters → GivesAnswer Yes letters → ⊥
one_answer letters tells mends = tells.alone mends.stands
