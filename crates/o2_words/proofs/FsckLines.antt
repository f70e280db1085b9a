-- The command lines of fsck, by their words.
use Rattle.std.proofs.Common.{◌≡◌, ◌⊎◌, inl, inr, ⊎_elim, ℕ, ◌+◌, ◌-◌, ◌<◌, ◌≤◌, List, [], ◌∷◌, ◌++◌, length, get_or, codes, refl, sym, ◌∙◌, ap, subst, arith, All}
use Rattle.std.specs.List.{AllZip, concat}
use Rattle.std.proofs.lemmas.List.{append-nil, length-append, get_or_at}
use Rattle.std.proofs.lemmas.List.Elements.{All-nil, All-append}
use Rattle.o2_words.specs.CommandLine.{Words, IsDevice, IsFsckLine, IsFsckOf, place_of_device, checked_device_of}
use Rattle.o2_words.specs.Forms.{Form, Matches}
use Rattle.o2_words.specs.LetterWords.{IsLetter, IsLetterWord, letter_of, GivesAnswer, IsAnswerWord}
use Rattle.o2_words.specs.Names.{text_of}
use Rattle.o2_words.specs.declared.kind.Kind.TheVariants.{Fixed, Letters}
use Rattle.o2_words.specs.declared.letters.Answer.{Answer}
use Rattle.o2_words.specs.declared.letters.Answer.TheVariants as answers
use Rattle.o2_words.specs.declared.name.Name.{Name}
use Rattle.o2_words.specs.declared.name.Name.TheVariants.{Fsck, Force, No, Yes}
use Rattle.o2_words.proofs.LetterLemmas.{AreWritten, written, at_most_two, f_is_letter, is_letter, gives_behind, gives_before, word_of_one}
use Rattle.o2_words.proofs.Worded.{form_of, worded, line_worded, short_form_of, short_worded, line_short_worded}

-- ---- the words between fsck and the device
-- the answer's letter alone behind the dash
abbrev pub answer_text : Answer → List ℕ
answer_text answer = codes "-" ++ letter_of answer ∷ []

-- two words that give an answer together: its letter alone, and f alone
abbrev pub AreApart : Answer → List ℕ → List ℕ → Type 0
AreApart answer first second = ((first ≡ codes "-f") × (second ≡ answer_text answer)) ⊎ ((first ≡ answer_text answer) × (second ≡ codes "-f"))

-- one word that gives the answer, or two
abbrev Answers : Answer → Words → Type 0
Answers answer between =
    ((word : List ℕ) × (between ≡ word ∷ []) × IsAnswerWord answer word)
    ⊎ ((first : List ℕ) × ((second : List ℕ) × (between ≡ first ∷ second ∷ []) × AreApart answer first second))

all_letters : (letters : List (List ℕ)) (between : Words) → AllZip IsLetterWord letters between → All IsLetter (concat letters)
all_letters [] [] each = All-nil IsLetter
all_letters [] (word ∷ between) each = absurd each
all_letters (first ∷ letters) [] each = absurd each
all_letters (first ∷ letters) (word ∷ between) each = All-append IsLetter first (concat letters) each.0.each (all_letters letters between each.1)

apart : (answer : Answer) (l m first second : List ℕ) → IsLetterWord l first → IsLetterWord m second → AreWritten answer (l ++ (m ++ [])) → AreApart answer first second
apart answer [] m first second is is' letters = absurd (omega (arith, is.some))
apart answer (a ∷ l) [] first second is is' letters = absurd (omega (arith, is'.some))
apart answer (a ∷ []) (b ∷ []) first second is is' letters = elim letters [
  | inl one ↦ absurd (cc one)
  | inr two ↦ elim two [
    | inl same ↦ inl (is.form ∙ ap (λ (c : ℕ). codes "-" ++ c ∷ []) (cc same), is'.form ∙ ap (λ (c : ℕ). codes "-" ++ c ∷ []) (cc same))
    | inr same ↦ inr (is.form ∙ ap (λ (c : ℕ). codes "-" ++ c ∷ []) (cc same), is'.form ∙ ap (λ (c : ℕ). codes "-" ++ c ∷ []) (cc same))
  ]
]
apart answer (a ∷ []) (b ∷ c ∷ m) first second is is' letters = absurd (omega (arith, at_most_two answer (a ∷ b ∷ c ∷ (m ++ [])) letters))
apart answer (a ∷ b ∷ l) (c ∷ m) first second is is' letters = absurd (omega (arith, at_most_two answer (a ∷ b ∷ (l ++ (c ∷ (m ++ [])))) letters, length-append l (c ∷ (m ++ []))))

answers_of : (answer : Answer) (letters : List (List ℕ)) (between : Words) → 0 < length between → AllZip IsLetterWord letters between → GivesAnswer answer (concat letters) → Answers answer between
answers_of answer letters [] some each gives = absurd (omega (arith, some))
answers_of answer [] (first ∷ between) some each gives = absurd each
answers_of answer (l ∷ []) (first ∷ []) some each gives = inl (first, refl, record { letters = l; is = each.0; gives = subst (GivesAnswer answer) (append-nil l) gives })
answers_of answer (l ∷ []) (first ∷ second ∷ between) some each gives = absurd each.1
answers_of answer (l ∷ m ∷ letters) (first ∷ []) some each gives = absurd each.1
answers_of answer (l ∷ m ∷ []) (first ∷ second ∷ []) some each gives =
    inr (first, (second, refl, apart answer l m first second each.0 each.1.0 (written answer (l ++ (m ++ [])) (all_letters (l ∷ m ∷ []) (first ∷ second ∷ []) each) gives)))
answers_of answer (l ∷ m ∷ []) (first ∷ second ∷ third ∷ between) some each gives = absurd each.1.1
answers_of answer (l ∷ m ∷ n ∷ letters) (first ∷ second ∷ []) some each gives = absurd each.1.1
answers_of answer (l ∷ m ∷ n ∷ letters) (first ∷ second ∷ third ∷ between) some each gives =
    let all = l ++ (m ++ (n ++ concat letters)) in
    let few : length all ≤ 2 = at_most_two answer all (written answer all (all_letters (l ∷ m ∷ n ∷ letters) (first ∷ second ∷ third ∷ between) each) gives) in
    absurd (omega (arith, few, each.0.some, each.1.0.some, each.1.1.0.some, length-append l (m ++ (n ++ concat letters)), length-append m (n ++ concat letters), length-append n (concat letters)))

-- ---- whole lines
-- with one word of letters
pub record InOne (answer : Answer) (words : Words) : Type 0 where
  pub word : List ℕ
  pub device : List ℕ
  pub is : words ≡ codes "fsck" ∷ word ∷ device ∷ []
  pub gives : IsAnswerWord answer word
  pub names : IsDevice device

-- with two
pub record InTwo (answer : Answer) (words : Words) : Type 0 where
  pub first : List ℕ
  pub second : List ℕ
  pub device : List ℕ
  pub is : words ≡ codes "fsck" ∷ first ∷ second ∷ device ∷ []
  pub apart : AreApart answer first second
  pub names : IsDevice device

-- a line of fsck has one or two
pub one_or_two : (answer : Answer) (words : Words) → IsFsckOf answer words → InOne answer words ⊎ InTwo answer words
one_or_two answer words (letters, (device, line)) = elim (answers_of answer letters line.between line.some line.each line.gives) [
  | inl (word, is, gives) ↦ inl (record { word = word; device = device; is = shown is; gives = gives; names = line.names })
  | inr (first, (second, is, both)) ↦ inr (record { first = first; second = second; device = device; is = shown is; apart = both; names = line.names })
]
  where
    shown : {between : Words} → line.between ≡ between → words ≡ codes "fsck" ∷ (between ++ device ∷ [])
    shown is = line.form ∙ ap (λ (b : Words). codes "fsck" ∷ (b ++ device ∷ [])) is

-- and each of these is one
pub in_one : (answer : Answer) (word device : List ℕ) → IsAnswerWord answer word → IsDevice device → IsFsckOf answer (codes "fsck" ∷ word ∷ device ∷ [])
in_one answer word device gives names = (
  gives.letters ∷ [],
  (
    device,
    record {
      between = word ∷ [];
      form = refl;
      some = omega arith;
      each = (gives.is, tt);
      gives = subst (GivesAnswer answer) (sym (append-nil gives.letters)) gives.gives;
      names = names;
    },
  ),
)

-- the words of f alone, and of the answer's letter alone
word_of_f : (word : List ℕ) → word ≡ codes "-f" → IsLetterWord (102 ∷ []) word
word_of_f word is = subst (IsLetterWord (102 ∷ [])) (sym is) (word_of_one 102 f_is_letter)

word_of_answer : (answer : Answer) (word : List ℕ) → word ≡ answer_text answer → IsLetterWord (letter_of answer ∷ []) word
word_of_answer answer word is = subst (IsLetterWord (letter_of answer ∷ [])) (sym is) (word_of_one (letter_of answer) (is_letter answer))

pub in_two : (answer : Answer) (first second device : List ℕ) → AreApart answer first second → IsDevice device → IsFsckOf answer (codes "fsck" ∷ first ∷ second ∷ device ∷ [])
in_two answer first second device (inl (f, a)) names = (
  (102 ∷ []) ∷ (letter_of answer ∷ []) ∷ [],
  (
    device,
    record {
      between = first ∷ second ∷ [];
      form = refl;
      some = omega arith;
      each = (word_of_f first f, (word_of_answer answer second a, tt));
      gives = gives_behind answer;
      names = names;
    },
  ),
)
in_two answer first second device (inr (a, f)) names = (
  (letter_of answer ∷ []) ∷ (102 ∷ []) ∷ [],
  (
    device,
    record {
      between = first ∷ second ∷ [];
      form = refl;
      some = omega arith;
      each = (word_of_answer answer first a, (word_of_f second f, tt));
      gives = gives_before answer;
      names = names;
    },
  ),
)

-- ---- the place of the device
pub device_is : (answer : Answer) (letters : List (List ℕ)) (device : List ℕ) (words : Words) → IsFsckLine answer letters device words → checked_device_of words ≡ device
device_is answer letters device words line =
    let n : length (codes "fsck" ∷ line.between) ≡ length words - 1 = omega (arith, ap length line.form, length-append line.between (device ∷ [])) in
    subst (λ (w : Words). get_or w (length words - 1) [] ≡ device) (sym line.form) (get_or_at (codes "fsck" ∷ line.between) device [] [] (length words - 1) n)

-- three words or four
pub how_many : (answer : Answer) (words : Words) → IsFsckOf answer words → (3 ≤ length words) × (length words ≤ 4)
how_many answer words line = elim (one_or_two answer words line) [
  | inl one ↦ (let n : length words ≡ 3 = ap length one.is in (omega (arith, n), omega (arith, n)))
  | inr two ↦ (let n : length words ≡ 4 = ap length two.is in (omega (arith, n), omega (arith, n)))
]

-- ---- the forms
-- the word of an answer's letter alone
abbrev pub name_of : Answer → Name
name_of answers.No = No
name_of answers.Yes = Yes

-- f first, and f last
abbrev pub force_first : Answer → Form
force_first answer = form_of Fsck Force (Fixed (name_of answer))

abbrev pub force_last : Answer → Form
force_last answer = form_of Fsck (name_of answer) (Fixed Force)

named : (answer : Answer) → text_of (name_of answer) ≡ answer_text answer
named answers.No = refl
named answers.Yes = refl

pub alone_line : (answer : Answer) (words : Words) → Matches (short_form_of Fsck (Letters answer)) words → IsFsckOf answer words
alone_line answer words line =
    let found = short_worded Fsck (Letters answer) words line in
    subst (IsFsckOf answer) (sym found.is) (in_one answer found.word found.device found.fits found.names)

pub force_first_line : (answer : Answer) (words : Words) → Matches (force_first answer) words → IsFsckOf answer words
force_first_line answer words line =
    let found = worded Fsck Force (Fixed (name_of answer)) words line in
    subst (IsFsckOf answer) (sym found.is) (in_two answer (codes "-f") found.word found.device (inl (refl, found.fits ∙ named answer)) found.names)

pub force_last_line : (answer : Answer) (words : Words) → Matches (force_last answer) words → IsFsckOf answer words
force_last_line answer words line =
    let found = worded Fsck (name_of answer) (Fixed Force) words line in
    subst (IsFsckOf answer) (sym found.is) (in_two answer (text_of (name_of answer)) found.word found.device (inr (named answer, found.fits)) found.names)

-- a line of fsck is one of these three
two_words : (answer : Answer) (words : Words) (two : InTwo answer words) → AreApart answer two.first two.second → Matches (force_first answer) words ⊎ Matches (force_last answer) words
two_words answer words two (inl (f, a)) =
    inl (line_worded Fsck Force (Fixed (name_of answer)) words (record {
      word = two.second;
      device = two.device;
      is = two.is ∙ ap (λ (w : List ℕ). codes "fsck" ∷ w ∷ two.second ∷ two.device ∷ []) f;
      fits = a ∙ sym (named answer);
      names = two.names;
    }))
two_words answer words two (inr (a, f)) =
    inr (line_worded Fsck (name_of answer) (Fixed Force) words (record {
      word = two.second;
      device = two.device;
      is = two.is ∙ ap (λ (w : List ℕ). codes "fsck" ∷ w ∷ two.second ∷ two.device ∷ []) (a ∙ sym (named answer));
      fits = f;
      names = two.names;
    }))

pub line_fsck : (answer : Answer) (words : Words) → IsFsckOf answer words → Matches (short_form_of Fsck (Letters answer)) words ⊎ (Matches (force_first answer) words ⊎ Matches (force_last answer) words)
line_fsck answer words line = elim (one_or_two answer words line) [
  | inl one ↦ inl (line_short_worded Fsck (Letters answer) words (record { word = one.word; device = one.device; is = one.is; fits = one.gives; names = one.names }))
  | inr two ↦ inr (two_words answer words two two.apart)
]

-- ---- words in hand
-- three words that are a line of fsck
pub of_three : (answer : Answer) (tool word device : List ℕ) → IsFsckOf answer (tool ∷ word ∷ device ∷ []) → (tool ≡ codes "fsck") × IsAnswerWord answer word × IsDevice device
of_three answer tool word device line = elim (one_or_two answer (tool ∷ word ∷ device ∷ []) line) [
  | inl one ↦ (let same = one.is in (cc same, subst (IsAnswerWord answer) (sym (cc same)) one.gives, subst IsDevice (sym (cc same)) one.names))
  | inr two ↦ absurd (let n = ap length two.is in omega (arith, n))
]

-- and four
pub of_four : (answer : Answer) (tool first second device : List ℕ) → IsFsckOf answer (tool ∷ first ∷ second ∷ device ∷ []) → (tool ≡ codes "fsck") × AreApart answer first second × IsDevice device
of_four answer tool first second device line = elim (one_or_two answer (tool ∷ first ∷ second ∷ device ∷ []) line) [
  | inl one ↦ absurd (let n = ap length one.is in omega (arith, n))
  | inr two ↦ (
      let same = two.is in
      let a : two.first ≡ first = cc same in
      let b : two.second ≡ second = cc same in
      (cc same, subst (λ (w : List ℕ). AreApart answer first w) b (subst (λ (w : List ℕ). AreApart answer w two.second) a two.apart), subst IsDevice (sym (cc same)) two.names))
]
