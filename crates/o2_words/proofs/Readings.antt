-- Words are read in one way, and every form has a line.
use Rattle.std.proofs.Common.{◌≡◌, inl, inr, ℕ, ◌+◌, ◌<◌, ◌≤◌, List, [], ◌∷◌, ◌++◌, take, drop, get_or, refl, sym, ◌∙◌, ap, subst, arith, codes}
use Rattle.std.proofs.lemmas.Bool.{cases_order}
use Rattle.std.proofs.lemmas.List.{drop_more, take-append-drop}
use Rattle.std.proofs.lemmas.List.Elements.{All-nil}
use Rattle.std.proofs.lemmas.List.Sums.{sum_by-append, sum_by-cons}
use Rattle.o2_debug.specs.declared.query.Query.TheVariants.{Stats}
use Rattle.o2_words.specs.Names.{text_of}
use Rattle.o2_words.specs.Kinds.{Fits}
use Rattle.o2_words.specs.LetterWords.{letter_of}
use Rattle.o2_words.specs.Parts.{Reads, MayBeLeft}
use Rattle.o2_words.specs.Forms.{Words, Form, left_behind, IsReader, Follows, Leads, Matches, words_of, most_words}
use Rattle.o2_words.specs.declared.kind.Kind.{Kind}
use Rattle.o2_words.specs.declared.kind.Kind.TheVariants.{Fixed, Text, Device, Query, Number, Letters}
use Rattle.o2_words.specs.declared.form.Part.{Part}
use Rattle.o2_words.specs.declared.form.Part.TheVariants.{One, Perhaps, Optional, Flag}
use Rattle.o2_words.proofs.LetterLemmas.{answer_word}

-- some part, where one is asked for behind the end
pub some_part : Part
some_part = One Text

-- ---- one reading
-- a part that reads the word is not passed
one_before : (form : Form) (word : List ℕ) (p q : ℕ) → IsReader form word p → IsReader form word q → p < q → ⊥
one_before form word p q a b before = (b.passed p some_part (omega arith) before).unread (a.reads some_part)

pub one_reader : (form : Form) (word : List ℕ) (p q : ℕ) → IsReader form word p → IsReader form word q → p ≡ q
one_reader form word p q a b = elim (cases_order p q) [
  | inl same ↦ same
  | inr other ↦ elim other [
    | inl before ↦ absurd (one_before form word p q a b before)
    | inr behind ↦ absurd (one_before form word q p b a behind)
  ]
]

pub one_rest : (form : Form) (word : List ℕ) (a b : Form) → Follows form word a → Follows form word b → a ≡ b
one_rest form word a b f g =
    let same : f.place ≡ g.place = one_reader form word f.place g.place f.reader g.reader in
    let is : a ≡ left_behind (get_or form f.place some_part) (take f.place form) (drop (f.place + 1) form) = f.leaves some_part in
    let is' : b ≡ left_behind (get_or form g.place some_part) (take g.place form) (drop (g.place + 1) form) = g.leaves some_part in
    is ∙ ap (λ (k : ℕ). left_behind (get_or form k some_part) (take k form) (drop (k + 1) form)) same ∙ sym is'

-- words behind those that were read
pub leads_on : (form left end : Form) (before words : Words) → Leads form before left → Leads left words end → Leads form (before ++ words) end
leads_on form left end [] words same on = subst (λ (f : Form). Leads f words end) same on
leads_on form left end (word ∷ before) words (next, step, more) on = (next, step, leads_on next left end before words more on)

pub leads_back : (form left end : Form) (before words : Words) → Leads form before left → Leads form (before ++ words) end → Leads left words end
leads_back form left end [] words same all = subst (λ (f : Form). Leads f words end) (sym same) all
leads_back form left end (word ∷ before) words (next, step, more) (next', step', all) =
    let same : next' ≡ next = one_rest form word next' next step' step in
    leads_back next left end before words more (subst (λ (f : Form). Leads f (before ++ words) end) same all)

-- one word more
pub leads_more : (form left next : Form) (before : Words) (word : List ℕ) → Leads form before left → Follows left word next → Leads form (before ++ word ∷ []) next
leads_more form left next before word leads step = leads_on form left next before (word ∷ []) leads (next, step, refl)

-- ---- every form has a line
-- a word of the kind
pub sample_of : Kind → List ℕ
sample_of (Fixed name) = text_of name
sample_of Text = []
sample_of Device = codes "d"
sample_of Query = codes "stats"
sample_of Number = codes "0"
sample_of (Letters answer) = codes "-" ++ letter_of answer ∷ []

pub sample_fits : (kind : Kind) → Fits kind (sample_of kind)
unfolding sample_of
sample_fits (Fixed name) = refl
sample_fits Text = tt
sample_fits Device = record { some = omega arith; no_option = λ is. absurd (omega (arith, is)) }
sample_fits Query = inl (Stats, refl)
sample_fits Number = record { some = omega arith; most = omega arith; digits = refl }
sample_fits (Letters answer) = answer_word answer (codes "-" ++ letter_of answer ∷ []) (inl refl)

-- the first part of a form reads the word
pub first_reads : (part : Part) (form : Form) (word : List ℕ) → Reads part word → Follows (part ∷ form) word (left_behind part [] form)
first_reads part form word reads = record {
  place = 0;
  reader = record { within = omega arith; reads = λ d. reads; passed = λ k d low high. absurd (omega arith) };
  leaves = λ d. refl;
}

pub has_line : (form : Form) → (more : Words) × Matches form more
has_line [] = ([], ([], refl, All-nil MayBeLeft))
has_line (One kind ∷ form) =
    let line = has_line form in
    (sample_of kind ∷ line.0, (line.1.0, (form, first_reads (One kind) form (sample_of kind) (sample_fits kind), line.1.1), line.1.2))
has_line (Perhaps kind ∷ form) =
    let line = has_line form in
    (sample_of kind ∷ line.0, (line.1.0, (form, first_reads (Perhaps kind) form (sample_of kind) (sample_fits kind), line.1.1), line.1.2))
has_line (Optional name kind ∷ form) =
    let line = has_line form in
    let value : Leads (One kind ∷ form) (sample_of kind ∷ line.0) line.1.0 = (form, first_reads (One kind) form (sample_of kind) (sample_fits kind), line.1.1) in
    (text_of name ∷ sample_of kind ∷ line.0, (line.1.0, (One kind ∷ form, first_reads (Optional name kind) form (text_of name) refl, value), line.1.2))
has_line (Flag name ∷ form) =
    let line = has_line form in
    (text_of name ∷ line.0, (line.1.0, (form, first_reads (Flag name) form (text_of name) refl, line.1.1), line.1.2))

-- ---- how many words a line has
fewer : (part : Part) (before behind : Form) → most_words (left_behind part before behind) + 1 ≤ most_words (before ++ part ∷ behind)
fewer (One kind) before behind = omega (arith, sum_by-append words_of before (One kind ∷ behind), sum_by-cons words_of (One kind) behind)
fewer (Perhaps kind) before behind = omega (arith, sum_by-append words_of before (Perhaps kind ∷ behind), sum_by-cons words_of (Perhaps kind) behind)
fewer (Optional name kind) before behind = omega (arith, sum_by-append words_of before (Optional name kind ∷ behind), sum_by-cons words_of (Optional name kind) behind, sum_by-cons words_of (One kind) (before ++ behind), sum_by-append words_of before behind)
fewer (Flag name) before behind = omega (arith, sum_by-append words_of before (Flag name ∷ behind), sum_by-cons words_of (Flag name) behind, sum_by-append words_of before behind)

-- a word that is read
pub one_fewer : (form : Form) (word : List ℕ) (rest : Form) → Follows form word rest → most_words rest + 1 ≤ most_words form
one_fewer form word rest f =
    let part = get_or form f.place some_part in
    let whole : take f.place form ++ part ∷ drop (f.place + 1) form ≡ form = ap (λ (t : Form). take f.place form ++ t) (sym (drop_more form f.place some_part f.reader.within)) ∙ take-append-drop f.place form in
    subst (λ (g : Form). most_words g + 1 ≤ most_words form) (sym (f.leaves some_part))
    (subst (λ (g : Form). most_words (left_behind part (take f.place form) (drop (f.place + 1) form)) + 1 ≤ most_words g) whole (fewer part (take f.place form) (drop (f.place + 1) form)))
