-- Words in their order, and what is read of them.
use Rattle.std.proofs.Common.{◌≡◌, ◌⊎◌, inl, inr, ℕ, ◌<◌, ◌≤◌, List, [], ◌∷◌, length, drop, get_or, String, string_bytes, codes, refl, sym, ◌∙◌, ap, subst, arith, Option, Some, None, MatchOption}
use Rattle.std.specs.declared.alloc.Global.{Global}
use Rattle.o2_words.specs.AskedWords.{IsAsked}
use Rattle.o2_words.specs.CommandLine.{Words, texts, IsDevice, IsDebugfs, RefusesWords, word_of, device_of}
use Rattle.o2_words.specs.Commands.{ReadsAsked}
use Rattle.o2_words.specs.QueryWords.{IsQueryWord}
use Rattle.o2_words.specs.declared.command.WordFault.{WordFault}
use Rattle.o2_words.specs.declared.command.WordFault.TheVariants as fault
use Rattle.o2_words.specs.declared.query_word.Asked.{Asked}
use Rattle.o2_words.specs.declared.query_word.Asked.TheVariants as asked
use Rattle.o2_words.proofs.QueryWordLemmas.{asked_word}

-- two words, and those behind them
pub first_two : (words : List (String Global)) (one two : String Global) → 2 ≤ length words → one ≡ get_or words 0 one → two ≡ get_or words 1 two → texts words ≡ string_bytes one ∷ string_bytes two ∷ texts (drop 2 words)
first_two [] one two least is is' = absurd (omega (arith, least))
first_two (w ∷ []) one two least is is' = absurd (omega (arith, least))
first_two (w ∷ v ∷ words) one two least is is' = ap (λ (s : String Global). string_bytes s ∷ string_bytes v ∷ texts words) (sym is) ∙ ap (λ (s : String Global). string_bytes one ∷ string_bytes s ∷ texts words) (sym is')

-- four words alone
pub all_four : (words : List (String Global)) (one two three four : String Global) → 4 ≤ length words → length words < 5 → one ≡ get_or words 0 one → two ≡ get_or words 1 two → three ≡ get_or words 2 three → four ≡ get_or words 3 four
    → texts words ≡ string_bytes one ∷ string_bytes two ∷ string_bytes three ∷ string_bytes four ∷ []
all_four [] one two three four least most a b c d = absurd (omega (arith, least))
all_four (s ∷ []) one two three four least most a b c d = absurd (omega (arith, least))
all_four (s ∷ t ∷ []) one two three four least most a b c d = absurd (omega (arith, least))
all_four (s ∷ t ∷ u ∷ []) one two three four least most a b c d = absurd (omega (arith, least))
all_four (s ∷ t ∷ u ∷ v ∷ []) one two three four least most a b c d =
    ap (λ (w : String Global). string_bytes w ∷ string_bytes t ∷ string_bytes u ∷ string_bytes v ∷ []) (sym a)
    ∙ ap (λ (w : String Global). string_bytes one ∷ string_bytes w ∷ string_bytes u ∷ string_bytes v ∷ []) (sym b)
    ∙ ap (λ (w : String Global). string_bytes one ∷ string_bytes two ∷ string_bytes w ∷ string_bytes v ∷ []) (sym c)
    ∙ ap (λ (w : String Global). string_bytes one ∷ string_bytes two ∷ string_bytes three ∷ string_bytes w ∷ []) (sym d)
all_four (s ∷ t ∷ u ∷ v ∷ w ∷ words) one two three four least most a b c d = absurd (omega (arith, most))

-- what was read of the word that asks tells whether they are a line of debugfs
pub asked_line : (words : Words) (word device : List ℕ) (read : Option Asked) → words ≡ codes "debugfs" ∷ codes "-R" ∷ word ∷ device ∷ [] → IsDevice device
    → MatchOption read (IsQueryWord word → ⊥) (λ asked. IsAsked asked word) → MatchOption read (IsDebugfs words → ⊥) (λ asked. ReadsAsked asked words)
asked_line words word device None form names other =
    λ line. other (let same : line.0 ≡ word = (let e = line.1.1.form in cc (e, form)) in subst IsQueryWord same line.1.1.asks)
asked_line words word device (Some asked) form names asks =
    subst (ReadsAsked asked) (sym form) (record {
      line = record { form = refl; asks = asked_word asked word asks; names = names };
      asks = asks;
    })

-- what the word that asks is refused for
pub asked_fault : (words : Words) (a : Asked) (f : WordFault) → ReadsAsked a words → (f ≡ fault.NoMemory) ⊎ ((f ≡ fault.Later) × (a ≡ asked.Later)) → RefusesWords words f
asked_fault words a f reads (inl none) = subst (RefusesWords words) (sym none) tt
asked_fault words a f reads (inr (later, is)) =
    subst (RefusesWords words) (sym later) (inr (inl (record { word = word_of words; device = device_of words; line = reads.line; later = subst (λ (b : Asked). IsAsked b (word_of words)) is reads.asks })))
