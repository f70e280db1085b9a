-- What a command line may be refused for.
use Rattle.std.proofs.Common.{◌≡◌, ◌≢◌, ◌⊎◌, inl, inr, ⊎_elim, ℕ, List, [], ◌∷◌, ◌++◌, length, get_or, codes, refl, sym, ◌∙◌, ap, subst, arith, nat_eq, false}
use Rattle.std.proofs.lemmas.Bool.Decides.{nat_tests}
use Rattle.o2_debug.specs.declared.query.Query.{Query}
use Rattle.o2_debug.specs.declared.query.Query.TheVariants.{Stats, SlotMap, At}
use Rattle.o2_debug.specs.declared.query.PathQuery.TheVariants.{Ls, Stat, Cat, Refcount}
use Rattle.o2_words.specs.CommandLine.{Words, IsTunefs, IsDebugfs, IsFsck, IsFsckOf, IsCheckLine, IsMendLine, IsLine, IsFirst, AreFirst, IsNotBuilt, RefusesWords, word_of}
use Rattle.o2_words.specs.Commands.{AsksQuery}
use Rattle.o2_words.specs.QueryWords.{Asks, IsForLater}
use Rattle.o2_words.specs.declared.command.WordFault.{WordFault}
use Rattle.o2_words.specs.declared.command.WordFault.TheVariants.{NoMemory, Usage, Later}
use Rattle.o2_words.specs.LetterWords.{letter_of, GivesAnswer, IsAnswerWord}
use Rattle.o2_words.specs.declared.letters.Answer.TheVariants.{No, Yes}
use Rattle.o2_words.proofs.FsckLines.{AreApart, answer_text, one_or_two}
use Rattle.o2_words.proofs.LetterLemmas.{one_answer}
use Rattle.o2_words.proofs.Lines.{is_line}

-- texts with other letters at this place are not the same
pub apart : (k : ℕ) (xs ys : List ℕ) → nat_eq (get_or xs k 0) (get_or ys k 0) ≡ false → xs ≡ ys → ⊥
apart k xs ys differ same = let letter : get_or xs k 0 ≡ get_or ys k 0 = ap (λ (l : List ℕ). get_or l k 0) same in absurd (grind (arith, nat_tests))

-- ---- built tools
-- the first word is another one
other_first : (tool first : List ℕ) (rest : Words) → (first ≡ tool → ⊥) → IsFirst tool (first ∷ rest) → ⊥
other_first tool first rest unlike is = unlike (let e = is.1 in cc e)

-- or the second one is
other_second : (tool option first second : List ℕ) (rest : Words) → (second ≡ option → ⊥) → AreFirst tool option (first ∷ second ∷ rest) → ⊥
other_second tool option first second rest unlike are = unlike (let e = are.1 in cc e)

label_is_built : (rest : Words) → IsNotBuilt (codes "tunefs" ∷ codes "-L" ∷ rest) → ⊥
label_is_built rest built =
    ⊎_elim (other_first (codes "mkfs") (codes "tunefs") (codes "-L" ∷ rest) (apart 0 (codes "tunefs") (codes "mkfs") refl))
    (⊎_elim (other_first (codes "sample") (codes "tunefs") (codes "-L" ∷ rest) (apart 0 (codes "tunefs") (codes "sample") refl))
    (⊎_elim (other_second (codes "tunefs") (codes "-N") (codes "tunefs") (codes "-L") rest (apart 1 (codes "-L") (codes "-N") refl))
    (⊎_elim (other_second (codes "tunefs") (codes "-J") (codes "tunefs") (codes "-L") rest (apart 1 (codes "-L") (codes "-J") refl))
    (other_second (codes "tunefs") (codes "-S") (codes "tunefs") (codes "-L") rest (apart 1 (codes "-L") (codes "-S") refl)))))
    built

not_tunefs : (option : List ℕ) (rest : Words) → AreFirst (codes "tunefs") option (codes "debugfs" ∷ rest) → ⊥
not_tunefs option rest are = let same : codes "debugfs" ≡ codes "tunefs" = (let e = are.1 in cc e) in apart 0 (codes "debugfs") (codes "tunefs") refl same

debug_is_built : (rest : Words) → IsNotBuilt (codes "debugfs" ∷ rest) → ⊥
debug_is_built rest built =
    ⊎_elim (other_first (codes "mkfs") (codes "debugfs") rest (apart 0 (codes "debugfs") (codes "mkfs") refl))
    (⊎_elim (other_first (codes "sample") (codes "debugfs") rest (apart 0 (codes "debugfs") (codes "sample") refl))
    (⊎_elim (not_tunefs (codes "-N") rest)
    (⊎_elim (not_tunefs (codes "-J") rest)
    (not_tunefs (codes "-S") rest))))
    built

-- no words are a line of both tools
pub not_both : (words : Words) → IsTunefs words → IsDebugfs words → ⊥
not_both words line asks = let same : codes "tunefs" ≡ codes "debugfs" = (let e = line.1.1.form in let f = asks.1.1.form in cc (e, f)) in apart 0 (codes "tunefs") (codes "debugfs") refl same

-- ---- a word asks for one thing
-- what is answered waits for no later version
pub not_later : (query : Query) (word : List ℕ) → Asks query word → IsForLater word → ⊥
not_later Stats word asks later =
    ⊎_elim (λ named. apart 0 (codes "stats") (codes "logdump " ++ named.0) refl (sym asks ∙ named.1.form)) (λ named. apart 0 (codes "stats") (codes "icheck " ++ named.0) refl (sym asks ∙ named.1.form)) later
not_later SlotMap word asks later =
    ⊎_elim (λ named. apart 0 (codes "slotmap") (codes "logdump " ++ named.0) refl (sym asks ∙ named.1.form)) (λ named. apart 0 (codes "slotmap") (codes "icheck " ++ named.0) refl (sym asks ∙ named.1.form)) later
not_later (At (Ls path)) word asks later =
    ⊎_elim (λ named. apart 1 (codes "ls " ++ path) (codes "logdump " ++ named.0) refl (sym asks.form ∙ named.1.form)) (λ named. apart 0 (codes "ls " ++ path) (codes "icheck " ++ named.0) refl (sym asks.form ∙ named.1.form)) later
not_later (At (Stat path)) word asks later =
    ⊎_elim (λ named. apart 0 (codes "stat " ++ path) (codes "logdump " ++ named.0) refl (sym asks.form ∙ named.1.form)) (λ named. apart 0 (codes "stat " ++ path) (codes "icheck " ++ named.0) refl (sym asks.form ∙ named.1.form)) later
not_later (At (Cat path)) word asks later =
    ⊎_elim (λ named. apart 0 (codes "cat " ++ path) (codes "logdump " ++ named.0) refl (sym asks.form ∙ named.1.form)) (λ named. apart 0 (codes "cat " ++ path) (codes "icheck " ++ named.0) refl (sym asks.form ∙ named.1.form)) later
not_later (At (Refcount path)) word asks later =
    ⊎_elim (λ named. apart 0 (codes "refcount " ++ path) (codes "logdump " ++ named.0) refl (sym asks.form ∙ named.1.form)) (λ named. apart 0 (codes "refcount " ++ path) (codes "icheck " ++ named.0) refl (sym asks.form ∙ named.1.form)) later

-- none are one of fsck and one of these
fsck_first : (words : Words) → IsFsck words → (rest : Words) × (words ≡ codes "fsck" ∷ rest)
fsck_first words (answer, (letters, (device, line))) = (line.between ++ device ∷ [], line.form)

pub not_tunefs_and_fsck : (words : Words) → IsTunefs words → IsFsck words → ⊥
not_tunefs_and_fsck words line fsck = let same : codes "tunefs" ≡ codes "fsck" = (let e = line.1.1.form in let f = (fsck_first words fsck).1 in cc (e, f)) in apart 0 (codes "tunefs") (codes "fsck") refl same

pub not_debugfs_and_fsck : (words : Words) → IsDebugfs words → IsFsck words → ⊥
not_debugfs_and_fsck words line fsck = let same : codes "debugfs" ≡ codes "fsck" = (let e = line.1.1.form in let f = (fsck_first words fsck).1 in cc (e, f)) in apart 0 (codes "debugfs") (codes "fsck") refl same

-- and none give both answers
both_words : (first second : List ℕ) → first ≡ second → IsAnswerWord No first → IsAnswerWord Yes second → ⊥
both_words first second same tells mends =
    let letters : 45 ∷ tells.letters ≡ 45 ∷ mends.letters = sym tells.is.form ∙ same ∙ mends.is.form in
    one_answer tells.letters tells.gives (subst (GivesAnswer Yes) (sym (cc letters)) mends.gives)

both_apart : (a b c d : List ℕ) → a ≡ c → b ≡ d → AreApart No a b → AreApart Yes c d → ⊥
both_apart a b c d first second (inl tells) (inl mends) = apart 1 (answer_text No) (answer_text Yes) refl (sym tells.1 ∙ second ∙ mends.1)
both_apart a b c d first second (inl tells) (inr mends) = apart 1 (codes "-f") (answer_text Yes) refl (sym tells.0 ∙ first ∙ mends.0)
both_apart a b c d first second (inr tells) (inl mends) = apart 1 (answer_text No) (codes "-f") refl (sym tells.0 ∙ first ∙ mends.0)
both_apart a b c d first second (inr tells) (inr mends) = apart 1 (answer_text No) (answer_text Yes) refl (sym tells.0 ∙ first ∙ mends.0)

pub one_of_both : (words : Words) → IsFsckOf No words → IsFsckOf Yes words → ⊥
one_of_both words tells mends = elim (one_or_two No words tells) [
  | inl one ↦ elim (one_or_two Yes words mends) [
    | inl other ↦ both_words one.word other.word (let e = one.is in let f = other.is in cc (e, f)) one.gives other.gives
    | inr other ↦ (let n = ap length (sym one.is ∙ other.is) in absurd (omega (arith, n)))
  ]
  | inr two ↦ elim (one_or_two Yes words mends) [
    | inl other ↦ (let n = ap length (sym two.is ∙ other.is) in absurd (omega (arith, n)))
    | inr other ↦ both_apart two.first two.second other.first other.second (let e = two.is in let f = other.is in cc (e, f)) (let e = two.is in let f = other.is in cc (e, f)) two.apart other.apart
  ]
]

fsck_is_built : (rest : Words) → IsNotBuilt (codes "fsck" ∷ rest) → ⊥
fsck_is_built rest built =
    ⊎_elim (other_first (codes "mkfs") (codes "fsck") rest (apart 0 (codes "fsck") (codes "mkfs") refl))
    (⊎_elim (other_first (codes "sample") (codes "fsck") rest (apart 0 (codes "fsck") (codes "sample") refl))
    (⊎_elim (λ are. first_apart (codes "-N") rest are)
    (⊎_elim (λ are. first_apart (codes "-J") rest are)
    (λ are. first_apart (codes "-S") rest are))))
    built
  where
    first_apart : (option : List ℕ) (rest : Words) → AreFirst (codes "tunefs") option (codes "fsck" ∷ rest) → ⊥
    first_apart option rest are = let same : codes "fsck" ≡ codes "tunefs" = (let e = are.1 in cc e) in apart 0 (codes "fsck") (codes "tunefs") refl same

-- ---- refusals
-- a command line is not refused for its place
pub no_usage : (words : Words) (fault : WordFault) (place : ℕ) → IsLine words → RefusesWords words fault → fault ≢ Usage place
no_usage words (Usage k) place line refused is = refused.1.no_line line
no_usage words Later place line refused is = cc is
no_usage words NoMemory place line refused is = cc is

-- one of tunefs is refused for want of memory alone
pub refused_tunefs : (words : Words) (fault : WordFault) → IsTunefs words → RefusesWords words fault → fault ≡ NoMemory
refused_tunefs words Later line (inl built) = absurd (label_is_built (line.0 ∷ line.1.0 ∷ []) (subst IsNotBuilt line.1.1.form built))
refused_tunefs words Later line (inr (inl later)) = absurd (not_both words line (later.word, (later.device, later.line)))
refused_tunefs words Later line (inr (inr mends)) = absurd (not_tunefs_and_fsck words line (Yes, mends))
refused_tunefs words (Usage place) line refused = absurd (refused.1.no_line (is_line words (inl line)))
refused_tunefs words NoMemory line refused = refl

-- one of debugfs waits for a later version, or is refused for want of memory
pub refused_debugfs : (words : Words) (fault : WordFault) → IsDebugfs words → RefusesWords words fault → (fault ≡ Later) ⊎ (fault ≡ NoMemory)
refused_debugfs words Later line refused = inl refl
refused_debugfs words (Usage place) line refused = absurd (refused.1.no_line (is_line words (inr (inl line))))
refused_debugfs words NoMemory line refused = inr refl

-- one that asks a query which is answered is refused for want of memory alone
pub refused_query : (words : Words) (fault : WordFault) → AsksQuery words → RefusesWords words fault → fault ≡ NoMemory
refused_query words Later (query, asks) (inl built) = absurd (debug_is_built _ (subst IsNotBuilt asks.line.form built))
refused_query words Later (query, asks) (inr (inr mends)) = absurd (not_debugfs_and_fsck words (word_of words, (_, asks.line)) (Yes, mends))
refused_query words Later (query, asks) (inr (inl later)) =
    absurd (let same : word_of words ≡ later.word = (let e = asks.line.form in let f = later.line.form in cc (e, f)) in not_later query (word_of words) asks.asks (subst IsForLater (sym same) later.later))
refused_query words (Usage place) (query, asks) refused = absurd (refused.1.no_line (is_line words (inr (inl (word_of words, (_, asks.line))))))
refused_query words NoMemory asks refused = refl

-- one of fsck that asks for no change is refused for want of memory alone
pub refused_check : (words : Words) (fault : WordFault) → IsCheckLine words → RefusesWords words fault → fault ≡ NoMemory
refused_check words Later line (inl built) = absurd (let first = fsck_first words (No, line) in fsck_is_built first.0 (subst IsNotBuilt first.1 built))
refused_check words Later line (inr (inl later)) = absurd (not_debugfs_and_fsck words (later.word, (later.device, later.line)) (No, line))
refused_check words Later line (inr (inr mends)) = absurd (one_of_both words line mends)
refused_check words (Usage place) line refused = absurd (refused.1.no_line (is_line words (inr (inr (No, line)))))
refused_check words NoMemory line refused = refl

-- one that mends waits for a later version, or is refused for want of memory
pub refused_mend : (words : Words) (fault : WordFault) → IsMendLine words → RefusesWords words fault → (fault ≡ Later) ⊎ (fault ≡ NoMemory)
refused_mend words Later line refused = inl refl
refused_mend words (Usage place) line refused = absurd (refused.1.no_line (is_line words (inr (inr (Yes, line)))))
refused_mend words NoMemory line refused = inr refl
