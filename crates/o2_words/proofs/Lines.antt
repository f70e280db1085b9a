-- The lines of the forms that are served.
use Rattle.std.proofs.Common.{◌≡◌, ◌⊎◌, inl, inr, ⊎_elim, ℕ, zero, suc, ◌+◌, ◌<◌, get_or, refl, sym, subst, arith}
use Rattle.o2_words.specs.Forms.{Words, Form, Matches, ReachesTo}
use Rattle.o2_words.specs.CommandLine.{IsTunefs, IsDebugfs, IsFsckOf, IsFsck, IsLine, IsNotBuilt, RefusesWords, forms}
use Rattle.o2_words.specs.declared.command.WordFault.TheVariants.{Usage}
use Rattle.o2_words.specs.declared.form.TheConstants.{LABEL_FORM, DEBUG_FORM, NO_FORM, FORCE_NO_FORM, NO_FORCE_FORM, YES_FORM, FORCE_YES_FORM, YES_FORCE_FORM}
use Rattle.o2_words.specs.declared.kind.Kind.TheVariants.{Text, Query}
use Rattle.o2_words.specs.declared.letters.Answer.TheVariants.{No, Yes}
use Rattle.o2_words.specs.declared.name.Name.TheVariants.{Tunefs, Debugfs, Label, Ask}
use Rattle.o2_words.proofs.FsckLines.{alone_line, force_first_line, force_last_line, line_fsck}
use Rattle.o2_words.proofs.Worded.{worded, line_worded}

-- ---- the forms of tunefs and of debugfs
label_line : (words : Words) → Matches LABEL_FORM words → IsTunefs words
label_line words line =
    let found = worded Tunefs Label Text words line in
    (found.word, (found.device, record { form = found.is; names = found.names }))

line_label : (words : Words) → IsTunefs words → Matches LABEL_FORM words
line_label words (label, (device, line)) = line_worded Tunefs Label Text words (record { word = label; device = device; is = line.form; fits = tt; names = line.names })

debug_line : (words : Words) → Matches DEBUG_FORM words → IsDebugfs words
debug_line words line =
    let found = worded Debugfs Ask Query words line in
    (found.word, (found.device, record { form = found.is; asks = found.fits; names = found.names }))

line_debug : (words : Words) → IsDebugfs words → Matches DEBUG_FORM words
line_debug words (word, (device, line)) = line_worded Debugfs Ask Query words (record { word = word; device = device; is = line.form; fits = line.asks; names = line.names })

-- ---- all the forms
-- a line of some tool
abbrev IsOfTool : Words → Type 0
IsOfTool words = IsTunefs words ⊎ (IsDebugfs words ⊎ IsFsck words)

lines_at : (words : Words) (k : ℕ) (form : Form) → k < 8 → get_or forms k form ≡ form → Matches form words → IsOfTool words
lines_at words zero form below is line = inl (label_line words (subst (λ (f : Form). Matches f words) (sym is) line))
lines_at words (suc zero) form below is line = inr (inl (debug_line words (subst (λ (f : Form). Matches f words) (sym is) line)))
lines_at words (suc (suc zero)) form below is line = inr (inr (No, alone_line No words (subst (λ (f : Form). Matches f words) (sym is) line)))
lines_at words (suc (suc (suc zero))) form below is line = inr (inr (No, force_first_line No words (subst (λ (f : Form). Matches f words) (sym is) line)))
lines_at words (suc (suc (suc (suc zero)))) form below is line = inr (inr (No, force_last_line No words (subst (λ (f : Form). Matches f words) (sym is) line)))
lines_at words (suc (suc (suc (suc (suc zero))))) form below is line = inr (inr (Yes, alone_line Yes words (subst (λ (f : Form). Matches f words) (sym is) line)))
lines_at words (suc (suc (suc (suc (suc (suc zero)))))) form below is line = inr (inr (Yes, force_first_line Yes words (subst (λ (f : Form). Matches f words) (sym is) line)))
lines_at words (suc (suc (suc (suc (suc (suc (suc zero))))))) form below is line = inr (inr (Yes, force_last_line Yes words (subst (λ (f : Form). Matches f words) (sym is) line)))
lines_at words (suc (suc (suc (suc (suc (suc (suc (suc k)))))))) form below is line = absurd (omega (arith, below))

pub line_of : (words : Words) → IsLine words → IsTunefs words ⊎ (IsDebugfs words ⊎ IsFsck words)
line_of words (k, form, below, is, line) = lines_at words k form below is line

-- the forms of fsck
no_line : (words : Words) → IsFsckOf No words → IsLine words
no_line words line = elim (line_fsck No words line) [
  | inl alone ↦ (2, NO_FORM, omega arith, refl, alone)
  | inr two ↦ elim two [
    | inl first ↦ (3, FORCE_NO_FORM, omega arith, refl, first)
    | inr last ↦ (4, NO_FORCE_FORM, omega arith, refl, last)
  ]
]

yes_line : (words : Words) → IsFsckOf Yes words → IsLine words
yes_line words line = elim (line_fsck Yes words line) [
  | inl alone ↦ (5, YES_FORM, omega arith, refl, alone)
  | inr two ↦ elim two [
    | inl first ↦ (6, FORCE_YES_FORM, omega arith, refl, first)
    | inr last ↦ (7, YES_FORCE_FORM, omega arith, refl, last)
  ]
]

pub is_line : (words : Words) → IsTunefs words ⊎ (IsDebugfs words ⊎ IsFsck words) → IsLine words
is_line words (inl line) = (0, LABEL_FORM, omega arith, refl, line_label words line)
is_line words (inr (inl line)) = (1, DEBUG_FORM, omega arith, refl, line_debug words line)
is_line words (inr (inr (No, line))) = no_line words line
is_line words (inr (inr (Yes, line))) = yes_line words line

-- words that are no line of any, and the place up to which they are in order
pub usage_of : (words : Words) (place : ℕ) → (IsNotBuilt words → ⊥) → (IsTunefs words → ⊥) → (IsDebugfs words → ⊥) → (IsFsck words → ⊥) → ReachesTo forms words place → RefusesWords words (Usage place)
usage_of words place built label debug fsck reaches = (
  built,
  record {
    no_line = λ line. ⊎_elim label (⊎_elim debug fsck) (line_of words line);
    within = reaches.within;
    begins = reaches.begins;
    leaves = reaches.leaves;
  },
)
