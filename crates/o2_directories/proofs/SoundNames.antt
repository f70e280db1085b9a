-- Where the names of entries are none, one entry more at a time.
use Rattle.std.proofs.Common.{◌≡◌, inl, inr, ℕ, ◌+◌, ◌<◌, List, [], ◌∷◌, ◌++◌, take, length, get_or, refl, sym, ◌∙◌, ap}
use Rattle.std.proofs.lemmas.Bool.{cases_Bool}
use Rattle.std.proofs.lemmas.List.{append_assoc, take_more}
use Rattle.o2_model.specs.Words.{push}
use Rattle.o2_model.specs.Faults.{fails_at, fails_unless}
use Rattle.o2_model.specs.Checks.DirentName.{is_sound_name}
use Rattle.o2_model.specs.declared.entry.Entry.{Entry}

-- the blocks of the entries whose names are none
abbrev pub name_faults : List Entry → List ℕ
name_faults es = fails_at (λ e. e.block) (λ e. is_sound_name e.name) es

abbrev pub faults_of_name : Entry → List ℕ
faults_of_name e = fails_unless e.block (is_sound_name e.name)

faults_push : (es : List Entry) (e : Entry) → name_faults (push es e) ≡ name_faults es ++ faults_of_name e
faults_push [] e = elim (cases_Bool (is_sound_name e.name)) [
  | inl good ↦ rw good refl
  | inr bad ↦ rw bad refl
]
faults_push (x ∷ xs) e = elim (cases_Bool (is_sound_name x.name)) [
  | inl good ↦ rw good (faults_push xs e)
  | inr bad ↦ rw bad (ap (λ ns. x.block ∷ ns) (faults_push xs e))
]

pub one_more : (es : List Entry) (i : ℕ) (e : Entry) (front found new : List ℕ) → i < length es → e ≡ get_or es i e → found ≡ front ++ name_faults (take i es)
    → new ≡ found ++ faults_of_name e → new ≡ front ++ name_faults (take (i + 1) es)
one_more es i e front found new inside here before more =
    more
    ∙ (ap (λ ns. ns ++ faults_of_name e) before
    ∙ (append_assoc front (name_faults (take i es)) (faults_of_name e)
    ∙ ap (λ ns. front ++ ns) (sym (faults_push (take i es) e) ∙ ap name_faults (ap (push (take i es)) here ∙ sym (take_more es i e inside)))))
