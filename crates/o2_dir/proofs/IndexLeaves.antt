-- Leaves of an index whose entries are put one behind the other.
use Rattle.std.proofs.Common.{◌≡◌, ℕ, Bool, true, false, ◌&&◌, List, [], ◌∷◌, ◌++◌, flat_map, refl, sym, ◌∙◌, ap}
use Rattle.std.specs.List.{list_all}
use Rattle.std.proofs.lemmas.Bool.{false≢true}
use Rattle.std.proofs.lemmas.Grind.{flat_map-append}
use Rattle.std.proofs.lemmas.List.{append_assoc, append-nil}
use Rattle.std.proofs.lemmas.List.Folds.{list_all-append}
use Rattle.o2_ondisk.specs.declared.dx_entry.DxEntry.{DxEntry}
use Rattle.o2_model.specs.Volume.{Volume}
use Rattle.o2_model.specs.Indexes.{is_sound_index_leaf, dx_entries_at}
use Rattle.o2_dir.specs.IndexForms.{AddsLeaves}

-- ---- one list of leaves and another
pub adds_none : (v : Volume) (entries : List DxEntry) → AddsLeaves v [] true entries entries
adds_none v entries = record { all = refl; added = λ good. sym (append-nil entries) }

pub adds_one : (v : Volume) (b : ℕ) (sound : Bool) (before after : List DxEntry) → sound ≡ is_sound_index_leaf v b
    → (sound ≡ true → after ≡ before ++ dx_entries_at v 0x28 b) → AddsLeaves v (b ∷ []) sound before after
adds_one v b sound before after is added = record {
  all = is ∙ and_true (is_sound_index_leaf v b);
  added = λ good. added good ∙ ap (λ es. before ++ es) (sym (append-nil (dx_entries_at v 0x28 b)));
}
  where
    and_true : (x : Bool) → x ≡ (x && true)
    and_true true = refl
    and_true false = refl

adds_both : (v : Volume) (first second : List ℕ) (sound : Bool) (before mid after : List DxEntry)
    → AddsLeaves v first true before mid → AddsLeaves v second sound mid after → AddsLeaves v (first ++ second) sound before after
adds_both v first second sound before mid after a b =
    let p = is_sound_index_leaf v in
    let f = dx_entries_at v 0x28 in
    record {
      all = b.all ∙ (ap (λ t. t && list_all p second) a.all ∙ sym (list_all-append p first second));
      added = λ good.
          b.added good
          ∙ (ap (λ es. es ++ flat_map f second) (a.added refl)
          ∙ (append_assoc before (flat_map f first) (flat_map f second) ∙ ap (λ es. before ++ es) (sym (flat_map-append f first second))));
    }

adds_bad : (v : Volume) (first second : List ℕ) (before after : List DxEntry) → AddsLeaves v first false before after → AddsLeaves v (first ++ second) false before after
adds_bad v first second before after a =
    let p = is_sound_index_leaf v in
    record {
      all = ap (λ t. t && list_all p second) a.all ∙ sym (list_all-append p first second);
      added = λ good. absurd (false≢true good);
    }

-- ---- a list of leaves, step by step
-- From the entries now, putting those of the leaves left gives what the whole list gives from the entries before.
abbrev pub GoesOn : Volume → List ℕ → List ℕ → List DxEntry → List DxEntry → Type 0
GoesOn v left whole before now = (sound : Bool) (after : List DxEntry) → AddsLeaves v left sound now after → AddsLeaves v whole sound before after

pub begins : (v : Volume) (whole : List ℕ) (before : List DxEntry) → GoesOn v whole whole before before
begins v whole before sound after adds = adds

pub goes_on : (v : Volume) (first left whole : List ℕ) (before now next : List DxEntry) → GoesOn v (first ++ left) whole before now
    → AddsLeaves v first true now next → GoesOn v left whole before next
goes_on v first left whole before now next goes a sound after b = goes sound after (adds_both v first left sound now next after a b)

pub stops : (v : Volume) (first left whole : List ℕ) (before now next : List DxEntry) → GoesOn v (first ++ left) whole before now
    → AddsLeaves v first false now next → AddsLeaves v whole false before next
stops v first left whole before now next goes a = goes false next (adds_bad v first left now next a)

pub ends : (v : Volume) (whole : List ℕ) (before now : List DxEntry) → GoesOn v [] whole before now → AddsLeaves v whole true before now
ends v whole before now goes = goes true now (adds_none v now)
