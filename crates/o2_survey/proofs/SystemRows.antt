-- A map with one number more.
use Rattle.std.proofs.Common.{◌≡◌, inl, inr, ℕ, Bool, true, false, cond, List, [], ◌∷◌, ◌||◌, ◌==◌, refl, sym, ◌∙◌, ap, subst, arith, Option, Some}
use Rattle.std.specs.Prelude.{is_some}
use Rattle.std.specs.Option.{IfSome}
use Rattle.std.specs.Ordering.{nat_cmp}
use Rattle.std.specs.BTreeMap.{get}
use Rattle.std.proofs.lemmas.Bool.{cases_Bool, false≢true}
use Rattle.std.proofs.lemmas.Bool.Decides.{nat_tests}
use Rattle.std.proofs.lemmas.List.Folds.{list_any-append}
use Rattle.o2_model.specs.Words.{among, push}
use Rattle.o2_model.specs.Volume.{Volume, is_in_range}
use Rattle.o2_survey.specs.SystemInodes.{AreSystemInodes, IsSystemInode}
use Rattle.o2_survey.specs.declared.named_inodes.SystemInodes.{SystemInodes}
use Rattle.o2_survey.specs.declared.system_inode.SystemInode.{SystemInode}

same_number : (b c : ℕ) → (b == c) ≡ true → b ≡ c
same_number b c same = grind (arith, nat_tests, same)

-- ---- what a map has at each number
module _ {X : Type 0} (b : ℕ) (x : X) (old new : ℕ → Option X) (put : (c : ℕ) → new c ≡ cond (b == c) (Some x) (old c)) where
  pub keeps : (P : ℕ → X → Type 0) → P b x → ((c : ℕ) → IfSome (old c) (P c)) → (c : ℕ) → IfSome (new c) (P c)
  keeps P here each c = elim (cases_Bool (b == c)) [
    | inl same ↦ subst (λ o. IfSome o (P c)) (sym (put c ∙ ap (λ t. cond t (Some x) (old c)) same)) (subst (λ n. P n x) (same_number b c same) here)
    | inr other ↦ subst (λ o. IfSome o (P c)) (sym (put c ∙ ap (λ t. cond t (Some x) (old c)) other)) (each c)
  ]

  pub has_more : (c : ℕ) → is_some (old c) ≡ true → is_some (new c) ≡ true
  has_more c has = elim (cases_Bool (b == c)) [
    | inl same ↦ ap is_some (put c ∙ ap (λ t. cond t (Some x) (old c)) same)
    | inr other ↦ ap is_some (put c ∙ ap (λ t. cond t (Some x) (old c)) other) ∙ has
  ]

  pub has_it : (c : ℕ) → (b == c) ≡ true → is_some (new c) ≡ true
  has_it c same = ap is_some (put c ∙ ap (λ t. cond t (Some x) (old c)) same)

-- ---- one inode more
split : (named : List ℕ) (b c : ℕ) → among (push named b) c ≡ true → (among named c || (c == b || false)) ≡ true
split named b c is = sym (list_any-append (λ m. c == m) named (b ∷ [])) ∙ is

turned : (b c : ℕ) → (c == b) ≡ true → (b == c) ≡ true
turned b c same = grind (arith, nat_tests, same)

either : (p q : Bool) → (p || (q || false)) ≡ true → p ≡ false → q ≡ true
either true q is none = absurd (false≢true (sym none))
either false true is none = refl
either false false is none = is

pub row_added : (v : Volume) (named : List ℕ) (b : ℕ) (row : SystemInode) (old new : SystemInodes)
    → ((c : ℕ) → get nat_cmp new.rows c ≡ cond (b == c) (Some row) (get nat_cmp old.rows c)) → ((c : ℕ) → IfSome (get nat_cmp new.blocks c) (λ block. block ≡ v.at c))
    → is_in_range v b ≡ true → IsSystemInode v b row → AreSystemInodes v named old → AreSystemInodes v (push named b) new
row_added v named b row old new put blocks inside is are = record {
  read = record {
    inside = keeps b row (λ c. get nat_cmp old.rows c) (λ c. get nat_cmp new.rows c) put (λ c r. is_in_range v c ≡ true) inside are.read.inside;
    rows = keeps b row (λ c. get nat_cmp old.rows c) (λ c. get nat_cmp new.rows c) put (IsSystemInode v) is are.read.rows;
    blocks = blocks;
  };
  whole = λ c named_now in_range. elim (cases_Bool (among named c)) [
    | inl before ↦ has_more b row (λ c. get nat_cmp old.rows c) (λ c. get nat_cmp new.rows c) put c (are.whole c before in_range)
    | inr not_before ↦ has_it b row (λ c. get nat_cmp old.rows c) (λ c. get nat_cmp new.rows c) put c (turned b c (either (among named c) (c == b) (split named b c named_now) not_before))
  ];
}
