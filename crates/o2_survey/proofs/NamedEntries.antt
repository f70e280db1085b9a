-- The inodes that entries name, one entry more at a time.
use Rattle.std.proofs.Common.{◌≡◌, inl, inr, ℕ, zero, suc, ◌+◌, ◌<◌, ◌≤◌, true, false, cond, not, List, [], ◌∷◌, ◌++◌, map, filter, length, take, get_or, refl, sym, ◌∙◌, ap, subst, arith}
use Rattle.std.proofs.lemmas.Bool.{cases_Bool}
use Rattle.std.proofs.lemmas.List.{append-nil, length-append, map-append, take_more}
use Rattle.std.proofs.lemmas.List.Elements.{filter-append}
use Rattle.o2_model.specs.declared.entry.Entry.{Entry}
use Rattle.o2_model.specs.Directories.{is_dot}
use Rattle.o2_model.specs.Words.{push}
use Rattle.o2_model.specs.Volume.{Volume}
use Rattle.o2_survey.specs.SystemInodes.{AreSystemInodes, named_by}
use Rattle.o2_survey.specs.declared.named_inodes.SystemInodes.{SystemInodes}

few_named : (n : ℕ) (es : List Entry) → length (named_by (take n es)) ≤ length (named_by es)
few_named zero es = omega arith
few_named (suc n) [] = omega arith
few_named (suc n) (e ∷ es) =
    let rest = few_named n es in
    elim (cases_Bool (is_dot e)) [
      | inl dot ↦ rw dot rest
      | inr other ↦ rw other (omega (arith, rest))
    ]

module _ (es : List Entry) (i : ℕ) (e : Entry) (low : i < length es) (is : e ≡ get_or es i e) where
  with_next : named_by (take (i + 1) es) ≡ named_by (take i es) ++ named_by (e ∷ [])
  with_next =
      let asked = λ (f : Entry). not (is_dot f) in
      ap named_by (take_more es i e low ∙ ap (λ f. take i es ++ f ∷ []) (sym is))
      ∙ (ap (map (λ f. f.inode)) (filter-append asked (take i es) (e ∷ []))
      ∙ map-append (λ f. f.inode) (filter asked (take i es)) (filter asked (e ∷ [])))

  -- a dot names none
  one_entry_more : named_by (take (i + 1) es) ≡ cond (is_dot e) (named_by (take i es)) (push (named_by (take i es)) e.inode)
  one_entry_more = with_next ∙ elim (cases_Bool (is_dot e)) [
    | inl dot ↦ rw dot (append-nil (named_by (take i es)))
    | inr other ↦ rw other refl
  ]

  pub one_count_more : length (named_by (take (i + 1) es)) ≡ length (named_by (take i es)) + cond (is_dot e) 0 1
  one_count_more = ap length with_next ∙ (length-append (named_by (take i es)) (named_by (e ∷ [])) ∙ elim (cases_Bool (is_dot e)) [
    | inl dot ↦ rw dot refl
    | inr other ↦ rw other refl
  ])

  pub counted_few : length (named_by (take i es)) + cond (is_dot e) 0 1 ≤ length (named_by es)
  counted_few = subst (λ n. n ≤ length (named_by es)) one_count_more (few_named (i + 1) es)

  -- what is read of one entry more
  pub one_entry_read : (v : Volume) (old new : SystemInodes) → (is_dot e ≡ true → new ≡ old)
      → (is_dot e ≡ false → (named : List ℕ) → AreSystemInodes v named old → AreSystemInodes v (push named e.inode) new)
      → AreSystemInodes v (named_by (take i es)) old → AreSystemInodes v (named_by (take (i + 1) es)) new
  one_entry_read v old new as_before added are = subst (λ named. AreSystemInodes v named new) (sym one_entry_more) (elim (cases_Bool (is_dot e)) [
    | inl dot ↦ rw dot (subst (λ inodes. AreSystemInodes v (named_by (take i es)) inodes) (sym (as_before dot)) are)
    | inr other ↦ rw other (added other (named_by (take i es)) are)
  ])
