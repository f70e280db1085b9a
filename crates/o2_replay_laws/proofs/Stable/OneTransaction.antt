-- Where a log has one transaction that writes each block once, so do the writes that a replay applies.
use Rattle.std.proofs.Common.{◌≡◌, inl, inr, ℕ, Bool, false, not, List, [], ◌∷◌, map, ◌∙◌, ap}
use Rattle.std.specs.Prelude.{filter, nat_eq}
use Rattle.std.specs.List.{IsDistinct, AllByRecursion}
use Rattle.std.proofs.lemmas.Bool.{cases_Bool}
use Rattle.std.proofs.lemmas.List.{append-nil}
use Rattle.o2_model.specs.Volume.{Volume}
use Rattle.o2_model.specs.Logs.{LoggedBlock, Transaction, is_revoked_by, unrevoked}
use Rattle.o2_model.specs.Dirty.{log_of, committed_writes}

abbrev blocks_of : List LoggedBlock → List ℕ
blocks_of ws = map (λ w. w.block) ws

all_kept : (P : ℕ → Type 0) (p : LoggedBlock → Bool) (ws : List LoggedBlock) → AllByRecursion P (blocks_of ws) → AllByRecursion P (blocks_of (filter p ws))
all_kept P p [] all = tt
all_kept P p (w ∷ ws) all = elim (cases_Bool (p w)) [
  | inl good ↦ rw good (all.0, all_kept P p ws all.1)
  | inr bad ↦ rw bad (all_kept P p ws all.1)
]

once_kept : (p : LoggedBlock → Bool) (ws : List LoggedBlock) → IsDistinct nat_eq (blocks_of ws) → IsDistinct nat_eq (blocks_of (filter p ws))
unfolding IsDistinct
once_kept p [] once = tt
once_kept p (w ∷ ws) once = elim (cases_Bool (p w)) [
  | inl good ↦ rw good (all_kept (λ b. nat_eq w.block b ≡ false) p ws once.0, once_kept p ws once.1)
  | inr bad ↦ rw bad (once_kept p ws once.1)
]

pub once_of_transaction : (v : Volume) (s : ℕ) (t : Transaction) → log_of v s ≡ t ∷ [] → IsDistinct nat_eq (map (λ w. w.block) t.writes) → IsDistinct nat_eq (map (λ w. w.block) (committed_writes v s))
unfolding committed_writes
once_of_transaction v s t log once =
    let kept = filter (λ w. not (is_revoked_by (t ∷ []) w.block)) t.writes in
    let same : unrevoked (log_of v s) ≡ kept = ap unrevoked log ∙ append-nil kept in
    rw same (once_kept (λ w. not (is_revoked_by (t ∷ []) w.block)) t.writes once)
