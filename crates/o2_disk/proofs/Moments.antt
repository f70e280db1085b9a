-- How a run of device calls goes on.
use Rattle.std.proofs.Common.{inl, inr, ⊎_elim, ℕ, ◌≤◌, refl, sym, ◌∙◌, subst, arith}
use Rattle.o2_disk.specs.Image.{Image}
use Rattle.o2_disk.specs.Device.{DiskState, Follows, Only, IsSettled, Keeps, Elapses, LeavesOnly, Runs, ReadsOnly}

pub started : (d : DiskState) (P : Image → Type 0) → ((X : Image) → d.left_since d.moment X → P X) → LeavesOnly d d P
started d P here = record { later = omega arith; each = here; before = λ t X le left. inl left }

pub goes_on : {old mid new : DiskState} {P : Image → Type 0} → LeavesOnly old mid P → Elapses mid new → ((X : Image) → new.may_leave X → P X) → LeavesOnly old new P
goes_on {old} {mid} {new} {P} so_far time here = record {
  later = omega (arith, so_far.later, time.later);
  each = λ X left. ⊎_elim (so_far.each X) (here X) (time.nothing_else old.moment X so_far.later left);
  before = λ t X le left. ⊎_elim (so_far.before t X le) (λ now. inr (here X now)) (time.nothing_else t X (omega (arith, le, so_far.later)) left);
}

-- one run after another
pub joins : {old mid new : DiskState} {P : Image → Type 0} → LeavesOnly old mid P → LeavesOnly mid new P → LeavesOnly old new P
joins {old} {mid} {new} {P} first second = record {
  later = omega (arith, first.later, second.later);
  each = λ X left. ⊎_elim (first.each X) (λ p. p) (second.before old.moment X first.later left);
  before = λ t X le left. ⊎_elim (first.before t X le) inr (second.before t X (omega (arith, le, first.later)) left);
}

pub weaker : {old new : DiskState} {P Q : Image → Type 0} → ((X : Image) → P X → Q X) → LeavesOnly old new P → LeavesOnly old new Q
weaker {old} {new} {P} {Q} q left = record {
  later = left.later;
  each = λ X since. q X (left.each X since);
  before = λ t X le since. ⊎_elim inl (λ p. inr (q X p)) (left.before t X le since);
}

-- a settled disk, before the first call
pub runs_from : (d : DiskState) (I : Image) {P : Image → Type 0} → ((X : Image) → d.left_since d.moment X → d.may_leave X) → Only d I → P I → Runs d d P
runs_from d I {P} only_now only here =
    let leaves : (X : Image) → d.may_leave X → P X = λ X now. subst P (sym (only X now)) here in
    record { so_far = started d P (λ X left. leaves X (only_now X left)); may_leave = leaves }

-- a call that writes nothing
pub runs_keep : {first old new : DiskState} {P : Image → Type 0} → Runs first old P → Keeps old new → Elapses old new → Runs first new P
runs_keep {first} {old} {new} {P} runs keeps time =
    let leaves : (X : Image) → new.may_leave X → P X = λ X now. runs.may_leave X (keeps.may_leave X now) in
    record { so_far = goes_on runs.so_far time leaves; may_leave = leaves }

-- a call after which a crash leaves what it might have left, or a step from there
pub runs_step : {first old new : DiskState} {P : Image → Type 0} (R : Image → Image → Type 0) → Runs first old P → Follows R old new → Elapses old new → ((Y X : Image) → P Y → R Y X → P X) → Runs first new P
runs_step {first} {old} {new} {P} R runs follows time step =
    let leaves : (X : Image) → new.may_leave X → P X = λ X now. let from = follows X now in step from.0 X (runs.may_leave from.0 from.1) from.2 in
    record { so_far = goes_on runs.so_far time leaves; may_leave = leaves }

-- the first call of a run, on a settled disk
pub runs_first : {d new : DiskState} {P : Image → Type 0} (R : Image → Image → Type 0) (I : Image) → ((X : Image) → d.left_since d.moment X → d.may_leave X) → Only d I → Follows R d new → Elapses d new → P I → ((X : Image) → R I X → P X) → Runs d new P
runs_first {d} {new} {P} R I only_now only follows time here step =
    let leaves : (X : Image) → new.may_leave X → P X = λ X now. let from = follows X now in step X (subst (λ (Y : Image). R Y X) (only from.0 from.1) from.2) in
    record { so_far = goes_on (runs_from d I only_now only here).so_far time leaves; may_leave = leaves }

-- ---- stretches in which nothing is written
pub reads_none : (d : DiskState) → ReadsOnly d d
reads_none d = record { content = refl; may_leave = λ X now. now; later = omega arith; left_since = λ t X le since. since }

-- one call
pub reads_one : {old new : DiskState} → ((t : ℕ) (X : Image) → t ≤ old.moment → old.may_leave X → old.left_since t X) → Keeps old new → Elapses old new → ReadsOnly old new
reads_one {old} {new} counts_now keeps time = record {
  content = keeps.content;
  may_leave = keeps.may_leave;
  later = time.later;
  left_since = λ t X le since. ⊎_elim (λ was. was) (λ now. counts_now t X le (keeps.may_leave X now)) (time.nothing_else t X le since);
}

pub reads_both : {old mid new : DiskState} → ReadsOnly old mid → ReadsOnly mid new → ReadsOnly old new
reads_both {old} {mid} {new} first second = record {
  content = second.content ∙ first.content;
  may_leave = λ X now. first.may_leave X (second.may_leave X now);
  later = omega (arith, first.later, second.later);
  left_since = λ t X le since. first.left_since t X le (second.left_since t X (omega (arith, le, first.later)) since);
}

pub settled_after_reads : {old new : DiskState} (I : Image) → ReadsOnly old new → IsSettled old I → IsSettled new I
settled_after_reads {old} {new} I reads was = record { content = reads.content ∙ was.content; only = λ X now. was.only X (reads.may_leave X now) }

-- a crash of such a stretch leaves the image itself
pub leaves_itself : {old new : DiskState} {P : Image → Type 0} (I : Image) → ((X : Image) → old.left_since old.moment X → old.may_leave X) → IsSettled old I → P I → ReadsOnly old new → LeavesOnly old new P
leaves_itself {old} {new} {P} I only_now was here reads = record {
  later = reads.later;
  each = λ X since. subst P (sym (was.only X (only_now X (reads.left_since old.moment X (omega arith) since)))) here;
  before = λ t X le since. inl (reads.left_since t X le since);
}

-- and then a run that writes
pub leaves_after_reads : {old mid new : DiskState} {P : Image → Type 0} (I : Image) → ((X : Image) → old.left_since old.moment X → old.may_leave X) → IsSettled old I → P I → ReadsOnly old mid → LeavesOnly mid new P → LeavesOnly old new P
leaves_after_reads {old} {mid} {new} {P} I only_now was here reads rest = joins (leaves_itself I only_now was here reads) rest
