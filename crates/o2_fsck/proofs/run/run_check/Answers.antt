-- The volume was checked, or it was not.
use Rattle.std.proofs.Common.{◌≡◌, ℕ, List, Err, sym, ap, subst}
use Rattle.o2_model.specs.declared.check.Check.{Check}
use Rattle.o2_cause.specs.declared.cause.Cause.{Cause}
use Rattle.o2_cause.specs.declared.cause.Cause.TheVariants.{NoMemory}
use Rattle.o2_fsck.specs.Verdicts.{AreFailing}
use Rattle.o2_fsck.proofs.Runs.{ends_told, ends_refused}
use Rattle.o2_fsck.proofs.run.run_check.Goals as goal

pub returns-in-Ok : goal.returns-in-Ok
returns-in-Ok g c =
    let state = g.K.Sink.state in
    let judged = c.in-Ok.ensures in
    ends_told c.args.name.now _ _ (state c.args.out.now) (state c.tell.new.out) judged.reads (judged.named (λ failed. absurd (let none : ⊥ = cc failed in none))) judged.not_writable
    c.as_slice.result.now c.tell.result (λ I told. subst (λ (pairs : List (Check × ℕ)). AreFailing I pairs) (sym c.as_slice.ensures) (judged.told I told)) c.tell.ensures

pub returns-in-Err : goal.returns-in-Err
returns-in-Err g c =
    let state = g.K.Sink.state in
    let answered = c.in-Err.ensures in
    let put = c.put_line.ensures in
    ends_refused c.args.name.now _ _ (state c.args.out.now) (state c.put_line.new.out) answered.reads answered.at_most put.stops answered.not_writable c.in-Err.cause answered.causes (λ I told. answered.refused I told)
    (λ is. answered.fault (ap (λ (cause : Cause). Err cause) is)) (λ other. answered.named (λ failed. other (let same : c.in-Err.cause ≡ NoMemory = cc failed in same)))
    c.put_line.result put.ends (record { some = put.some; whole = put.all }) (λ none. ap state (put.silent none))
