-- The query was answered, or it was not.
use Rattle.std.proofs.Common.{◌≡◌, ap, Err}
use Rattle.o2_cause.specs.declared.cause.Cause.{Cause}
use Rattle.o2_cause.specs.declared.cause.Cause.TheVariants.{NoMemory}
use Rattle.o2_debugfs.proofs.Runs.{ends_refused, ends_fine}
use Rattle.o2_debugfs.proofs.run.run_query.Goals as goal

pub returns-in-Err : goal.returns-in-Err
returns-in-Err g c =
    let state = g.K.Sink.state in
    let answered = c.in-Err.ensures in
    ends_refused c.args.query c.args.name.now _ _ (state c.args.out.now) (state c.tell.new.out) (state c.put_line.new.out)
    answered.reads answered.at_most answered.some c.put_line.ensures.stops
    c.in-Err.cause answered.not_fine (λ I told. answered.told I told)
    (λ I told refused. ap state (answered.silent refused))
    answered.causes
    (λ other. answered.named (λ failed. other (let same : c.in-Err.cause ≡ NoMemory = cc failed in same)))
    answered.not_writable
    (λ is. answered.fault (ap (λ (cause : Cause). Err cause) is))
    c.put_line.result c.put_line.ensures.ends answered.output (λ done I told. answered.cut done I told) answered.quiet
    (λ done. ap state (c.put_line.ensures.still done))
    (c.put_line.ensures.all, c.put_line.ensures.some)

pub returns-in-Ok : goal.returns-in-Ok
returns-in-Ok g c =
    let state = g.K.Sink.state in
    let answered = c.in-Ok.ensures in
    ends_fine c.args.query c.args.name.now _ _ (state c.args.out.now) (state c.tell.new.out) answered.report answered.some answered.reads
    (answered.named (λ failed. absurd (let none : ⊥ = cc failed in none))) answered.not_writable answered.calm
