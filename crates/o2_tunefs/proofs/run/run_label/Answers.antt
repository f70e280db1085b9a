-- The label was not given, or given and told, or given and not told.
use Rattle.std.proofs.Common.{◌≡◌, List, ℕ, ap, inl, inr, subst, Err}
use Rattle.o2_cause.specs.Taken.{Takes, TakesSome}
use Rattle.o2_cause.specs.declared.cause.Cause.{Cause}
use Rattle.o2_cause.specs.declared.cause.Cause.TheVariants.{NoMemory}
use Rattle.o2_tunefs.proofs.Runs.{ends_refused, ends_fine, ends_unsaid}
use Rattle.o2_tunefs.proofs.run.run_label.Goals as goal

pub returns-in-Err : goal.returns-in-Err
returns-in-Err g c =
    let set = c.in-Err.ensures in
    ends_refused c.args.label.now c.args.name.now _ _ _ _ c.put_line.ensures.stops
    c.in-Err.cause set.not_done set.answer set.length set.causes
    (λ other. set.named (λ failed. other (let same : c.in-Err.cause ≡ NoMemory = cc failed in same)))
    set.at_most set.either set.idle set.any_moment set.refused
    (λ is. set.fault (ap (λ (cause : Cause). Err cause) is))
    c.put_line.result c.put_line.ensures.ends (c.put_line.ensures.all, c.put_line.ensures.some)

pub returns-in-Ok-put_text : goal.returns-in-Ok-put_text
returns-in-Ok-put_text g c =
    let set = c.in-Ok.ensures in
    let put = c.in-Ok-put_text.ensures in
    ends_fine c.args.label.now c.args.name.now _ _ (g.K.Sink.state c.args.out.now) (g.K.Sink.state c.put_text.new.out) (inl put.cause.ok)
    set.answer (set.named (λ failed. absurd (let none : ⊥ = cc failed in none))) set.done set.either set.idle set.any_moment set.settled
    (subst (λ (text : List ℕ). TakesSome (g.K.Sink.state c.args.out.now) (g.K.Sink.state c.put_text.new.out) text) c.as_bytes.ensures.value put.some)
    (subst (λ (text : List ℕ). Takes (g.K.Sink.state c.args.out.now) (g.K.Sink.state c.put_text.new.out) text) c.as_bytes.ensures.value put.all)
    put.cause.ok

pub returns-in-Err-put_text : goal.returns-in-Err-put_text
returns-in-Err-put_text g c =
    let set = c.in-Ok.ensures in
    let put = c.in-Err-put_text.ensures in
    ends_unsaid c.args.label.now c.args.name.now _ _ (g.K.Sink.state c.args.out.now) (g.K.Sink.state c.put_text.new.out) (inr put.stops)
    set.answer (set.named (λ failed. absurd (let none : ⊥ = cc failed in none))) set.done set.either set.idle set.any_moment set.settled
    (subst (λ (text : List ℕ). TakesSome (g.K.Sink.state c.args.out.now) (g.K.Sink.state c.put_text.new.out) text) c.as_bytes.ensures.value put.some)
    put.stops
