-- The volume was opened, and its query answered.
use Rattle.std.proofs.Common.{◌≡◌, ℕ, ◌∙◌, refl, sym, subst, ap}
use Rattle.o2_disk.specs.Device.{Rose}
use Rattle.o2_open.specs.Devices.{volume_on, IsOn}
use Rattle.o2_debug.specs.declared.fault.DebugFault.{DebugFault}
use Rattle.o2_debug.specs.declared.fault.DebugFault.TheVariants as debug
use Rattle.o2_cause.specs.Causes.{class_of, IsDone, IsRefusal}
use Rattle.o2_cause.specs.declared.cause.Cause.{Cause}
use Rattle.o2_cause.specs.declared.cause.Cause.TheVariants.{DeviceFault}
use Rattle.o2_debugfs.specs.Replies.{ComesFor, cause_of_query}
use Rattle.o2_debugfs.proofs.Told.{takes_report, some_of_report, comes_fault, begins_report, done_by_output, refused_unasked, rose_by_device}
use Rattle.o2_debugfs.proofs.tell.tell.Goals as goal

pub returns-in-Ok-clause-report : goal.returns-in-Ok-clause-report
returns-in-Ok-clause-report g c I told =
    let found = c.in_ok-geo.ensures.found I told in
    takes_report c.args.query I (volume_on c.in_ok-geo.geo I) found.0 found.1 _ _ (c.in-Ok.ensures.told I (c.open_for_reading.ensures.reads.content ∙ told))

pub returns-in-Ok-clause-some : goal.returns-in-Ok-clause-some
returns-in-Ok-clause-some g c I told =
    let found = c.in_ok-geo.ensures.found I told in
    begins_report c.args.query I (volume_on c.in_ok-geo.geo I) found.0 found.1 _ _ (c.ask.ensures.some I (c.open_for_reading.ensures.reads.content ∙ told))

pub returns-in-Err-clause-told : goal.returns-in-Err-clause-told
returns-in-Err-clause-told g c I told =
    let found = c.in_ok-geo.ensures.found I told in
    subst (λ (cause : Cause). ComesFor c.args.query I cause) (sym c.cause_for.ensures.is)
    (comes_fault c.args.query I (volume_on c.in_ok-geo.geo I) found.0 found.1 (g.K.Sink.state c.args.out.now) (g.K.Sink.state c.ask.new.out)
    (IsOn (g.D.Disk.state c.open_for_reading.new.device) c.in_ok-geo.geo) (g.D.Disk.state c.open_for_reading.new.device) (g.D.Disk.state c.ask.new.device) _
    (record { image = I; told = c.open_for_reading.ensures.reads.content ∙ told; is = refl }) c.in-Err.fault c.in-Err.ensures.fails)

pub returns-in-Err-clause-some : goal.returns-in-Err-clause-some
returns-in-Err-clause-some g c I told =
    let found = c.in_ok-geo.ensures.found I told in
    begins_report c.args.query I (volume_on c.in_ok-geo.geo I) found.0 found.1 _ _ (c.ask.ensures.some I (c.open_for_reading.ensures.reads.content ∙ told))

pub returns-in-Err-clause-cut : goal.returns-in-Err-clause-cut
returns-in-Err-clause-cut g c done I told =
    let found = c.in_ok-geo.ensures.found I told in
    let fails = done_by_output (IsOn (g.D.Disk.state c.open_for_reading.new.device) c.in_ok-geo.geo) (g.D.Disk.state c.open_for_reading.new.device) (g.D.Disk.state c.ask.new.device) c.args.query
    (g.K.Sink.state c.args.out.now) (g.K.Sink.state c.ask.new.out) _ c.in-Err.fault (subst IsDone c.cause_for.ensures.is done) c.in-Err.ensures.fails in
    some_of_report c.args.query I (volume_on c.in_ok-geo.geo I) found.0 found.1 _ _ (fails.1 (volume_on c.in_ok-geo.geo I) (record { image = I; told = c.open_for_reading.ensures.reads.content ∙ told; is = refl }))

pub returns-in-Err-clause-silent : goal.returns-in-Err-clause-silent
returns-in-Err-clause-silent g c refused =
    refused_unasked (IsOn (g.D.Disk.state c.open_for_reading.new.device) c.in_ok-geo.geo) (g.D.Disk.state c.open_for_reading.new.device) (g.D.Disk.state c.ask.new.device) c.args.query
    (g.K.Sink.state c.args.out.now) (g.K.Sink.state c.ask.new.out) _ c.in-Err.fault (subst IsRefusal c.cause_for.ensures.is refused) c.in-Err.ensures.fails

pub returns-in-Err-clause-fault : goal.returns-in-Err-clause-fault
returns-in-Err-clause-fault g c failed =
    let is : c.cause_for.result ≡ DeviceFault = cc failed in
    subst (λ (n : ℕ). Rose n (g.D.Disk.state c.ask.new.device).faults) c.in_ok-geo.ensures.faults
    (rose_by_device (IsOn (g.D.Disk.state c.open_for_reading.new.device) c.in_ok-geo.geo) (g.D.Disk.state c.open_for_reading.new.device) (g.D.Disk.state c.ask.new.device) c.args.query
    (g.K.Sink.state c.args.out.now) (g.K.Sink.state c.ask.new.out) _ c.in-Err.fault (sym c.cause_for.ensures.is ∙ is) c.in-Err.ensures.fails)

pub returns-in-Err-clause-output : goal.returns-in-Err-clause-output
returns-in-Err-clause-output g c done =
    (done_by_output (IsOn (g.D.Disk.state c.open_for_reading.new.device) c.in_ok-geo.geo) (g.D.Disk.state c.open_for_reading.new.device) (g.D.Disk.state c.ask.new.device) c.args.query
    (g.K.Sink.state c.args.out.now) (g.K.Sink.state c.ask.new.out) _ c.in-Err.fault (subst IsDone c.cause_for.ensures.is done) c.in-Err.ensures.fails).0

pub returns-in-Err-clause-quiet : goal.returns-in-Err-clause-quiet
returns-in-Err-clause-quiet g c not_done =
    c.in-Err.ensures.quiet (λ failed. not_done (subst IsDone (sym c.cause_for.ensures.is) (let is : c.in-Err.fault ≡ debug.OutputFault = cc failed in let done : IsDone (cause_of_query c.args.query c.in-Err.fault) = ap (λ (f : DebugFault). class_of (cause_of_query c.args.query f)) is in done)))
