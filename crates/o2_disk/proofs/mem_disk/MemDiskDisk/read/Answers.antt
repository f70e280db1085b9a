use Rattle.std.proofs.Common.{refl, arith}
use Rattle.o2_disk.specs.Attaches.{attachments_of}
use Rattle.o2_disk.specs.declared.call.Call.TheVariants.{Read}
use Rattle.o2_disk.proofs.Noted.{agrees_more, touched_more, elapses_more, keeps_plain, pending_plain, bytes_read}
use Rattle.o2_disk.proofs.mem_disk.MemDiskDisk.read.Goals as goal

pub invariant_of-self-then-fails : goal.invariant_of-self-then-fails
invariant_of-self-then-fails c =
    let m = c.args.self.now in
    record {
      few = m.few;
      agrees = agrees_more m.base m.calls.items c.note.new.calls.items Read c.in-Ok.ensures.ok m.held m.held m.agrees (λ s. refl);
      sound = m.sound;
      untouched = m.untouched;
      touched = touched_more m.base m.calls.items c.note.new.calls.items Read c.in-Ok.ensures.ok m.held m.held (λ s none. none) (λ s. refl) m.touched;
    }

pub returns-then-fails-clause-same : goal.returns-then-fails-clause-same
returns-then-fails-clause-same c =
    let m = c.args.self.now in
    keeps_plain m.base m.calls.items c.note.new.calls.items Read c.in-Ok.ensures.ok (attachments_of m.attaches.items) m.attached m.sectors m.faults _ (λ _. refl)

pub returns-then-fails-clause-pending : goal.returns-then-fails-clause-pending
returns-then-fails-clause-pending c =
    let m = c.args.self.now in
    pending_plain m.base m.calls.items c.note.new.calls.items Read c.in-Ok.ensures.ok m.sectors (λ _. refl)

pub returns-then-fails-clause-time : goal.returns-then-fails-clause-time
returns-then-fails-clause-time c =
    let m = c.args.self.now in
    elapses_more m.base m.calls.items c.note.new.calls.items Read c.in-Ok.ensures.ok (attachments_of m.attaches.items) m.attached m.sectors m.faults _

pub invariant_of-self-else-fails : goal.invariant_of-self-else-fails
invariant_of-self-else-fails c =
    let m = c.args.self.now in
    record {
      few = m.few;
      agrees = agrees_more m.base m.calls.items c.note.new.calls.items Read c.in-Ok.ensures.ok m.held m.held m.agrees (λ s. refl);
      sound = m.sound;
      untouched = m.untouched;
      touched = touched_more m.base m.calls.items c.note.new.calls.items Read c.in-Ok.ensures.ok m.held m.held (λ s none. none) (λ s. refl) m.touched;
    }

pub returns-clause-bytes : goal.returns-clause-bytes
returns-clause-bytes c I told =
    let m = c.args.self.now in
    bytes_read m.base m.calls.items m.sectors c.args.at m.held c.args.out.now c.copy_out.new.out I c.requires.within c.requires.whole told m.agrees (omega (arith, c.copy_out.auto.out)) c.copy_out.ensures

pub returns-clause-same : goal.returns-clause-same
returns-clause-same c =
    let m = c.args.self.now in
    keeps_plain m.base m.calls.items c.note.new.calls.items Read c.in-Ok.ensures.ok (attachments_of m.attaches.items) m.attached m.sectors m.faults m.faults (λ _. refl)

pub returns-clause-pending : goal.returns-clause-pending
returns-clause-pending c =
    let m = c.args.self.now in
    pending_plain m.base m.calls.items c.note.new.calls.items Read c.in-Ok.ensures.ok m.sectors (λ _. refl)

pub returns-clause-time : goal.returns-clause-time
returns-clause-time c =
    let m = c.args.self.now in
    elapses_more m.base m.calls.items c.note.new.calls.items Read c.in-Ok.ensures.ok (attachments_of m.attaches.items) m.attached m.sectors m.faults m.faults
