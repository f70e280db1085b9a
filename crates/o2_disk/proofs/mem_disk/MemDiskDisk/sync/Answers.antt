use Rattle.std.proofs.Common.{◌≡◌, ◌++◌, ◌∷◌, [], refl, ◌∙◌, ap}
use Rattle.o2_disk.specs.Attaches.{attachments_of}
use Rattle.o2_disk.specs.declared.call.Call.{Call}
use Rattle.o2_disk.specs.declared.call.Call.TheVariants.{Sync, FailedSync}
use Rattle.o2_disk.proofs.Noted.{agrees_more, touched_more, elapses_more, keeps_plain, pending_plain, keeps_sync, durable}
use Rattle.o2_disk.proofs.mem_disk.MemDiskDisk.sync.Goals as goal

pub invariant_of-self-then-fails : goal.invariant_of-self-then-fails
invariant_of-self-then-fails c =
    let m = c.args.self.now in
    let is : c.note.new.calls.items ≡ m.calls.items ++ FailedSync ∷ [] = c.in-Ok.ensures.ok ∙ ap (λ (x : Call). m.calls.items ++ x ∷ []) (c.sync_call.ensures.failed c.if-fails.true) in
    record {
      few = m.few;
      agrees = agrees_more m.base m.calls.items c.note.new.calls.items FailedSync is m.held m.held m.agrees (λ s. refl);
      sound = m.sound;
      untouched = m.untouched;
      touched = touched_more m.base m.calls.items c.note.new.calls.items FailedSync is m.held m.held (λ s none. none) (λ s. refl) m.touched;
    }

pub returns-then-fails-clause-same : goal.returns-then-fails-clause-same
returns-then-fails-clause-same c =
    let m = c.args.self.now in
    let is : c.note.new.calls.items ≡ m.calls.items ++ FailedSync ∷ [] = c.in-Ok.ensures.ok ∙ ap (λ (x : Call). m.calls.items ++ x ∷ []) (c.sync_call.ensures.failed c.if-fails.true) in
    keeps_plain m.base m.calls.items c.note.new.calls.items FailedSync is (attachments_of m.attaches.items) m.attached m.sectors m.faults _ (λ _. refl)

pub returns-then-fails-clause-pending : goal.returns-then-fails-clause-pending
returns-then-fails-clause-pending c =
    let m = c.args.self.now in
    let is : c.note.new.calls.items ≡ m.calls.items ++ FailedSync ∷ [] = c.in-Ok.ensures.ok ∙ ap (λ (x : Call). m.calls.items ++ x ∷ []) (c.sync_call.ensures.failed c.if-fails.true) in
    pending_plain m.base m.calls.items c.note.new.calls.items FailedSync is m.sectors (λ _. refl)

pub returns-then-fails-clause-time : goal.returns-then-fails-clause-time
returns-then-fails-clause-time c =
    let m = c.args.self.now in
    elapses_more m.base m.calls.items c.note.new.calls.items _ c.in-Ok.ensures.ok (attachments_of m.attaches.items) m.attached m.sectors m.faults _

pub invariant_of-self-else-fails : goal.invariant_of-self-else-fails
invariant_of-self-else-fails c =
    let m = c.args.self.now in
    let is : c.note.new.calls.items ≡ m.calls.items ++ Sync ∷ [] = c.in-Ok.ensures.ok ∙ ap (λ (x : Call). m.calls.items ++ x ∷ []) (c.sync_call.ensures.done c.if-fails.false) in
    record {
      few = m.few;
      agrees = agrees_more m.base m.calls.items c.note.new.calls.items Sync is m.held m.held m.agrees (λ s. refl);
      sound = m.sound;
      untouched = m.untouched;
      touched = touched_more m.base m.calls.items c.note.new.calls.items Sync is m.held m.held (λ s none. none) (λ s. refl) m.touched;
    }

pub returns-clause-durable : goal.returns-clause-durable
returns-clause-durable c =
    let m = c.args.self.now in
    let is : c.note.new.calls.items ≡ m.calls.items ++ Sync ∷ [] = c.in-Ok.ensures.ok ∙ ap (λ (x : Call). m.calls.items ++ x ∷ []) (c.sync_call.ensures.done c.if-fails.false) in
    durable m.base m.calls.items c.note.new.calls.items is m.sectors

pub returns-clause-same : goal.returns-clause-same
returns-clause-same c =
    let m = c.args.self.now in
    let is : c.note.new.calls.items ≡ m.calls.items ++ Sync ∷ [] = c.in-Ok.ensures.ok ∙ ap (λ (x : Call). m.calls.items ++ x ∷ []) (c.sync_call.ensures.done c.if-fails.false) in
    keeps_sync m.base m.calls.items c.note.new.calls.items is m.sectors (attachments_of m.attaches.items) m.attached m.faults m.faults

pub returns-clause-time : goal.returns-clause-time
returns-clause-time c =
    let m = c.args.self.now in
    elapses_more m.base m.calls.items c.note.new.calls.items _ c.in-Ok.ensures.ok (attachments_of m.attaches.items) m.attached m.sectors m.faults m.faults
