use Rattle.std.proofs.Common.{arith}
use Rattle.o2_disk.specs.Attaches.{attachments_of}
use Rattle.o2_disk.proofs.Noted.{agrees_write, touched_write, sound_write, elapses_more, content_written, told_write, pending_write, follows_write, leads_write}
use Rattle.o2_disk.proofs.mem_disk.MemDiskDisk.write.Goals as goal

pub invariant_of-self-then-fails : goal.invariant_of-self-then-fails
invariant_of-self-then-fails c =
    let m = c.args.self.now in
    record {
      few = m.few;
      agrees = agrees_write m.base m.calls.items c.keep.new.calls.items m.sectors c.args.at c.args.bytes.now c.in-Ok.ensures.recorded m.held c.keep.new.map c.in-Ok.ensures.put m.agrees;
      sound = sound_write m.base m.calls.items c.keep.new.calls.items m.sectors c.args.at c.args.bytes.now c.in-Ok.ensures.recorded m.held c.keep.new.map c.in-Ok.ensures.put (λ i. omega (arith, c.type_inv.bytes i)) m.sound;
      untouched = λ s none. m.untouched s (c.keep.ensures.keys s none);
      touched = touched_write m.base m.calls.items c.keep.new.calls.items m.sectors c.args.at c.args.bytes.now c.in-Ok.ensures.recorded m.held c.keep.new.map c.in-Ok.ensures.put c.keep.ensures.keys m.touched;
    }

pub returns-then-fails-clause-torn : goal.returns-then-fails-clause-torn
returns-then-fails-clause-torn c =
    let m = c.args.self.now in
    told_write m.base m.calls.items c.keep.new.calls.items m.sectors c.args.at c.args.bytes.now c.in-Ok.ensures.recorded c.requires.range.within

pub returns-then-fails-clause-crash : goal.returns-then-fails-clause-crash
returns-then-fails-clause-crash c =
    let m = c.args.self.now in
    follows_write m.base m.calls.items c.keep.new.calls.items m.sectors c.args.at c.args.bytes.now c.in-Ok.ensures.recorded

pub returns-then-fails-clause-pending : goal.returns-then-fails-clause-pending
returns-then-fails-clause-pending c =
    let m = c.args.self.now in
    pending_write m.base m.calls.items c.keep.new.calls.items m.sectors c.args.at c.args.bytes.now c.in-Ok.ensures.recorded

pub returns-then-fails-clause-time : goal.returns-then-fails-clause-time
returns-then-fails-clause-time c =
    let m = c.args.self.now in
    elapses_more m.base m.calls.items c.keep.new.calls.items c.in-Ok.ensures.recorded.0 c.in-Ok.ensures.recorded.1 (attachments_of m.attaches.items) m.attached m.sectors m.faults _

pub invariant_of-self-else-fails : goal.invariant_of-self-else-fails
invariant_of-self-else-fails c =
    let m = c.args.self.now in
    record {
      few = m.few;
      agrees = agrees_write m.base m.calls.items c.keep.new.calls.items m.sectors c.args.at c.args.bytes.now c.in-Ok.ensures.recorded m.held c.keep.new.map c.in-Ok.ensures.put m.agrees;
      sound = sound_write m.base m.calls.items c.keep.new.calls.items m.sectors c.args.at c.args.bytes.now c.in-Ok.ensures.recorded m.held c.keep.new.map c.in-Ok.ensures.put (λ i. omega (arith, c.type_inv.bytes i)) m.sound;
      untouched = λ s none. m.untouched s (c.keep.ensures.keys s none);
      touched = touched_write m.base m.calls.items c.keep.new.calls.items m.sectors c.args.at c.args.bytes.now c.in-Ok.ensures.recorded m.held c.keep.new.map c.in-Ok.ensures.put c.keep.ensures.keys m.touched;
    }

pub returns-clause-written : goal.returns-clause-written
returns-clause-written c =
    let m = c.args.self.now in
    content_written m.base m.calls.items c.keep.new.calls.items m.sectors c.args.at c.args.bytes.now c.in-Ok.ensures.recorded

pub returns-clause-torn : goal.returns-clause-torn
returns-clause-torn c =
    let m = c.args.self.now in
    told_write m.base m.calls.items c.keep.new.calls.items m.sectors c.args.at c.args.bytes.now c.in-Ok.ensures.recorded c.requires.range.within

pub returns-clause-crash : goal.returns-clause-crash
returns-clause-crash c =
    let m = c.args.self.now in
    follows_write m.base m.calls.items c.keep.new.calls.items m.sectors c.args.at c.args.bytes.now c.in-Ok.ensures.recorded

pub returns-clause-pending : goal.returns-clause-pending
returns-clause-pending c =
    let m = c.args.self.now in
    pending_write m.base m.calls.items c.keep.new.calls.items m.sectors c.args.at c.args.bytes.now c.in-Ok.ensures.recorded

pub returns-clause-tears : goal.returns-clause-tears
returns-clause-tears c =
    let m = c.args.self.now in
    leads_write m.base m.calls.items c.keep.new.calls.items m.sectors c.args.at c.args.bytes.now c.in-Ok.ensures.recorded

pub returns-clause-time : goal.returns-clause-time
returns-clause-time c =
    let m = c.args.self.now in
    elapses_more m.base m.calls.items c.keep.new.calls.items c.in-Ok.ensures.recorded.0 c.in-Ok.ensures.recorded.1 (attachments_of m.attaches.items) m.attached m.sectors m.faults m.faults
