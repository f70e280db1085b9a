-- The last entry behind those before it.
use Rattle.std.proofs.Common.{◌≡◌, ◌+◌, ◌-◌, ◌<◌, ℕ, get_or, length, sym, ◌∙◌, ap, arith}
use Rattle.std.proofs.lemmas.List.{get_or-take, length-take}
use Rattle.o2_dir.proofs.Pieces.{front_more, piece_done, read_done}
use Rattle.o2_dir.proofs.piece.piece_of.Goals as goal

pub loop-entry-preserved : goal.loop-entry-preserved
loop-entry-preserved c =
    let i = c.loop-entry.entry-index in
    let es = c.args.entries.now in
    let low : i < length es = omega (arith, length-take (length es - 1) es) in
    front_more c.loop-entry.bytes.items c.put_entry.new.bytes.items es i c.entry-item.result c.need.result low (c.entry-item.is ∙ get_or-take (length es - 1) es i c.entry-item.result (omega (arith, length-take (length es - 1) es))) c.need.ensures c.in_ok-put_entry.ensures.put c.in_ok-put_entry.ensures.long c.in_ok-put_entry.ensures.told c.loop-entry.invariant

pub returns-clause-bytes : goal.returns-clause-bytes
returns-clause-bytes c =
    let i = c.loop-entry.entry-index in
    let es = c.args.entries.now in
    let at : i ≡ length es - 1 = omega (arith, length-take (length es - 1) es) in
    let end : i + 1 ≡ length es = omega (arith, at) in
    piece_done c.args.room es i c.index-entries-last.result c.loop-entry.bytes.items c.put_entry-2.new.bytes.items _ end (c.index-entries-last.is ∙ ap (λ (k : ℕ). get_or es k c.index-entries-last.result) (sym at)) (omega (arith, c.len.ensures)) c.in_ok-put_entry-2.ensures.put c.loop-entry.invariant

pub returns-clause-read : goal.returns-clause-read
returns-clause-read c =
    let i = c.loop-entry.entry-index in
    let es = c.args.entries.now in
    let at : i ≡ length es - 1 = omega (arith, length-take (length es - 1) es) in
    let end : i + 1 ≡ length es = omega (arith, at) in
    read_done c.args.room es i c.index-entries-last.result c.loop-entry.bytes.items c.put_entry-2.new.bytes.items _ end (c.index-entries-last.is ∙ ap (λ (k : ℕ). get_or es k c.index-entries-last.result) (sym at)) (omega (arith, c.len.ensures)) c.in_ok-put_entry-2.ensures.put c.loop-entry.invariant
    c.requires.multiple c.requires.fit c.in_ok-put_entry-2.ensures.told
