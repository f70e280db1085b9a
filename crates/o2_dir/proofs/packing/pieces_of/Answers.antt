-- One piece more.
use Rattle.std.proofs.Common.{◌-◌, ◌++◌, ◌∷◌, [], List, length, take, drop, map, refl, sym, ◌∙◌, ap, arith, Some}
use Rattle.std.proofs.lemmas.List.{length-drop, length-take, take_rest, map_push}
use Rattle.o2_model.specs.Directories.{entries_in}
use Rattle.o2_model.specs.declared.entry.Entry.{Entry}
use Rattle.o2_dir.specs.Packings.{piece_bytes, piece_entries}
use Rattle.o2_dir.proofs.PackedGroups.{one_more, one_piece, packs_all, packs_more, smaller}
use Rattle.o2_dir.proofs.packing.pieces_of.Goals as goal

pub piece_of-requires-clause-some : goal.piece_of-requires-clause-some
piece_of-requires-clause-some c =
    let es = c.args.entries.now in
    let at = c.loop-at.at in
    let count = c.count_that_fit-count.result in
    let part = take (length es - at) (drop at es) in
    let one = one_piece c.args.room es at count part refl c.requires.names c.requires.least c.loop-at-test.true c.count_that_fit-count.ensures.within c.count_that_fit-count.ensures.fit c.count_that_fit-count.ensures.full in
    omega (arith, one.some, length-take count part, c.count_that_fit-count.ensures.within)

pub loop-at-smaller : goal.loop-at-smaller
loop-at-smaller c =
    let es = c.args.entries.now in
    let at = c.loop-at.at in
    let count = c.count_that_fit-count.result in
    let one = one_piece c.args.room es at count (take (length es - at) (drop at es)) refl c.requires.names c.requires.least c.loop-at-test.true c.count_that_fit-count.ensures.within c.count_that_fit-count.ensures.fit c.count_that_fit-count.ensures.full in
    smaller (length es) at count c.loop-at-test.true one.some

pub loop-at-preserved : goal.loop-at-preserved
loop-at-preserved c =
    let room = c.args.room in
    let es = c.args.entries.now in
    let at = c.loop-at.at in
    let count = c.count_that_fit-count.result in
    let group = take count (drop at es) in
    let one = one_piece room es at count (take (length es - at) (drop at es)) refl c.requires.names c.requires.least c.loop-at-test.true c.count_that_fit-count.ensures.within c.count_that_fit-count.ensures.fit c.count_that_fit-count.ensures.full in
    let same = ap (take count) (take_rest es at) in
    let put = c.in_ok-push.ensures.items in
    let bytes = c.from.ensures ∙ (c.in_ok-bytes.ensures.bytes ∙ ap (piece_bytes room) same) in
    record {
      groups = c.loop-at.invariant.groups ++ group ∷ [];
      bytes = put ∙ (ap (λ bs. bs ++ c.from.result ∷ []) c.loop-at.invariant.bytes ∙ (ap (λ b. map (piece_bytes room) c.loop-at.invariant.groups ++ b ∷ []) bytes ∙ sym (map_push (piece_bytes room) c.loop-at.invariant.groups group)));
      read = one_more entries_in (λ (g : List Entry). Some (piece_entries room g)) c.loop-at.blocks.items c.push.new.self.items c.from.result c.loop-at.invariant.groups group put
          (ap entries_in c.from.ensures ∙ (c.in_ok-bytes.ensures.read ∙ ap (λ (g : List Entry). Some (piece_entries room g)) same)) c.loop-at.invariant.read;
      packs = packs_more room es at count c.loop-at.invariant.groups one.some one.within one.fit one.full c.loop-at.invariant.packs;
      within = omega (arith, one.within, length-drop at es, c.loop-at-test.true);
    }

pub returns : goal.returns
returns c = record {
  groups = c.loop-at.invariant.groups;
  packing = packs_all c.args.room c.args.entries.now c.loop-at.at c.loop-at.invariant.groups c.loop-at-test.false c.loop-at.invariant.packs;
  bytes = c.loop-at.invariant.bytes;
  read = c.loop-at.invariant.read;
}
