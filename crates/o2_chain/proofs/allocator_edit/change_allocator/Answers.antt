-- The records, and then the dinode's own count.
use Rattle.std.proofs.Common.{◌≡◌, ℕ, ◌+◌, ◌*◌, ◌^◌, ◌≤◌, length, map, get_or, sym, ◌∙◌, ap, arith}
use Rattle.std.specs.List.{enumerate_from}
use Rattle.std.proofs.lemmas.List.{take_rest}
use Rattle.o2_ondisk.specs.ChainListHeaders.{chain_list_header_of}
use Rattle.o2_ondisk.specs.ChainRecs.{chain_rec_of}
use Rattle.o2_ondisk.specs.Fields.{IsOutsideSpan}
use Rattle.o2_ondisk.specs.declared.chain_list_header.ChainListHeader.{ChainListHeader}
use Rattle.o2_ondisk.specs.declared.dinode.Dinode.{Dinode}
use Rattle.o2_ondisk.specs.Dinodes.{dinode_of, last_part_place, list_records_place}
use Rattle.o2_model.specs.declared.geo.Geo.{Geo}
use Rattle.o2_model.specs.Words.{table}
use Rattle.o2_model.specs.Volume.{block_size}
use Rattle.o2_model.specs.Allocators.{used_of, total_of}
use Rattle.o2_extent.proofs.Sizes.{some_bytes}
use Rattle.o2_chain.specs.Edits.{edited_chain, set_after, shared_by}
use Rattle.o2_chain.specs.Walks.{group_in}
use Rattle.o2_chain.proofs.ChainCounts.{set_modulo}
use Rattle.o2_chain.proofs.EditedDinode.{used_in, sound_chains, sound_room, edited_header, edited_chains, edited_dinode, edited_others}
use Rattle.o2_chain.proofs.allocator_edit.change_allocator.Goals as goal

pub returns : goal.returns
returns c old new from into a sound was is =
    let first = c.args.bytes.now in
    let mid = c.change_chains-count.new.bytes in
    let last = c.change_used.new.bytes in
    let groups = map (group_in a) c.args.groups.now in
    let numbers : new.geo ≡ old.geo = into ∙ sym from in
    let size : length first ≡ block_size old = c.requires.size ∙ ap (λ (geo : Geo). 2 ^ geo.block_bits) (sym from) in
    let room : list_records_place + 16 * used_in first ≤ block_size old = sound_room old a first sound was (omega (arith, c.requires.size, some_bytes c.args.geo.now c.requires.sizes)) in
    let header : c.read_chain_list_header-header.result.next_free_rec ≡ used_in first = ap (λ (h : ChainListHeader). h.next_free_rec) (c.read_chain_list_header-header.ensures ∙ ap chain_list_header_of (take_rest first last_part_place)) in
    let used : c.min-used.result ≡ used_in first = omega (arith, c.min-used.ensures, c.from.ensures, header, room, size) in
    let alone : (i : ℕ) → IsOutsideSpan list_records_place (16 * used_in first) i → get_or mid i 0 ≡ get_or first i 0 = λ i out. c.change_chains-count.ensures.others i (λ low high. out low (omega (arith, high, used))) in
    let with_count = λ (d : Dinode) (n : ℕ). let x : Dinode = record d { role_data = record { 0 = set_after (2 ^ 32) c.args.set (used_of d.role_data) n + 2 ^ 32 * total_of d.role_data } } in x in
    let with_used = λ (d : Dinode) (n : ℕ). let x : Dinode = record d { role_data = record { 0 = n + 2 ^ 32 * total_of d.role_data } } in x in
    let d = dinode_of (old.at a.block) in
    let same_count : with_count d c.change_chains-count.result ≡ with_count d (shared_by old c.args.run groups) =
    ap (with_count d) (c.change_chains-count.ensures.total old from a) ∙ ap (with_used d) (set_modulo c.args.set (used_of d.role_data) (shared_by old c.args.run groups)) in
    record {
      fields = ap dinode_of (sym is)
          ∙ (c.change_used.ensures.fields
          ∙ (ap (λ x. with_count x c.change_chains-count.result) (edited_dinode old new a first mid last numbers sound was is alone c.change_used.ensures.others)
          ∙ (ap (λ bytes. with_count (dinode_of bytes) c.change_chains-count.result) was ∙ same_count)));
      header = edited_header old new a first mid last numbers sound was is alone c.change_used.ensures.others;
      records = edited_chains old new a first mid last numbers sound was is alone c.change_used.ensures.others
          ∙ (ap (λ n. table chain_rec_of 16 list_records_place n mid) (sym used)
          ∙ (c.change_chains-count.ensures.records old from a
          ∙ (ap (λ n. map (edited_chain old c.args.set c.args.run groups) (enumerate_from 0 (table chain_rec_of 16 list_records_place n first))) used
          ∙ ap (λ rs. map (edited_chain old c.args.set c.args.run groups) (enumerate_from 0 rs)) (sym (sound_chains old a first sound was)))));
      others = edited_others old new a first mid last numbers sound was is alone c.change_used.ensures.others;
      size = ap length (sym is) ∙ (c.change_used.auto.bytes ∙ (c.change_chains-count.auto.bytes ∙ ap length was));
    }
