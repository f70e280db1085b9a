-- The header decides.
use Rattle.std.proofs.Common.{◌≡◌, ◌+◌, ◌*◌, length, drop, sym, ◌∙◌, ap, arith}
use Rattle.std.specs.List.{range_with_len}
use Rattle.std.proofs.lemmas.List.{length-map}
use Rattle.std.proofs.lemmas.List.FromFn.{length-range_with_len}
use Rattle.o2_ondisk.specs.ChainRecs.{chain_rec_of}
use Rattle.o2_ondisk.specs.Dinodes.{list_records_place}
use Rattle.o2_extent.proofs.Sizes.{few_bytes}
use Rattle.o2_chain.proofs.ChainLists.{head_is, chains_are}
use Rattle.o2_chain.proofs.chain_list.chains_in.Goals as goal

pub returns-then-not-is_sound-clause-bad : goal.returns-then-not-is_sound-clause-bad
returns-then-not-is_sound-clause-bad c v geo same =
    sym (c.is_sound.ensures.test v geo (head_is v c.args.a.now.block c.args.bytes.now c.header_of-header.result c.header_of-header.ensures same)) ∙ c.if-not-is_sound.true

pub returns-clause-good : goal.returns-clause-good
returns-clause-good c v geo same =
    sym (c.is_sound.ensures.test v geo (head_is v c.args.a.now.block c.args.bytes.now c.header_of-header.result c.header_of-header.ensures same)) ∙ c.if-not-is_sound.false

pub returns-clause-records : goal.returns-clause-records
returns-clause-records c v geo same =
    let head = head_is v c.args.a.now.block c.args.bytes.now c.header_of-header.result c.header_of-header.ensures same in
    c.in_ok-records.ensures ∙ chains_are v c.args.a.now c.args.bytes.now c.header_of-header.result same head (sym (c.is_sound.ensures.test v geo head) ∙ c.if-not-is_sound.false)

pub returns-clause-few : goal.returns-clause-few
returns-clause-few c =
    let used = c.header_of-header.result.next_free_rec in
    let many : length c.in_ok-records.records.items ≡ used =
    ap length c.in_ok-records.ensures ∙ (length-map (range_with_len 0 used) (λ k. chain_rec_of (drop (list_records_place + 16 * k) c.args.bytes.now)) ∙ length-range_with_len 0 used)
    in
    let fits = c.is_sound.ensures.fits c.if-not-is_sound.false in
    omega (arith, many, fits, few_bytes c.args.geo.now c.requires.sizes)
