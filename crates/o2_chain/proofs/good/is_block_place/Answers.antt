-- A cluster that is fixed or taken, or none.
use Rattle.std.proofs.Common.{◌≡◌, inl, inr, ◌+◌, ◌-◌, ◌%◌, ◌^◌, ◌≤◌, Bool, true, false, ◌&&◌, refl, sym, ◌∙◌, ap, arith}
use Rattle.std.specs.Prelude.{not}
use Rattle.std.specs.List.{list_any}
use Rattle.std.proofs.lemmas.Bool.{cases_Bool, false≢true}
use Rattle.o2_model.specs.declared.geo.Geo.{Geo}
use Rattle.o2_model.specs.Volume.{per_cluster, blocks}
use Rattle.o2_model.specs.Groups.{holds_cluster, is_fixed}
use Rattle.o2_chain.proofs.GoodGroups.{free_row, taken_cluster}
use Rattle.o2_chain.proofs.good.is_block_place.Goals as goal

pub returns-then-not-has_fixed-clause-told : goal.returns-then-not-has_fixed-clause-told
returns-then-not-has_fixed-clause-told c v same bits walked taken =
    let pc : c.blocks_per_cluster-per_cluster.result ≡ per_cluster v = c.blocks_per_cluster-per_cluster.ensures.blocks ∙ ap (λ (g : Geo). 2 ^ (g.cluster_bits - g.block_bits)) (sym same) in
    let whole : c.args.b % per_cluster v ≡ 0 = rw pc at c.if-b-per_cluster-ne0.false in
    let whole_bits : c.args.bits % per_cluster v ≡ 0 = rw pc at c.if-bits-per_cluster-ne0.false in
    let near : c.args.b + c.args.bits ≤ blocks v = rw same (omega (arith, c.if-volume_blocks-b.false, c.volume_blocks.ensures.blocks, c.requires.inside)) in
    let some : 2 ≤ c.args.bits = omega (arith, c.if-bits-lt2.false) in
    elim (cases_Bool c.meets.result) [
      | inl meets ↦
          let met = c.meets.ensures.some meets in
          ap not meets
          ∙ sym (taken_cluster v c.args.b c.args.bits walked bits whole whole_bits some near met.0 (rw pc at met.1) (rw pc at met.2) (and_not (not (is_fixed v met.0)) (list_any (holds_cluster v met.0) walked) (sym (taken met.0) ∙ met.3)))
      | inr apart ↦
          let none = c.meets.ensures.none apart in
          let free = c.has_fixed.ensures.none c.if-not-has_fixed.true v same in
          ap not apart
          ∙ sym (free_row v c.args.b c.args.bits walked bits whole whole_bits some near (rw pc at free) (λ n low high. sym (taken n) ∙ none n (rw (sym pc) at low) (rw (sym pc) at high)))
    ]
  where
    and_not : (x y : Bool) → y ≡ true → (x && not y) ≡ false
    and_not true true h = refl
    and_not true false h = absurd (false≢true h)
    and_not false y h = refl

pub returns-else-not-has_fixed-clause-told : goal.returns-else-not-has_fixed-clause-told
returns-else-not-has_fixed-clause-told c v same bits walked taken =
    let pc : c.blocks_per_cluster-per_cluster.result ≡ per_cluster v = c.blocks_per_cluster-per_cluster.ensures.blocks ∙ ap (λ (g : Geo). 2 ^ (g.cluster_bits - g.block_bits)) (sym same) in
    let whole : c.args.b % per_cluster v ≡ 0 = rw pc at c.if-b-per_cluster-ne0.false in
    let whole_bits : c.args.bits % per_cluster v ≡ 0 = rw pc at c.if-bits-per_cluster-ne0.false in
    let near : c.args.b + c.args.bits ≤ blocks v = rw same (omega (arith, c.if-volume_blocks-b.false, c.volume_blocks.ensures.blocks, c.requires.inside)) in
    let some : 2 ≤ c.args.bits = omega (arith, c.if-bits-lt2.false) in
    let met = c.has_fixed.ensures.some c.if-not-has_fixed.false v same in
    ap not c.if-not-has_fixed.false
    ∙ sym (taken_cluster v c.args.b c.args.bits walked bits whole whole_bits some near met.0 (rw pc at met.1) (rw pc at met.2) (not_and (is_fixed v met.0) (not (list_any (holds_cluster v met.0) walked)) met.3))
  where
    not_and : (x y : Bool) → x ≡ true → (not x && y) ≡ false
    not_and true y h = refl
    not_and false y h = absurd (false≢true h)
