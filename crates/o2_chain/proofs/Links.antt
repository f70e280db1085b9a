-- A chain, one link further.
use Rattle.std.proofs.Common.{◌≡◌, ℕ, zero, suc, ◌+◌, ◌-◌, ◌<◌, ◌≤◌, true, false, ◌==◌, length, refl, arith}
use Rattle.std.specs.Prelude.{◌≢◌}
use Rattle.std.proofs.lemmas.Bool.Decides.{nat_tests}
use Rattle.o2_model.specs.declared.allocator.Allocator.{Allocator}
use Rattle.o2_model.specs.Volume.{Volume}
use Rattle.o2_model.specs.Groups.{GroupWalk, group_desc, is_good_group, with_group, with_bad_link, walk_chain}
use Rattle.o2_model.proofs.Looks.{room_left}
use Rattle.o2_chain.specs.Readings.{HasLooked, looked_at}
use Rattle.o2_chain.specs.declared.walked.Walked.{Walked}

module _ (v : Volume) (a : Allocator) (chain : ℕ) where
  pub chain_ends : (most holder link : ℕ) (w : GroupWalk) → link ≡ 0 → walk_chain v a chain most holder link w ≡ w
  chain_ends zero holder link w end = refl
  chain_ends (suc most) holder link w end = rw end refl

  further : (link : ℕ) → link ≢ 0 → (link == 0) ≡ false
  further link some = grind (arith, nat_tests)

  pub chain_stops : (most holder link : ℕ) (w : GroupWalk) → link ≢ 0 → 0 < most → is_good_group v a w.groups link ≡ false → walk_chain v a chain most holder link w ≡ with_bad_link w holder
  chain_stops zero holder link w some room bad = absurd (omega arith)
  chain_stops (suc most) holder link w some room bad = rw (further link some, bad) refl

  pub chain_goes_on : (most holder link : ℕ) (w : GroupWalk) → link ≢ 0 → 0 < most → is_good_group v a w.groups link ≡ true
      → walk_chain v a chain most holder link w ≡ walk_chain v a chain (most - 1) link (group_desc v link).next_group (with_group w a chain link (group_desc v link).bits)
  chain_goes_on zero holder link w some room good = absurd (omega arith)
  chain_goes_on (suc most) holder link w some room good = let less : suc most - 1 ≡ most = omega arith in rw (further link some, good, less) refl

-- a block is left that was not looked at, so the bound of the chain is not reached
pub some_left : (n most : ℕ) (walked : Walked) → HasLooked n walked → n ≤ most + length (looked_at walked) → 0 < most
some_left n most walked h enough = omega (arith, room_left n (looked_at walked) h.apart, enough)
