-- A full byte has no clear bit.
use Rattle.std.proofs.Common.{◌≡◌, ◌/◌, ◌%◌, ◌^◌, ◌<◌, false, zero, suc, ℕ, refl, arith}
use Rattle.std.specs.Prelude.{◌==◌, not}
use Rattle.o2_view.proofs.Gains.{gains_none}
use Rattle.o2_chain.proofs.clear_bits.add_clear_of_byte.Goals as goal

none_clear : (k : ℕ) → k < 8 → not (255 / 2 ^ k % 2 == 1) ≡ false
none_clear zero low = refl
none_clear (suc zero) low = refl
none_clear (suc (suc zero)) low = refl
none_clear (suc (suc (suc zero))) low = refl
none_clear (suc (suc (suc (suc zero)))) low = refl
none_clear (suc (suc (suc (suc (suc zero))))) low = refl
none_clear (suc (suc (suc (suc (suc (suc zero)))))) low = refl
none_clear (suc (suc (suc (suc (suc (suc (suc zero))))))) low = refl
none_clear (suc (suc (suc (suc (suc (suc (suc (suc k)))))))) low = absurd (omega (arith, low))

pub returns-then-byte-eq255 : goal.returns-then-byte-eq255
returns-then-byte-eq255 c =
    gains_none _ c.args.first c.args.bits c.args.runs.now (omega arith) (λ k low. rw c.if-byte-eq255.true (none_clear k (omega (arith, low))))
