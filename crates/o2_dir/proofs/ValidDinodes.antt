-- Which blocks can be valid dinodes.
use Rattle.std.proofs.Common.{◌≡◌, ℕ, ◌≤◌, Bool, true, false, ◌&&◌, nat_lt, refl, arith}
use Rattle.std.proofs.lemmas.Bool.Decides.{nat_tests}
use Rattle.o2_model.specs.Volume.{Volume, blocks, is_valid, is_in_range}

not_below : (b n : ℕ) → n ≤ b → nat_lt b n ≡ false
not_below b n past = grind (arith, nat_tests)

and_none : (a : Bool) → (a && false) ≡ false
and_none true = refl
and_none false = refl

outside : (v : Volume) (b : ℕ) → blocks v ≤ b → is_in_range v b ≡ false
outside v b past = rw (not_below b (blocks v) past) (and_none (nat_lt 0 b))

pub outside_is_invalid : (v : Volume) (b : ℕ) → blocks v ≤ b → is_valid v b ≡ false
unfolding is_valid
outside_is_invalid v b past = rw (outside v b past) refl
