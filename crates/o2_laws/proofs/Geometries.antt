-- The numbers of the superblock that is found, and the volume that is opened under it.
use Rattle.std.proofs.Common.{◌≡◌, ⊎_elim, ℕ, List, [], ◌∷◌, Bool, true, Some, sym, ◌∙◌, ap, subst, arith}
use Rattle.std.proofs.lemmas.Bool.Decides.{nat_tests}
use Rattle.std.proofs.lemmas.Bool.{cases_Bool}
use Rattle.std.specs.Prelude.{find}
use Rattle.std.specs.Option.{option_map}
use Rattle.o2_disk.specs.Image.{Image}
use Rattle.o2_model.specs.Superblock.{superblock_bits, has_super, block_sizes}
use Rattle.o2_model.specs.Geometry.{geometry_at, superblock_geometry}
use Rattle.o2_model.specs.Volume.{opened, volume_of, Volume}
use Rattle.o2_model.specs.declared.geo.Geo.{Geo}
use Rattle.o2_laws.proofs.Found.{mapped_some}

-- what is found passes
found_passes : (p : ℕ → Bool) (xs : List ℕ) (x : ℕ) → find p xs ≡ Some x → p x ≡ true
found_passes p [] x found = absurd (let never : ⊥ = cc in never)
found_passes p (y ∷ ys) x found = ⊎_elim (λ yes. let here = rw yes at found in let same : y ≡ x = cc in subst (λ (n : ℕ). p n ≡ true) same yes) (λ no. found_passes p ys x (rw no at found)) (cases_Bool (p y))

-- a superblock tells the size under which it was found
tells_bits : (I : Image) (bits : ℕ) → has_super I bits ≡ true → (geometry_at I bits).block_bits ≡ bits
unfolding has_super
tells_bits I bits has = grind (arith, nat_tests)

pub found_bits : (I : Image) (bits : ℕ) → superblock_bits I ≡ Some bits → (geometry_at I bits).block_bits ≡ bits
unfolding superblock_bits
found_bits I bits found = tells_bits I bits (found_passes (has_super I) block_sizes bits found)

-- there is a superblock where there are numbers
pub found_under : (I : Image) (geo : Geo) → superblock_geometry I ≡ Some geo → (bits : ℕ) × (superblock_bits I ≡ Some bits) × (geometry_at I bits ≡ geo)
found_under I geo found = mapped_some (geometry_at I) (superblock_bits I) geo found

pub geometry_bits : (I : Image) (geo : Geo) → superblock_geometry I ≡ Some geo → superblock_bits I ≡ Some geo.block_bits
geometry_bits I geo found =
    let at = found_under I geo found in
    at.1 ∙ ap (λ (n : ℕ). Some n) (sym (found_bits I at.0 at.1) ∙ ap (λ (x : Geo). x.block_bits) at.2)

pub geometry_opened : (I : Image) (geo : Geo) → superblock_geometry I ≡ Some geo → opened I ≡ Some (volume_of I geo.block_bits)
geometry_opened I geo found = ap (option_map (volume_of I)) (geometry_bits I geo found)

pub geometry_numbers : (I : Image) (geo : Geo) → superblock_geometry I ≡ Some geo → geometry_at I geo.block_bits ≡ geo
geometry_numbers I geo found =
    let at = found_under I geo found in
    ap (geometry_at I) (ap (λ (x : Geo). x.block_bits) (sym at.2) ∙ found_bits I at.0 at.1) ∙ at.2

-- ---- what is opened
pub opened_at : (I : Image) (v : Volume) → opened I ≡ Some v → (bits : ℕ) × (superblock_bits I ≡ Some bits) × (volume_of I bits ≡ v)
opened_at I v is = mapped_some (volume_of I) (superblock_bits I) v is

pub opened_of : (I : Image) (bits : ℕ) → superblock_bits I ≡ Some bits → opened I ≡ Some (volume_of I bits)
opened_of I bits found = ap (option_map (volume_of I)) found
