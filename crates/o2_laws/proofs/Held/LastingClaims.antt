-- The claims of structures and inodes stay among all claims, and what a claim owns.
use Rattle.std.proofs.Common.{◌≡◌, ℕ, Bool, true, false, ◌&&◌, ◌==◌, cond, List, [], ◌∷◌, ◌++◌, Option, Some, None}
use Rattle.std.specs.Prelude.{fold}
use Rattle.std.specs.List.{Contains, range_with_len}
use Rattle.std.specs.Option.{option_map_or}
use Rattle.std.proofs.lemmas.Bool.{and_from, eq-eqb}
use Rattle.std.proofs.lemmas.List.Elements.{Contains-append_left, Contains-append_right}
use Rattle.o2_model.specs.declared.claim.Claim.{Claim}
use Rattle.o2_model.specs.declared.system_file.SlotFile.TheVariants as slot_file
use Rattle.o2_model.specs.declared.system_file.SystemFile.TheVariants.{OfSlot}
use Rattle.o2_model.specs.Volume.{Volume}
use Rattle.o2_model.specs.Clusters.{cluster_of}
use Rattle.o2_model.specs.SystemFiles.{system_inode}
use Rattle.o2_model.specs.TruncateLogs.{truncate_records}
use Rattle.o2_model.specs.Indexes.{indexed_directories}
use Rattle.o2_model.specs.Claims.{structure_claims, inode_claims, with_index, claims_with_indexes, with_window_of, with_window, claims_with_windows, with_truncation, with_truncate_log, claims_with_truncations, claims_of}
use Rattle.o2_model.specs.Owned.{needs_bytes, is_owned}
use Rattle.o2_laws.proofs.Found.{found}

-- ---- claims stay
-- what stays where claims are added
abbrev pub Lasts : (List Claim → Type 0) → Type 0
Lasts P = (ks more : List Claim) → P ks → P (ks ++ more)

pub lasts_if : (P : List Claim → Type 0) → Lasts P → (c : Bool) (ks more : List Claim) → P ks → P (cond c (ks ++ more) ks)
lasts_if P lasts true ks more h = lasts ks more h
lasts_if P lasts false ks more h = h

pub lasts_fold : {A : Type 0} (P : List Claim → Type 0) (f : List Claim → A → List Claim) → ((ks : List Claim) (x : A) → P ks → P (f ks x)) → (ks : List Claim) (xs : List A) → P ks → P (fold f ks xs)
lasts_fold P f step ks [] h = h
lasts_fold P f step ks (x ∷ xs) h = lasts_fold P f step (f ks x) xs (step ks x h)

lasts_window : (P : List Claim → Type 0) → Lasts P → (v : Volume) (ks : List Claim) (slot : ℕ) (o : Option ℕ) → P ks → P (option_map_or (with_window_of v ks slot) o ks)
lasts_window P lasts v ks slot None h = h
lasts_window P lasts v ks slot (Some b) h = lasts_if P lasts _ ks _ h

lasts_log : (P : List Claim → Type 0) → Lasts P → (v : Volume) (ks : List Claim) (slot : ℕ) (o : Option ℕ) → P ks → P (option_map_or (λ b. fold (with_truncation v slot) ks (truncate_records v b)) o ks)
lasts_log P lasts v ks slot None h = h
lasts_log P lasts v ks slot (Some b) h = lasts_fold P (with_truncation v slot) (λ es r k. lasts_if P lasts _ es _ k) ks (truncate_records v b) h

-- whatever lasts of the claims of structures, inodes and indexes is so of all claims
pub indexes_last : (P : List Claim → Type 0) → Lasts P → (v : Volume) → P (claims_with_indexes v) → P (claims_of v)
unfolding claims_of claims_with_truncations claims_with_windows
indexes_last P lasts v h =
    let windows = lasts_fold P (with_window v) (λ ks slot k. lasts_window P lasts v ks slot (system_inode v (OfSlot slot_file.LocalAlloc slot)) k) _ (range_with_len 0 v.geo.slots) h in
    lasts_fold P (with_truncate_log v) (λ ks slot k. lasts_log P lasts v ks slot (system_inode v (OfSlot slot_file.TruncateLog slot)) k) _ (range_with_len 0 v.geo.slots) windows

-- and of those of structures and inodes alone
pub claims_last : (P : List Claim → Type 0) → Lasts P → (v : Volume) → P (structure_claims v ++ inode_claims v) → P (claims_of v)
unfolding claims_with_indexes
claims_last P lasts v h = indexes_last P lasts v (lasts_fold P (with_index v) (λ ks d k. lasts_if P lasts _ ks _ k) _ (indexed_directories v) h)

pub structures_claim : (v : Volume) (k : Claim) → Contains (structure_claims v) k → Contains (claims_of v) k
structures_claim v k is =
    claims_last (λ ks. Contains ks k) (λ ks more h. Contains-append_left ks more k h) v (Contains-append_left (structure_claims v) (inode_claims v) k is)

pub inodes_claim : (v : Volume) (k : Claim) → Contains (inode_claims v) k → Contains (claims_of v) k
inodes_claim v k is =
    claims_last (λ ks. Contains ks k) (λ ks more h. Contains-append_left ks more k h) v (Contains-append_right (structure_claims v) (inode_claims v) k is)

-- ---- what claims own
-- the claim is of the block's cluster, and its owner needs the block
abbrev pub owns : Volume → ℕ → Claim → Bool
owns v b k = k.cluster == cluster_of v b && needs_bytes v k.owner b

pub claimed_owned : (v : Volume) (k : Claim) (b : ℕ) → Contains (claims_of v) k → k.cluster ≡ cluster_of v b → needs_bytes v k.owner b ≡ true → is_owned v b ≡ true
unfolding is_owned
claimed_owned v k b is same needs = found (owns v b) (claims_of v) k is (and_from _ _ (eq-eqb k.cluster (cluster_of v b) same) needs)
