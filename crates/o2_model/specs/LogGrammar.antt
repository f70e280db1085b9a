-- What a log is made of. The reading of a log finds just this.
use Rattle.std.specs.Prelude.{◌≡◌, ℕ, ◌+◌, ◌%◌, ◌^◌, Bool, true, List, [], ◌∷◌, ◌++◌, flat_map, fold, length}
use Rattle.std.specs.List.{AllByRecursion}
use Rattle.o2_model.specs.Logs.{Tag, Transaction, tags_of, revokes_of, with_write, with_revokes, no_writes, has_log_header, descriptor_type, revoke_type, commit_type}

-- A part of a transaction.
pub data LogPart : Type 0 where
  -- a descriptor, and the blocks of its tags behind it
  Logged : List ℕ → List (List ℕ) → LogPart
  -- a revoke block
  Revoked : List ℕ → LogPart

-- the blocks that the part is
abbrev pub part_blocks : LogPart → List (List ℕ)
part_blocks (Logged descriptor blocks) = descriptor ∷ blocks
part_blocks (Revoked block) = block ∷ []

-- it is one of the transaction of this number: a descriptor has just as many blocks behind it as it has tags
abbrev pub IsPart : Bool → ℕ → LogPart → Type 0
IsPart wide sequence (Logged descriptor blocks) =
    (has_log_header descriptor_type sequence descriptor ≡ true) × (length blocks ≡ length (tags_of wide descriptor))
IsPart wide sequence (Revoked block) = has_log_header revoke_type sequence block ≡ true

-- the transaction with a write for each of these tags, of these blocks
abbrev pub with_writes : Transaction → List Tag → List (List ℕ) → Transaction
with_writes t [] blocks = t
with_writes t (tag ∷ tags) [] = t
with_writes t (tag ∷ tags) (b ∷ blocks) = with_writes (with_write t tag b) tags blocks

-- the transaction with what the part tells
abbrev pub with_part : Bool → Transaction → LogPart → Transaction
with_part wide t (Logged descriptor blocks) = with_writes t (tags_of wide descriptor) blocks
with_part wide t (Revoked block) = with_revokes t (revokes_of wide block)

-- what the parts of a transaction tell together
abbrev pub told_by : Bool → List LogPart → Transaction
told_by wide parts = fold (with_part wide) no_writes parts

-- the number of the next transaction
abbrev pub next_sequence : ℕ → ℕ
next_sequence sequence = (sequence + 1) % 2 ^ 32

-- The blocks begin with a whole transaction of this number, which tells t: its parts, and then a commit.
pub record BeginsWith (wide : Bool) (sequence : ℕ) (t : Transaction) (rest blocks : List (List ℕ)) : Type 0 where
  pub parts : List LogPart
  pub commit : List ℕ
  pub are_parts : AllByRecursion (IsPart wide sequence) parts
  pub is_commit : has_log_header commit_type sequence commit ≡ true
  pub blocks_are : blocks ≡ flat_map part_blocks parts ++ commit ∷ rest
  pub tells : t ≡ told_by wide parts

-- The blocks begin with these transactions, from this number on, and with no further one.
abbrev pub Spell : Bool → ℕ → List Transaction → List (List ℕ) → Type 0
Spell wide sequence [] blocks = (t : Transaction) (rest : List (List ℕ)) → BeginsWith wide sequence t rest blocks → ⊥
Spell wide sequence (t ∷ ts) blocks = (rest : List (List ℕ)) × BeginsWith wide sequence t rest blocks × Spell wide (next_sequence sequence) ts rest
