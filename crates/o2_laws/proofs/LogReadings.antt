-- The reading of a log finds the transactions that its blocks spell.
use Rattle.std.proofs.Common.{◌≡◌, inl, inr, ℕ, suc, Bool, true, false, List, [], ◌∷◌, ◌++◌, length, refl, sym, ◌∙◌, ap, arith}
use Rattle.std.specs.Prelude.{flat_map, fold}
use Rattle.std.specs.List.{AllByRecursion}
use Rattle.std.proofs.lemmas.Bool.{cases_Bool}
use Rattle.std.proofs.lemmas.Bool.Decides.{nat_tests}
use Rattle.std.proofs.lemmas.List.{append_assoc}
use Rattle.o2_model.specs.Logs.{Tag, Transaction, tags_of, revokes_of, with_write, with_revokes, no_writes, has_log_header, descriptor_type, revoke_type, commit_type, read_log}
use Rattle.o2_model.specs.LogGrammar.{LogPart, Logged, Revoked, part_blocks, IsPart, with_writes, with_part, told_by, next_sequence, BeginsWith, Spell}
use Rattle.o2_laws.proofs.Found.{none_of_length}

-- ---- a header has one type
revoke_is_no_descriptor : (sequence : ℕ) (b : List ℕ) → has_log_header revoke_type sequence b ≡ true → has_log_header descriptor_type sequence b ≡ false
unfolding has_log_header
revoke_is_no_descriptor sequence b h = grind (arith, nat_tests)

commit_is_no_descriptor : (sequence : ℕ) (b : List ℕ) → has_log_header commit_type sequence b ≡ true → has_log_header descriptor_type sequence b ≡ false
unfolding has_log_header
commit_is_no_descriptor sequence b h = grind (arith, nat_tests)

commit_is_no_revoke : (sequence : ℕ) (b : List ℕ) → has_log_header commit_type sequence b ≡ true → has_log_header revoke_type sequence b ≡ false
unfolding has_log_header
commit_is_no_revoke sequence b h = grind (arith, nat_tests)

-- ---- what is spelled is read
-- the blocks of the tags
blocks_read : (wide : Bool) (sequence : ℕ) (t : Transaction) (tags : List Tag) (blocks rest : List (List ℕ)) → length blocks ≡ length tags
    → read_log wide sequence t tags (blocks ++ rest) ≡ read_log wide sequence (with_writes t tags blocks) [] rest
blocks_read wide sequence t [] [] rest same = refl
blocks_read wide sequence t [] (b ∷ blocks) rest same = absurd (omega (arith, same))
blocks_read wide sequence t (tag ∷ tags) [] rest same = absurd (omega (arith, same))
blocks_read wide sequence t (tag ∷ tags) (b ∷ blocks) rest same = blocks_read wide sequence (with_write t tag b) tags blocks rest (omega (arith, same))

part_read : (wide : Bool) (sequence : ℕ) (t : Transaction) (p : LogPart) (rest : List (List ℕ)) → IsPart wide sequence p
    → read_log wide sequence t [] (part_blocks p ++ rest) ≡ read_log wide sequence (with_part wide t p) [] rest
part_read wide sequence t (Logged descriptor blocks) rest is = rw is.0 (blocks_read wide sequence t (tags_of wide descriptor) blocks rest is.1)
part_read wide sequence t (Revoked block) rest is = rw (revoke_is_no_descriptor sequence block is, is) refl

parts_read : (wide : Bool) (sequence : ℕ) (t : Transaction) (parts : List LogPart) (rest : List (List ℕ)) → AllByRecursion (IsPart wide sequence) parts
    → read_log wide sequence t [] (flat_map part_blocks parts ++ rest) ≡ read_log wide sequence (fold (with_part wide) t parts) [] rest
parts_read wide sequence t [] rest are = refl
parts_read wide sequence t (p ∷ parts) rest are =
    ap (read_log wide sequence t []) (append_assoc (part_blocks p) (flat_map part_blocks parts) rest)
    ∙ (part_read wide sequence t p (flat_map part_blocks parts ++ rest) are.0
    ∙ parts_read wide sequence (with_part wide t p) parts rest are.1)

commit_read : (wide : Bool) (sequence : ℕ) (t : Transaction) (commit : List ℕ) (rest : List (List ℕ)) → has_log_header commit_type sequence commit ≡ true
    → read_log wide sequence t [] (commit ∷ rest) ≡ t ∷ read_log wide (next_sequence sequence) no_writes [] rest
commit_read wide sequence t commit rest is = rw (commit_is_no_descriptor sequence commit is, commit_is_no_revoke sequence commit is, is) refl

-- A transaction at the front is read, and then what is behind it.
pub transaction_read : (wide : Bool) (sequence : ℕ) (t : Transaction) (rest blocks : List (List ℕ)) → BeginsWith wide sequence t rest blocks
    → read_log wide sequence no_writes [] blocks ≡ t ∷ read_log wide (next_sequence sequence) no_writes [] rest
transaction_read wide sequence t rest blocks h =
    ap (read_log wide sequence no_writes []) h.blocks_are
    ∙ (parts_read wide sequence no_writes h.parts (h.commit ∷ rest) h.are_parts
    ∙ (commit_read wide sequence (told_by wide h.parts) h.commit rest h.is_commit
    ∙ ap (λ u. u ∷ read_log wide (next_sequence sequence) no_writes [] rest) (sym h.tells)))

-- ---- what is read is spelled
-- What is read where these tags wait: their blocks, further parts, a commit, and the rest.
record Found (wide : Bool) (sequence : ℕ) (t : Transaction) (tags : List Tag) (u : Transaction) (us : List Transaction) (blocks : List (List ℕ)) : Type 0 where
  logged : List (List ℕ)
  parts : List LogPart
  commit : List ℕ
  rest : List (List ℕ)
  same : length logged ≡ length tags
  are_parts : AllByRecursion (IsPart wide sequence) parts
  is_commit : has_log_header commit_type sequence commit ≡ true
  blocks_are : blocks ≡ logged ++ (flat_map part_blocks parts ++ commit ∷ rest)
  tells : u ≡ fold (with_part wide) (with_writes t tags logged) parts
  others : us ≡ read_log wide (next_sequence sequence) no_writes [] rest

-- one block of a tag more
found_logged : (wide : Bool) (sequence : ℕ) (t : Transaction) (tag : Tag) (tags : List Tag) (u : Transaction) (us : List Transaction) (b : List ℕ) (blocks : List (List ℕ))
    → Found wide sequence (with_write t tag b) tags u us blocks → Found wide sequence t (tag ∷ tags) u us (b ∷ blocks)
found_logged wide sequence t tag tags u us b blocks f = record {
  logged = b ∷ f.logged;
  parts = f.parts;
  commit = f.commit;
  rest = f.rest;
  same = ap suc f.same;
  are_parts = f.are_parts;
  is_commit = f.is_commit;
  blocks_are = ap (λ bs. b ∷ bs) f.blocks_are;
  tells = f.tells;
  others = f.others;
}

found_descriptor : (wide : Bool) (sequence : ℕ) (t : Transaction) (u : Transaction) (us : List Transaction) (b : List ℕ) (blocks : List (List ℕ)) → has_log_header descriptor_type sequence b ≡ true
    → Found wide sequence t (tags_of wide b) u us blocks → Found wide sequence t [] u us (b ∷ blocks)
found_descriptor wide sequence t u us b blocks is f = record {
  logged = [];
  parts = Logged b f.logged ∷ f.parts;
  commit = f.commit;
  rest = f.rest;
  same = refl;
  are_parts = ((is, f.same), f.are_parts);
  is_commit = f.is_commit;
  blocks_are = ap (λ bs. b ∷ bs) (f.blocks_are ∙ sym (append_assoc f.logged (flat_map part_blocks f.parts) (f.commit ∷ f.rest)));
  tells = f.tells;
  others = f.others;
}

found_revoke : (wide : Bool) (sequence : ℕ) (t : Transaction) (u : Transaction) (us : List Transaction) (b : List ℕ) (blocks : List (List ℕ)) → has_log_header revoke_type sequence b ≡ true
    → Found wide sequence (with_revokes t (revokes_of wide b)) [] u us blocks → Found wide sequence t [] u us (b ∷ blocks)
found_revoke wide sequence t u us b blocks is f =
    let none = none_of_length f.logged f.same in
    record {
      logged = [];
      parts = Revoked b ∷ f.parts;
      commit = f.commit;
      rest = f.rest;
      same = refl;
      are_parts = (is, f.are_parts);
      is_commit = f.is_commit;
      blocks_are = ap (λ bs. b ∷ bs) (f.blocks_are ∙ ap (λ bs. bs ++ (flat_map part_blocks f.parts ++ f.commit ∷ f.rest)) none);
      tells = f.tells;
      others = f.others;
    }

found : (wide : Bool) (sequence : ℕ) (t : Transaction) (tags : List Tag) (u : Transaction) (us : List Transaction) (blocks : List (List ℕ)) → read_log wide sequence t tags blocks ≡ u ∷ us → Found wide sequence t tags u us blocks
found wide sequence t tags u us [] h = cc
found wide sequence t (tag ∷ tags) u us (b ∷ blocks) h = found_logged wide sequence t tag tags u us b blocks (found wide sequence (with_write t tag b) tags u us blocks h)
found wide sequence t [] u us (b ∷ blocks) h =
    elim (cases_Bool (has_log_header descriptor_type sequence b)) [
      | inl descriptor ↦ found_descriptor wide sequence t u us b blocks descriptor (found wide sequence t (tags_of wide b) u us blocks (rw descriptor at h))
      | inr other ↦ elim (cases_Bool (has_log_header revoke_type sequence b)) [
        | inl revoke ↦ found_revoke wide sequence t u us b blocks revoke (found wide sequence (with_revokes t (revokes_of wide b)) [] u us blocks (rw (other, revoke) at h))
        | inr further ↦ elim (cases_Bool (has_log_header commit_type sequence b)) [
          | inl commit ↦
              let e : t ∷ read_log wide (next_sequence sequence) no_writes [] blocks ≡ u ∷ us = rw (other, further, commit) at h in
              record {
                logged = [];
                parts = [];
                commit = b;
                rest = blocks;
                same = refl;
                are_parts = tt;
                is_commit = commit;
                blocks_are = refl;
                tells = cc;
                others = cc;
              }
          | inr none ↦ let e : [] ≡ u ∷ us = rw (other, further, none) at h in cc
        ]
      ]
    ]

begins : (wide : Bool) (sequence : ℕ) (u : Transaction) (us : List Transaction) (blocks : List (List ℕ)) → (f : Found wide sequence no_writes [] u us blocks) → BeginsWith wide sequence u f.rest blocks
begins wide sequence u us blocks f =
    let none = none_of_length f.logged f.same in
    record {
      parts = f.parts;
      commit = f.commit;
      are_parts = f.are_parts;
      is_commit = f.is_commit;
      blocks_are = f.blocks_are ∙ ap (λ bs. bs ++ (flat_map part_blocks f.parts ++ f.commit ∷ f.rest)) none;
      tells = f.tells;
    }

pub read_spells : (wide : Bool) (sequence : ℕ) (ts : List Transaction) (blocks : List (List ℕ)) → read_log wide sequence no_writes [] blocks ≡ ts → Spell wide sequence ts blocks
read_spells wide sequence [] blocks h = λ t rest b. let e : [] ≡ t ∷ read_log wide (next_sequence sequence) no_writes [] rest = sym h ∙ transaction_read wide sequence t rest blocks b in cc
read_spells wide sequence (t ∷ ts) blocks h =
    let f = found wide sequence no_writes [] t ts blocks h in
    (f.rest, begins wide sequence t ts blocks f, read_spells wide (next_sequence sequence) ts f.rest (sym f.others))

nothing_spelled : (wide : Bool) (sequence : ℕ) (blocks : List (List ℕ)) (us : List Transaction) → read_log wide sequence no_writes [] blocks ≡ us → ((t : Transaction) (rest : List (List ℕ)) → BeginsWith wide sequence t rest blocks → ⊥) → us ≡ []
nothing_spelled wide sequence blocks [] h none = refl
nothing_spelled wide sequence blocks (u ∷ us) h none = let f = found wide sequence no_writes [] u us blocks h in absurd (none u f.rest (begins wide sequence u us blocks f))

pub spells_read : (wide : Bool) (sequence : ℕ) (ts : List Transaction) (blocks : List (List ℕ)) → Spell wide sequence ts blocks → read_log wide sequence no_writes [] blocks ≡ ts
spells_read wide sequence [] blocks h = nothing_spelled wide sequence blocks (read_log wide sequence no_writes [] blocks) refl h
spells_read wide sequence (t ∷ ts) blocks h =
    transaction_read wide sequence t h.0 blocks h.1 ∙ ap (λ us. t ∷ us) (spells_read wide (next_sequence sequence) ts h.0 h.2)
