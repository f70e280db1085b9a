-- The pieces of a name, one after the other.
use Rattle.std.proofs.Common.{◌≡◌, ◌<◌, ◌+◌, ◌-◌, ◌/◌, length, take, drop, ℕ, suc, List, sym, ◌∙◌, ap, arith}
use Rattle.std.proofs.lemmas.List.{drop-drop, take_rest}
use Rattle.o2_ondisk.specs.declared.hash.NameHash.{NameHash}
use Rattle.o2_ondisk.specs.NameHashes.{with_piece, with_pieces}

-- there is one piece more than behind the first 16 bytes
one_piece_more : (length at : ℕ) → at < length → (length - at + 15) / 16 ≡ suc ((length - (at + 16) + 15) / 16)
one_piece_more length at inside = omega arith

-- the pieces from a byte on are the one there and those behind it
pub piece_by_piece : (name : List ℕ) (at : ℕ) (h : NameHash) → at < length name
    → with_pieces ((length name - at + 15) / 16) (drop at name) h ≡ with_pieces ((length name - (at + 16) + 15) / 16) (drop (at + 16) name) (with_piece (drop at name) h)
piece_by_piece name at h inside =
    rw (one_piece_more (length name) at inside)
    (ap (λ rest. with_pieces ((length name - (at + 16) + 15) / 16) rest (with_piece (drop at name) h)) (drop-drop 16 at name))

-- Where the pieces from a byte on give a hash, those behind the one there give the same from the hash with it.
pub piece_added : (name : List ℕ) (at : ℕ) (h new whole : NameHash) → at < length name
    → new ≡ with_piece (take (length name - at) (drop at name)) h
    → with_pieces ((length name - at + 15) / 16) (drop at name) h ≡ whole
    → with_pieces ((length name - (at + 16) + 15) / 16) (drop (at + 16) name) new ≡ whole
piece_added name at h new whole inside is before =
    let rest : new ≡ with_piece (drop at name) h = is ∙ ap (λ bytes. with_piece bytes h) (take_rest name at) in
    rw rest (sym (piece_by_piece name at h inside) ∙ before)
