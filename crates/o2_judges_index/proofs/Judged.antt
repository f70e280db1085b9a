-- Indexes judged one behind the other: where each holds, and what they claim.
use Rattle.std.proofs.Common.{◌≡◌, ℕ, ◌+◌, ◌<◌, length, take, drop, get_or, Bool, true, false, not, nat_lt, if◌then◌else◌, List, [], ◌∷◌, ◌++◌, map, flat_map, filter, fold, refl, sym, ◌∙◌, ap, subst}
use Rattle.std.specs.List.{AllByRecursion}
use Rattle.std.proofs.lemmas.List.{append-nil, map-append, take_more, drop_more, take-append-drop}
use Rattle.std.proofs.lemmas.List.Elements.{filter-append}
use Rattle.std.proofs.lemmas.Grind.{flat_map-append}
use Rattle.o2_model.specs.declared.claim.Claim.{Claim}
use Rattle.o2_model.specs.declared.claim.Owner.TheVariants.{Index}
use Rattle.o2_model.specs.Faults.{fails_at, fails_unless}
use Rattle.o2_model.specs.Words.{push}
use Rattle.o2_model.specs.Orders.{rising}
use Rattle.o2_model.specs.Volume.{Volume, blocks}
use Rattle.o2_model.specs.Claims.{structure_claims, inode_claims, claims_by, claimed_clusters, with_index, claims_before_index, claims_with_indexes}
use Rattle.o2_model.specs.Indexes.{index_blocks, index_clusters, index_extents, indexed_directories, is_indexed}
use Rattle.o2_model.specs.Groups.{inodes_of, is_inode}
use Rattle.o2_model.specs.SoundIndexes.{is_sound_index}
use Rattle.o2_model.specs.Checks.Dx.{holds_index}
use Rattle.o2_model.specs.Failing.{faults}
use Rattle.o2_claims.specs.Owners.{AreOwners}
use Rattle.o2_claims.specs.declared.claims.Claims.{Claims}
use Rattle.o2_tree.specs.declared.indexes.IndexRow.{IndexRow}
use Rattle.o2_tree.specs.TreeRows.{IsIndexRow, IsIndexTable}
use Rattle.o2_judges_claims.specs.Adding.{AddsClaims}
use Rattle.o2_judges_claims.specs.ClaimRows.{runs_claims}
use Rattle.o2_judges_claims.proofs.ClaimsTold.{runs_tell}
use Rattle.o2_judges_index.specs.declared.judge.IndexJudgement.{IndexJudgement}
use Rattle.o2_judges_index.specs.IndexRows.{blocks_of_row}
use Rattle.o2_judges_index.specs.Judgements.{IsJudgedOne, IsJudgedTo, IsIndexJudgement}
use Rattle.o2_judges_index.proofs.BlocksTold.{row_blocks}
use Rattle.o2_judges_index.proofs.RisingLists.{AreAbove, above_filter, above_range, those_before}

-- ---- one index
claims_tell : (v : Volume) (r : IndexRow) → IsIndexRow v r → runs_claims (Index r.directory) r.runs ≡ claims_by (Index r.directory) (index_clusters v r.directory)
unfolding index_clusters
claims_tell v r is = ap (runs_claims (Index r.directory)) is.runs ∙ runs_tell v (Index r.directory) (index_extents v r.directory).leaves

-- one that holds adds its claims and its blocks
pub held_one : (v : Volume) (before : List Claim) (r : IndexRow) (old new : IndexJudgement) (claims more : Claims) → IsIndexRow v r → is_sound_index v (claimed_clusters before) r.directory ≡ true
    → AreOwners before claims → AddsClaims (runs_claims (Index r.directory) r.runs) claims more → new.faults.items ≡ old.faults.items → new.blocks.items ≡ old.blocks.items ++ blocks_of_row r
    → IsJudgedOne v before r.directory old new more
held_one v before r old new claims more is sound are adds same put = record {
  owners = rw sound (subst (λ ks. AreOwners (before ++ ks) more) (claims_tell v r is) (adds before are));
  faults = rw sound (same ∙ sym (append-nil old.faults.items));
  blocks = rw sound (put ∙ ap (λ bs. old.blocks.items ++ bs) (row_blocks v r is));
}

-- one that does not is told
pub failed_one : (v : Volume) (before : List Claim) (r : IndexRow) (old new : IndexJudgement) (claims : Claims) → is_sound_index v (claimed_clusters before) r.directory ≡ false
    → AreOwners before claims → new.faults.items ≡ push old.faults.items r.directory → new.blocks.items ≡ old.blocks.items → IsJudgedOne v before r.directory old new claims
failed_one v before r old new claims bad are put same = record {
  owners = rw bad are;
  faults = rw bad put;
  blocks = rw bad (same ∙ sym (append-nil old.blocks.items));
}

-- ---- one more
-- the directories rise
directories_rise : (v : Volume) → AreAbove 0 (indexed_directories v)
unfolding indexed_directories inodes_of
directories_rise v = above_filter (is_indexed v) 0 _ (above_filter (is_inode v) 0 _ (above_range 0 (blocks v)))

-- the claims before an index are those of the directories before it
pub before_is : (v : Volume) (d : ℕ) (front rest : List ℕ) → indexed_directories v ≡ front ++ d ∷ rest
    → claims_before_index v d ≡ fold (with_index v) (structure_claims v ++ inode_claims v) front
unfolding claims_before_index
before_is v d front rest is =
    ap (fold (with_index v) (structure_claims v ++ inode_claims v)) (ap (filter (λ e. nat_lt e d)) is ∙ those_before 0 d front rest (subst (AreAbove 0) is (directories_rise v)))

fold_push : (v : Volume) (start : List Claim) (ds : List ℕ) (d : ℕ) → fold (with_index v) start (push ds d) ≡ with_index v (fold (with_index v) start ds) d
fold_push v start [] d = refl
fold_push v start (e ∷ es) d = fold_push v (with_index v start e) es d

fails_push : (holds : ℕ → Bool) (ds : List ℕ) (d : ℕ) → fails_at (λ n. n) holds (push ds d) ≡ fails_at (λ n. n) holds ds ++ fails_unless d (holds d)
fails_push holds ds d =
    ap (map (λ n. n)) (filter-append (λ n. not (holds n)) ds (d ∷ []))
    ∙ (map-append (λ n. n) (filter (λ n. not (holds n)) ds) (filter (λ n. not (holds n)) (d ∷ []))
    ∙ ap (λ ns. fails_at (λ n. n) holds ds ++ ns) (one (holds d) refl))
  where
    one : (b : Bool) → holds d ≡ b → fails_at (λ n. n) holds (d ∷ []) ≡ fails_unless d (holds d)
    one true is = rw is refl
    one false is = rw is refl

held_push : (f : ℕ → List ℕ) (holds : ℕ → Bool) (ds : List ℕ) (d : ℕ) → flat_map f (filter holds (push ds d)) ≡ flat_map f (filter holds ds) ++ (if holds d then f d else [])
held_push f holds ds d =
    ap (flat_map f) (filter-append holds ds (d ∷ [])) ∙ (flat_map-append f (filter holds ds) (filter holds (d ∷ [])) ∙ ap (λ ns. flat_map f (filter holds ds) ++ ns) (one (holds d) refl))
  where
    one : (b : Bool) → holds d ≡ b → flat_map f (filter holds (d ∷ [])) ≡ (if holds d then f d else [])
    one true is = rw is (append-nil (f d))
    one false is = rw is refl

pub judged_more : (v : Volume) (ds rest : List ℕ) (d : ℕ) (old new : IndexJudgement) (before after : Claims) → indexed_directories v ≡ ds ++ d ∷ rest → IsJudgedTo v ds old before
    → IsJudgedOne v (fold (with_index v) (structure_claims v ++ inode_claims v) ds) d old new after → IsJudgedTo v (push ds d) new after
unfolding holds_index
judged_more v ds rest d old new before after is so one =
    let start = structure_claims v ++ inode_claims v in
    let same : is_sound_index v (claimed_clusters (fold (with_index v) start ds)) d ≡ holds_index v d = ap (λ ks. is_sound_index v (claimed_clusters ks) d) (sym (before_is v d ds rest is)) in
    record {
      owners = subst (λ ks. AreOwners ks after) (sym (fold_push v start ds d)) one.owners;
      faults =
          one.faults
          ∙ (ap (λ b. old.faults.items ++ fails_unless d b) same
          ∙ (ap (λ ns. ns ++ fails_unless d (holds_index v d)) so.faults
          ∙ sym (fails_push (holds_index v) ds d)));
      blocks =
          one.blocks
          ∙ (ap (λ b. old.blocks.items ++ (if b then index_blocks v d else [])) same
          ∙ (ap (λ ns. ns ++ (if holds_index v d then index_blocks v d else [])) so.blocks
          ∙ sym (held_push (index_blocks v) (holds_index v) ds d)));
    }

-- the same along the rows
each_here : {A : Type 0} (P : A → Type 0) (front rest : List A) (x : A) → AllByRecursion P (front ++ x ∷ rest) → P x
each_here P [] rest x all = all.0
each_here P (y ∷ front) rest x all = each_here P front rest x all.1

abbrev pub directories_of : List IndexRow → List ℕ
directories_of rows = map (λ r. r.directory) rows

pub rows_more : (v : Volume) (rows : List IndexRow) (i : ℕ) (row : IndexRow) (old new : IndexJudgement) (before after : Claims) → i < length rows → row ≡ get_or rows i row → IsIndexTable v rows
    → IsJudgedTo v (directories_of (take i rows)) old before
    → (IsIndexRow v row → IsJudgedOne v (fold (with_index v) (structure_claims v ++ inode_claims v) (directories_of (take i rows))) row.directory old new after)
    → IsJudgedTo v (directories_of (take (i + 1) rows)) new after
rows_more v rows i row old new before after low is table so one =
    let next : take (i + 1) rows ≡ push (take i rows) row = take_more rows i row low ∙ ap (λ r. take i rows ++ r ∷ []) (sym is) in
    let split : rows ≡ take i rows ++ row ∷ drop (i + 1) rows =
    sym (take-append-drop i rows) ∙ ap (λ rs. take i rows ++ rs) (drop_more rows i row low ∙ ap (λ r. r ∷ drop (i + 1) rows) (sym is)) in
    let here : IsIndexRow v row = each_here (IsIndexRow v) (take i rows) (drop (i + 1) rows) row (subst (AllByRecursion (IsIndexRow v)) split table.each) in
    let all : indexed_directories v ≡ directories_of (take i rows) ++ row.directory ∷ directories_of (drop (i + 1) rows) =
    sym table.directories ∙ (ap directories_of split ∙ map-append (λ (r : IndexRow). r.directory) (take i rows) (row ∷ drop (i + 1) rows)) in
    subst (λ ds. IsJudgedTo v ds new after) (sym (ap directories_of next ∙ map-append (λ (r : IndexRow). r.directory) (take i rows) (row ∷ [])))
    (judged_more v (directories_of (take i rows)) (directories_of (drop (i + 1) rows)) row.directory old new before after all so (one here))

-- ---- all of them
pub judged_all : (v : Volume) (rows : List IndexRow) (judged : IndexJudgement) (claims : Claims) → IsIndexTable v rows → IsJudgedTo v (map (λ r. r.directory) rows) judged claims
    → IsIndexJudgement v judged × AreOwners (claims_with_indexes v) claims
unfolding claims_with_indexes faults
judged_all v rows judged claims table so =
    let all = subst (λ ds. IsJudgedTo v ds judged claims) table.directories so in
    (record { faults = ap rising all.faults; blocks = all.blocks }, all.owners)
