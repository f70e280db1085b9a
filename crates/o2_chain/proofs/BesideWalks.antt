-- Two walks of an allocator, from groups that hold the same clusters: they meet the same groups and the same bad links.
use Rattle.std.proofs.Common.{◌≡◌, inl, inr, ℕ, zero, suc, ◌+◌, Bool, true, false, ◌&&◌, ◌||◌, ◌==◌, eqb, List, [], ◌∷◌, ◌++◌, map, append_assoc, refl, sym, ◌∙◌, ap}
use Rattle.std.specs.Prelude.{not, if◌then◌else◌}
use Rattle.std.specs.List.{list_any}
use Rattle.std.proofs.lemmas.Bool.{cases_Bool, false≢true}
use Rattle.std.proofs.lemmas.List.{append-nil, map-append}
use Rattle.std.proofs.lemmas.List.Folds.{list_any-append}
use Rattle.o2_model.specs.declared.allocator.Allocator.{Allocator}
use Rattle.o2_model.specs.declared.allocator.Group.{Group as Walked}
use Rattle.o2_model.specs.Words.{among, push}
use Rattle.o2_model.specs.Volume.{Volume, blocks}
use Rattle.o2_model.specs.Allocators.{are_clusters}
use Rattle.o2_model.specs.Groups.{GroupWalk, group_desc, group_clusters, holds_cluster, is_bitmap_group, is_block_group, is_good_group, with_group, with_bad_link, walk_chain, walk_chains}
use Rattle.o2_chain.specs.Walks.{judged_as, group_in}
use Rattle.o2_chain.specs.declared.group.Group.{Group}
use Rattle.o2_chain.proofs.WalkedBefore.{AllStand, good_stands, stand_push, blocks_unmet}

-- the allocator as it is judged by its block, and by whether its bits are clusters
abbrev pub judged : Allocator → Allocator
judged a = judged_as (are_clusters a.bit_use) a.block

pub judged_clusters : (bitmap : Bool) (block : ℕ) → are_clusters (judged_as bitmap block).bit_use ≡ bitmap
judged_clusters true block = refl
judged_clusters false block = refl

-- What counts as walked holds the same clusters. Groups of the bitmap are in the same blocks, and each other one stands in its cluster.
pub record AreAlike (v : Volume) (a : Allocator) (walked counted : List Walked) : Type 0 where
  pub held : (c : ℕ) → list_any (holds_cluster v c) walked ≡ list_any (holds_cluster v c) counted
  pub placed : are_clusters a.bit_use ≡ true → (b : ℕ) → among (map (λ g. g.block) walked) b ≡ among (map (λ g. g.block) counted) b
  pub stand : are_clusters a.bit_use ≡ false → AllStand v walked
  pub stand_too : are_clusters a.bit_use ≡ false → AllStand v counted

-- ---- one block
good_alike : (found place place_too old old_too : Bool) → place ≡ place_too → (place ≡ true → old ≡ old_too) → (found && place && not old) ≡ (found && place_too && not old_too)
good_alike true true true old old_too same new = ap not (new refl)
good_alike false true true old old_too same new = refl
good_alike true false false old old_too same new = refl
good_alike false false false old old_too same new = refl
good_alike found true false old old_too same new = absurd (false≢true (sym same))
good_alike found false true old old_too same new = absurd (false≢true same)

-- the same blocks are good groups
pub same_good : (v : Volume) (a : Allocator) (walked counted : List Walked) → AreAlike v a walked counted → (b : ℕ) → is_good_group v a walked b ≡ is_good_group v (judged a) counted b
unfolding is_good_group
same_good v a walked counted h b =
    good_alike _ _ _ (among (map (λ g. g.block) walked) b) (among (map (λ g. g.block) counted) b) same_place same_new
  where
    same_group : is_block_group v walked b ≡ is_block_group v counted b
    same_group = simp (h.held) refl

    same_place : (if are_clusters a.bit_use then is_bitmap_group v b else is_block_group v walked b) ≡ (if are_clusters (judged a).bit_use then is_bitmap_group v b else is_block_group v counted b)
    same_place = rw (judged_clusters (are_clusters a.bit_use) a.block, same_group) refl

    same_new : (if are_clusters a.bit_use then is_bitmap_group v b else is_block_group v walked b) ≡ true → among (map (λ g. g.block) walked) b ≡ among (map (λ g. g.block) counted) b
    same_new good = elim (cases_Bool (are_clusters a.bit_use)) [
      | inl clusters ↦ h.placed clusters b
      | inr others ↦
          let group : is_block_group v walked b ≡ true = rw others at good in
          blocks_unmet v walked b (h.stand others) group ∙ sym (blocks_unmet v counted b (h.stand_too others) (sym same_group ∙ group))
    ]

-- one good group more
abbrev group_at : Volume → Allocator → ℕ → ℕ → Walked
group_at v a chain b = record { of = a; chain = chain; block = b; bits = (group_desc v b).bits }

same_clusters : (v : Volume) (a : Allocator) (chain b c : ℕ) → (holds_cluster v c (group_at v a chain b) || false) ≡ (holds_cluster v c (group_at v (judged a) chain b) || false)
same_clusters v a chain b c = ap (λ x. (not x && among (group_clusters v b (group_desc v b).bits) c) || false) (sym (judged_clusters (are_clusters a.bit_use) a.block))

block_more : (gs : List Walked) (g : Walked) (d : ℕ) → among (map (λ g. g.block) (push gs g)) d ≡ (among (map (λ g. g.block) gs) d || (eqb d g.block || false))
block_more gs g d = ap (λ bs. among bs d) (map-append (λ (g : Walked). g.block) gs (g ∷ [])) ∙ list_any-append (eqb d) (map (λ g. g.block) gs) (g.block ∷ [])

alike_more : (v : Volume) (a : Allocator) (walked counted : List Walked) → AreAlike v a walked counted → (chain b : ℕ) → is_good_group v a walked b ≡ true
    → AreAlike v a (push walked (group_at v a chain b)) (push counted (group_at v (judged a) chain b))
alike_more v a walked counted h chain b good = record {
  held = λ c. list_any-append (holds_cluster v c) walked (group_at v a chain b ∷ []) ∙ (either (h.held c) (same_clusters v a chain b c) ∙ sym (list_any-append (holds_cluster v c) counted (group_at v (judged a) chain b ∷ [])));
  placed = λ clusters d. block_more walked (group_at v a chain b) d ∙ (ap (λ x. x || (eqb d b || false)) (h.placed clusters d) ∙ sym (block_more counted (group_at v (judged a) chain b) d));
  stand = λ others. stand_push v walked (group_at v a chain b) (h.stand others) (good_stands v a walked chain b good);
  stand_too = λ others. stand_push v counted (group_at v (judged a) chain b) (h.stand_too others) (good_stands v (judged a) counted chain b (sym (same_good v a walked counted h b) ∙ good));
}
  where
    either : {x y p q : Bool} → x ≡ p → y ≡ q → (x || y) ≡ (p || q)
    either e f = cc

-- ---- the walks
-- the walk has these groups and these bad links more
pub record HasMore (a : Allocator) (old new : GroupWalk) (more : List Group) (bad : List ℕ) : Type 0 where
  pub groups : new.groups ≡ old.groups ++ map (group_in a) more
  pub faults : new.faults ≡ old.faults ++ bad

-- both walks have the same more, and are still alike
pub record GoBeside (v : Volume) (a : Allocator) (old old_too new new_too : GroupWalk) : Type 0 where
  pub more : List Group
  pub bad : List ℕ
  pub walked : HasMore a old new more bad
  pub counted : HasMore (judged a) old_too new_too more bad
  pub alike : AreAlike v a new.groups new_too.groups

more_none : (a : Allocator) (w : GroupWalk) → HasMore a w w [] []
more_none a w = record { groups = sym (append-nil w.groups); faults = sym (append-nil w.faults) }

more_bad : (a : Allocator) (holder : ℕ) (w : GroupWalk) → HasMore a w (with_bad_link w holder) [] (holder ∷ [])
more_bad a holder w = record { groups = sym (append-nil w.groups); faults = refl }

more_one : (a : Allocator) (w : GroupWalk) (chain b bits : ℕ) → HasMore a w (with_group w a chain b bits) (record { chain = chain; block = b; bits = bits } ∷ []) []
more_one a w chain b bits = record { groups = refl; faults = sym (append-nil w.faults) }

more_both : (a : Allocator) (u w x : GroupWalk) (more more_too : List Group) (bad bad_too : List ℕ) → HasMore a u w more bad → HasMore a w x more_too bad_too → HasMore a u x (more ++ more_too) (bad ++ bad_too)
more_both a u w x more more_too bad bad_too old new = record {
  groups = new.groups ∙ (ap (λ gs. gs ++ map (group_in a) more_too) old.groups ∙ (append_assoc u.groups _ _ ∙ ap (λ gs. u.groups ++ gs) (sym (map-append (group_in a) more more_too))));
  faults = new.faults ∙ (ap (λ bs. bs ++ bad_too) old.faults ∙ append_assoc u.faults _ _);
}

module _ (v : Volume) (a : Allocator) where
  beside_none : (w u : GroupWalk) → AreAlike v a w.groups u.groups → GoBeside v a w u w u
  beside_none w u h = record { more = []; bad = []; walked = more_none a w; counted = more_none (judged a) u; alike = h }

  beside_bad : (w u : GroupWalk) (holder : ℕ) → AreAlike v a w.groups u.groups → GoBeside v a w u (with_bad_link w holder) (with_bad_link u holder)
  beside_bad w u holder h = record { more = []; bad = holder ∷ []; walked = more_bad a holder w; counted = more_bad (judged a) holder u; alike = h }

  beside_one : (w u : GroupWalk) (chain b : ℕ) → AreAlike v a w.groups u.groups → is_good_group v a w.groups b ≡ true
      → GoBeside v a w u (with_group w a chain b (group_desc v b).bits) (with_group u (judged a) chain b (group_desc v b).bits)
  beside_one w u chain b h good = record {
    more = record { chain = chain; block = b; bits = (group_desc v b).bits } ∷ [];
    bad = [];
    walked = more_one a w chain b (group_desc v b).bits;
    counted = more_one (judged a) u chain b (group_desc v b).bits;
    alike = alike_more v a w.groups u.groups h chain b good;
  }

  beside_both : (w u w' u' w'' u'' : GroupWalk) → GoBeside v a w u w' u' → GoBeside v a w' u' w'' u'' → GoBeside v a w u w'' u''
  beside_both w u w' u' w'' u'' old new = record {
    more = old.more ++ new.more;
    bad = old.bad ++ new.bad;
    walked = more_both a w w' w'' old.more new.more old.bad new.bad old.walked new.walked;
    counted = more_both (judged a) u u' u'' old.more new.more old.bad new.bad old.counted new.counted;
    alike = new.alike;
  }

  chain_beside : (chain most holder link : ℕ) (w u : GroupWalk) → AreAlike v a w.groups u.groups
      → GoBeside v a w u (walk_chain v a chain most holder link w) (walk_chain v (judged a) chain most holder link u)
  chain_beside chain zero holder link w u h = beside_none w u h
  chain_beside chain (suc most) holder link w u h =
      elim (cases_Bool (link == 0)) [
        | inl end ↦ rw end (beside_none w u h)
        | inr further ↦ elim (cases_Bool (is_good_group v a w.groups link)) [
          | inr bad ↦ rw (further, bad, sym (same_good v a w.groups u.groups h link) ∙ bad) (beside_bad w u holder h)
          | inl good ↦
              let one = beside_one w u chain link h good in
              rw (further, good, sym (same_good v a w.groups u.groups h link) ∙ good)
              (beside_both w u _ _ _ _ one (chain_beside chain most link (group_desc v link).next_group _ _ one.alike))
        ]
      ]

  pub chains_beside : (chain : ℕ) (heads : List ℕ) (w u : GroupWalk) → AreAlike v a w.groups u.groups
      → GoBeside v a w u (walk_chains v a chain heads w) (walk_chains v (judged a) chain heads u)
  chains_beside chain [] w u h = beside_none w u h
  chains_beside chain (head ∷ rest) w u h =
      let one = chain_beside chain (blocks v) a.block head w u h in
      beside_both w u _ _ _ _ one (chains_beside (chain + 1) rest _ _ one.alike)
