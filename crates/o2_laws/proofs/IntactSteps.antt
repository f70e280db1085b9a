-- What is kept of intact paths is kept through steps.
use Rattle.std.proofs.Common.{◌≡◌, ℕ, ◌||◌, refl, ◌∙◌, ap}
use Rattle.o2_model.specs.Volume.{Volume}
use Rattle.o2_model.specs.Inodes.{kind, is_file, is_file_kind, is_link, is_link_kind}
use Rattle.o2_model.specs.Intact.{IsSameInode, KeepsIntact}

same_itself : (v : Volume) (b : ℕ) → IsSameInode v v b
same_itself v b = record { kind = refl; size = refl; content = λ h. refl; attributes = λ h. refl }

pub keeps_itself : (v : Volume) → KeepsIntact v v
keeps_itself v = record { intact = λ path h. h; inode = λ path h. refl; same = λ path b h at. same_itself v b }

-- whether an inode is a file or a link is told by its kind
kind_tells : (u v : Volume) (b : ℕ) → kind v b ≡ kind u b → (is_file v b || is_link v b) ≡ (is_file u b || is_link u b)
unfolding is_file is_link
kind_tells u v b same = ap (λ k. is_file_kind k || is_link_kind k) same

same_by_steps : (u v w : Volume) (b : ℕ) → IsSameInode u v b → IsSameInode v w b → IsSameInode u w b
same_by_steps u v w b first second = record {
  kind = second.kind ∙ first.kind;
  size = second.size ∙ first.size;
  content = λ h. second.content (kind_tells u v b first.kind ∙ h) ∙ first.content h;
  attributes = λ h. second.attributes (kind_tells u v b first.kind ∙ h) ∙ first.attributes h;
}

pub keeps_by_steps : (u v w : Volume) → KeepsIntact u v → KeepsIntact v w → KeepsIntact u w
keeps_by_steps u v w first second = record {
  intact = λ path h. second.intact path (first.intact path h);
  inode = λ path h. second.inode path (first.intact path h) ∙ first.inode path h;
  same = λ path b h at. same_by_steps u v w b (first.same path b h at) (second.same path b (first.intact path h) (first.inode path h ∙ at));
}
