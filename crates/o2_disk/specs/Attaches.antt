-- The attaches of a disk, in their order.
use Rattle.std.specs.Prelude.{ℕ, List, [], ◌∷◌, ◌++◌, map, string_bytes}
use Rattle.o2_disk.specs.declared.disk.How.{How}
use Rattle.o2_disk.specs.declared.attach.Attach.{Attach}

-- the name under which a disk was to be attached, and how
pub record Attachment : Type 0 where
  pub name : List ℕ
  pub how : How

-- those before, and one more
abbrev pub and_attached : List Attachment → List ℕ → How → List Attachment
and_attached before name how = before ++ record { name = name; how = how } ∷ []

abbrev pub attachment_of : Attach → Attachment
attachment_of a = record { name = string_bytes a.name; how = a.how }

-- what a disk's own record tells
abbrev pub attachments_of : List Attach → List Attachment
attachments_of attaches = map attachment_of attaches
