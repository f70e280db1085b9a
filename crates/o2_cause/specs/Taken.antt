-- What a sink took of a text.
use Rattle.std.specs.Prelude.{◌≡◌, ℕ, List, ◌++◌, Some}
use Rattle.o2_disk.specs.Output.{SinkState}

-- where the sink tells its bytes, it took this text
pub record Takes (old new : SinkState) (text : List ℕ) : Type 0 where
  pub taken : (T : List ℕ) → old.taken ≡ Some T → new.taken ≡ Some (T ++ text)

-- The text is in two parts. Behind the bytes T the sink took the first, and nothing of the second.
pub record TakesFront (T : List ℕ) (new : SinkState) (text : List ℕ) : Type 0 where
  pub front : List ℕ
  pub rest : List ℕ
  pub whole : text ≡ front ++ rest
  pub taken : new.taken ≡ Some (T ++ front)

-- where the sink tells its bytes, it took the first ones of this text, maybe none or all
pub record TakesSome (old new : SinkState) (text : List ℕ) : Type 0 where
  pub some : (T : List ℕ) → old.taken ≡ Some T → TakesFront T new text
