-- What a contract sees of a vector of fixed capacity.
use Rattle.std.specs.Prelude.{ℕ, List, length}

-- the elements in order, and what lies in the room that is left, of which no clause says anything
pub record InlineVec (T : Type 0) : Type 0 where
  pub items : List T
  pub spare : List T

-- how many elements there are
abbrev pub inline_len : {T : Type 0} → InlineVec T → ℕ
inline_len v = length v.items
