use Rattle.std.proofs.Common.{◌≡◌, ◌≤◌, List, length, take}
use Rattle.codec.proofs.Takings.{Many}
use Rattle.lfpl.specs.Syntax.{Ty}
use Rattle.tables.specs.Listed.{Types}
use Rattle.tables.proofs.Typed.{entry_each}
use Rattle.tables.proofs.types.types.Given as goal

-- so many entries stand, and list the types read so far
abbrev pub invariant-loop-i : goal.invariant-loop-i
invariant-loop-i l =
    (length l.slots ≡ 64) × (l.count ≤ 64) × (ts : List Ty) × Types (take l.i l.slots) ts × Many entry_each l.count l.i ts l.cursor l.initial.cursor
