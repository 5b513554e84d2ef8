use Rattle.std.proofs.Common.{◌≡◌, ◌≤◌, List, length, take}
use Rattle.codec.proofs.Takings.{Many}
use Rattle.lfpl.specs.Syntax.{Ty}
use Rattle.tables.specs.Inner.{Numbered}
use Rattle.tables.proofs.Signed.{type_each}
use Rattle.tables.proofs.signatures.parameters.Given as goal

-- so many parameters stand, by the numbers of the types read so far
abbrev pub invariant-loop-slot : goal.invariant-loop-slot
invariant-loop-slot l = record {
  long : length l.slot-items ≡ l.arity;
  few : l.arity ≤ 6;
  read : (ts : List Ty) → length ts ≡ l.types → ((As : List Ty) × Numbered ts (take l.slot-index l.slot-items) As × Many (type_each ts) l.arity l.slot-index As l.cursor l.initial.cursor);
}
