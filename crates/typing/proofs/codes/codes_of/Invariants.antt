use Rattle.std.proofs.Common.{◌≡◌, List, length, map, take}
use Rattle.lfpl.specs.Syntax.{Ty}
use Rattle.typing.specs.Codes.{CodedAll, TellsEach}
use Rattle.typing.proofs.codes.codes_of.Given as goal

abbrev pub invariant-loop-item : goal.invariant-loop-item
invariant-loop-item g l = record {
  count : length l.row.items ≡ l.item-index;
  encodes : (ts : List Ty) (type : _ → Ty) → TellsEach ts (goal.F-post g l.code) type l.items → CodedAll ts l.row.items (map type (take l.item-index l.items));
}
