use Rattle.std.proofs.Common.{◌≡◌, ◌≤◌, List, length, take}
use Rattle.codec.proofs.Takings.{Many}
use Rattle.lfpl.specs.Syntax.{Ty}
use Rattle.lfpl.specs.Reading.{Signature}
use Rattle.tables.specs.Inner.{Few}
use Rattle.tables.specs.Listed.{AllSign}
use Rattle.tables.proofs.Signed.{signature_each}
use Rattle.tables.proofs.signatures.signatures.Given as goal

-- so many signatures stand for the function types read so far
abbrev pub invariant-loop-slot : goal.invariant-loop-slot
invariant-loop-slot l = record {
  long : length l.slot-items ≡ l.count;
  few : l.count ≤ 32;
  each : Few (take l.slot-index l.slot-items);
  read : (ts : List Ty) → length ts ≡ l.types → ((ss : List Signature) × AllSign ts (take l.slot-index l.slot-items) ss × Many (signature_each ts) l.count l.slot-index ss l.cursor l.initial.cursor);
}
