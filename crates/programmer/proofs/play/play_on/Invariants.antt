use Rattle.std.proofs.Common.{◌≡◌, length, take}
use Rattle.pool.specs.Pools.{Meaning}
use Rattle.programmer.specs.Ledger.{opened}
use Rattle.programmer.specs.Agreement.{Agrees, view}
use Rattle.programmer.proofs.Courses.{SoFar}
use Rattle.programmer.proofs.play.play_on.Given as goal

-- the calls so far were played, whatever the pool was at the making
abbrev pub invariant-loop-i : goal.invariant-loop-i
invariant-loop-i g l =
    (length l.area ≡ l.making.room)
    × ((made : Meaning) → made.free ≡ l.making.cells → Agrees made (opened l.making.cells l.making.box_number) (g.P.Pool.means l.initial.programmer.pool) (view l.initial.programmer)
    → SoFar g.P.Pool.means made (opened l.making.cells l.making.box_number) l.making.room (take l.i l.calls) l.programmer)
