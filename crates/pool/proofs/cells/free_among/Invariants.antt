use Rattle.std.proofs.Common.{◌≡◌, ◌≤◌, take, count_by}
use Rattle.pool.specs.Words.{unmarked}
use Rattle.pool.proofs.cells.free_among.Given as goal

-- the free ones of the cells so far are counted
abbrev pub invariant-loop-cell : goal.invariant-loop-cell
invariant-loop-cell l = (l.free ≡ count_by unmarked (take l.cell-index l.cells)) × (l.free ≤ l.cell-index)
