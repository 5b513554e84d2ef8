use Rattle.std.proofs.Common.{◌≡◌, ℕ, ◌<◌}
use Rattle.pool.specs.Words.{leftover, mark_of}
use Rattle.pool.proofs.block.clear.Given as goal

-- the cells so far are free, and the words left over are as they were
abbrev pub invariant-loop-i : goal.invariant-loop-i
invariant-loop-i l = ((k : ℕ) → k < l.i → mark_of l.words k ≡ 0) × (leftover l.words ≡ leftover l.initial.words)
