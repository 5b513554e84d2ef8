use Rattle.std.proofs.Common.{◌≡◌, ℕ, ◌<◌, length, get_or}
use Rattle.store.specs.Layout.{words_of}
use Rattle.store.proofs.walk.load.Given as goal

abbrev pub invariant-loop-k : goal.invariant-loop-k
invariant-loop-k g l = (length l.word-items ≡ 16) × ((i : ℕ) → i < l.k → get_or l.word-items i 0 ≡ get_or (words_of (g.P.Pool.means l.pool) l.cell) i 0)
