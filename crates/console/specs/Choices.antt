-- What the pools have that a script chooses from.
use Rattle.std.specs.Prelude.{ℕ}
use Rattle.console.specs.declared.line.PoolChoice as P
use Rattle.console.specs.declared.line.PoolChoice.TheVariants as PoolChoice

-- how many words its block has; none where it has no block
abbrev pub block_words : P.PoolChoice → ℕ
block_words PoolChoice.Own = 0
block_words (PoolChoice.Block words) = words
block_words (PoolChoice.Pair words) = words
block_words (PoolChoice.Reserve most) = 0
block_words (PoolChoice.ReserveBlock most words) = words
