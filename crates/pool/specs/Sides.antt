-- In which of two joined pools a cell is.
use Rattle.std.specs.Prelude.{◌≡◌, ℕ, Bool, Option, Some, None}
use Rattle.pool.specs.Pools.{Meaning, held, Gives, word_at, Writes, paired}
use Rattle.pool.specs.declared.pair.Side.{Side}
use Rattle.pool.specs.declared.pair.Side.TheVariants.{Left, Right}

-- the cell k of a pool m is the cell n of a whole W m: what a call does to it in m, it does to it in the whole
pub record Inside (W : Meaning → Meaning) (m : Meaning) (k n : ℕ) : Type 0 where
  pub gives : (b : Bool) (m' : Meaning) → Gives m k b m' → Gives (W m) n b (W m')
  pub reads : (w : ℕ) → word_at m k w ≡ word_at (W m) n w
  pub writes : (w v : ℕ) (b : Bool) (m' : Meaning) → Writes m k w v b m' → Writes (W m) n w v b (W m')

-- where the cell n of the pair is
abbrev pub Sided : Meaning → Meaning → ℕ → Option Side → Type 0
Sided l r n (Some (Left k)) = Inside (λ x. paired x r) l k n
Sided l r n (Some (Right k)) = Inside (λ x. paired l x) r k n
Sided l r n None = held (paired l r) n ≡ None
