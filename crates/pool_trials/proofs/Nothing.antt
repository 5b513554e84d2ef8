-- A pool without cells holds nothing at any number.
use Rattle.std.proofs.Common.{◌≡◌, ℕ, zero, suc, min, get_or, replicate, None, refl}
use Rattle.pool.specs.Pools.{Cell, held}
use Rattle.pool_trials.specs.Hollow.{hollow}

none_at : (k n : ℕ) → get_or (replicate {A = Cell} k None) n None ≡ None
none_at zero n = refl
none_at (suc k) zero = refl
none_at (suc k) (suc n) = none_at k n

pub nothing : (b n : ℕ) → held (hollow b) n ≡ None
nothing b zero = refl
nothing b (suc n) = none_at (min b 65535) n
