-- What putting a value comes to.
use Rattle.std.proofs.Common.{◌≡◌, ℕ, ◌≤◌, List, Ok, Err, Result, arith}
use Rattle.codec.specs.Reading.{Scan, done, refused}
use Rattle.codec.specs.declared.fault.Fault.{Fault}
use Rattle.codec.specs.declared.fault.Part.TheVariants.{Value}
use Rattle.lfpl.specs.Syntax.{Ty}
use Rattle.lfpl.specs.Values.{Val}
use Rattle.pool.specs.Pools.{Meaning}
use Rattle.store.specs.Building.{Builds, Puts}
use Rattle.store.specs.Decoding.{decode}
use Rattle.store.specs.Scanning.{checked}
use Rattle.store.proofs.Decodes.{Decoded, whole_decoded}
use Rattle.store.proofs.Readings.{When}
use Rattle.store.proofs.Tops.{never}

pub put_done : (bs : List ℕ) (A : Ty) (s n r : ℕ) (m m' : Meaning) (ws ws' : List ℕ) → s ≤ m.free → Ok n ≡ checked s (decode bs A s) → Builds bs A 0 r m ws 0 m' ws'
    → Puts (decode bs A s) A m (Ok ws') m'
put_done bs A s n r m m' ws ws' l e b = go (decode bs A s) (whole_decoded bs A s) e
  where
    go : (x : Scan (Val × ℕ)) → When (Decoded bs A s 0) x → Ok n ≡ checked s x → Puts x A m (Ok ws') m'
    go (done r q) h e = let y = b r.0 q h.0 (omega (arith, h.1, l)) in (y.1.shows, y.1.holds)
    go (refused why q) h e = never (cc)

pub put_refused : (A : Ty) (s : ℕ) (f : Fault) (m m' : Meaning) (x : Scan (Val × ℕ)) → ◌≡◌ {A = Result ℕ Fault} (Err f) (checked s x) → m' ≡ m → Puts x A m (Err f) m'
put_refused A s f m m' (done r q) e p = never (cc)
put_refused A s f m m' (refused why q) e p = let k : f ≡ record { refusal = why; place = q; part = Value } = cc in (k, p)
