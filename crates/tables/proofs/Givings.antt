-- How readings into the flat table follow one another.
use Rattle.std.proofs.Common.{◌≡◌, ℕ, List, Ok, Err, Result, refl}
use Rattle.codec.specs.Reading.{Scan, done, refused, then, Takes}
use Rattle.codec.specs.declared.cursor.Cursor.{Cursor}
use Rattle.codec.specs.declared.fault.Fault.{Fault}
use Rattle.codec.proofs.Takings.{takes_on, takes_break, takes_as}
use Rattle.lfpl.specs.Reading.{Reader, ◌>>=◌}
use Rattle.tables.specs.Inner.{Gives}

-- ---- readings as such

pub then_eq : {X Y : Type 0} (r : Scan X) (g h : X → ℕ → Scan Y) → ((x : X) (p : ℕ) → g x p ≡ h x p) → then r g ≡ then r h
then_eq (done x p) g h k = k x p
then_eq (refused why p) g h k = refl

pub then_assoc : {X Y Z : Type 0} (r : Scan X) (g : X → ℕ → Scan Y) (h : Y → ℕ → Scan Z) → then (then r g) h ≡ then r (λ x p. then (g x p) h)
then_assoc (done x p) g h = refl
then_assoc (refused why q) g h = refl

pub then_pure : {X : Type 0} (r : Scan X) → then r (λ x p. done x p) ≡ r
then_pure (done x p) = refl
then_pure (refused why q) = refl

-- ---- calls that read

module _ {X Y : Type 0} (f : Reader X) (k : X → Reader Y) {c c' : Cursor} where
  pub break : (e : Fault) → Takes f c (Err e) c' → Takes (f >>= k) c (Err e) c'
  break e t = takes_break f (f >>= k) k c refl c' e t

  pub on : (x : X) → Takes f c (Ok x) c' → (c'' : Cursor) (r : Result Y Fault) → Takes (k x) c' r c'' → Takes (f >>= k) c r c''
  on x t c'' r u = takes_on f (f >>= k) k c refl c' x t c'' r u

-- the same reading under another name
pub gives_as : {X Y : Type 0} (f g : Reader Y) (R : X → Y → Type 0) (c c' : Cursor) (r : Result X Fault) → ((bs : List ℕ) (p : ℕ) → g bs p ≡ f bs p) → Gives f R c r c' → Gives g R c r c'
gives_as f g R c c' (Ok x) e t = (t.0, takes_as f g (e c.bytes.now c.at) t.1, t.2)
gives_as f g R c c' (Err x) e t = takes_as f g (e c.bytes.now c.at) t
