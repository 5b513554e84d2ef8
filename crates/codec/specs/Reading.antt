-- Readings of bytes: what is read and the place after it, or a refusal with its place.
use Rattle.std.specs.Prelude.{◌≡◌, ℕ, zero, suc, ◌+◌, Bool, cond, ◌&&◌, List, [], ◌∷◌, ◌++◌, drop, Ok, Err, Result, ◌==◌, nat_le, nat_lt}
use Rattle.codec.specs.Number.{Form, Numeral, Right, got, ended, overlong, number}
use Rattle.codec.specs.declared.cursor.Cursor.{Cursor}
use Rattle.codec.specs.declared.fault.Fault.{Fault}
use Rattle.codec.specs.declared.fault.Part.{Part}
use Rattle.codec.specs.declared.fault.Refusal.{Refusal}
use Rattle.codec.specs.declared.fault.Refusal.TheVariants.{Ended, Overlong, OutOfRange}

-- what a reading comes to: what was read and the place after it, or a refusal and the place that it names
pub data Scan (X : Type 0) : Type 0 where
  done : X → ℕ → Scan X
  refused : Refusal → ℕ → Scan X

-- one reading, and then another that depends on what was read and begins where the first ends
abbrev pub then : {X Y : Type 0} → Scan X → (X → ℕ → Scan Y) → Scan Y
then (done x p) k = k x p
then (refused why q) k = refused why q

-- a number that begins at the place p; its refusals name that place
abbrev pub begun : Numeral → ℕ → Scan ℕ
begun (got v n) p = done v (p + n)
begun ended p = refused Ended p
begun overlong p = refused Overlong p

-- the number at the place p of the bytes
unfoldable pub number_at : List ℕ → ℕ → Scan ℕ
number_at bs p = begun (number (drop p bs)) p

-- a number from lo up to below hi
unfoldable pub within_at : ℕ → ℕ → List ℕ → ℕ → Scan ℕ
within_at lo hi bs p = then (number_at bs p) (λ v p'. cond (nat_le lo v && nat_lt v hi) (done v p') (refused OutOfRange p))

-- a mark, which is 0 or 1: whether it is 1
unfoldable pub mark_at : List ℕ → ℕ → Scan Bool
mark_at bs p = then (within_at 0 2 bs p) (λ v p'. done (v == 1) p')

-- n more readings after those that gave xs, each by what stands before it
unfoldable pub many_at : {X : Type 0} → (List X → ℕ → Scan X) → ℕ → List X → ℕ → Scan (List X)
many_at f zero xs p = done xs p
many_at f (suc n) xs p = then (f xs p) (λ x p'. many_at f n (xs ++ x ∷ []) p')

-- what a call answers for a reading, and where the cursor stands then; after a refusal it may stand anywhere
abbrev pub Answered : {X : Type 0} → Scan X → Part → Result X Fault → ℕ → Type 0
Answered (done x p) part r p' = (r ≡ Ok x) × (p' ≡ p)
Answered (refused why q) part r p' = r ≡ Err (record { refusal = why; place = q; part = part })

-- a call that reads at the cursor c what f says, answers r and leaves the cursor as c'
pub record Takes {X : Type 0} (f : List ℕ → ℕ → Scan X) (c : Cursor) (r : Result X Fault) (c' : Cursor) : Type 0 where
  pub bytes : c'.bytes ≡ c.bytes
  pub part : c'.part ≡ c.part
  pub answer : Answered (f c.bytes.now c.at) c.part r c'.at

-- a refused call leaves the cursor as it was
abbrev pub Stays : {X : Type 0} → Cursor → Result X Fault → Cursor → Type 0
Stays c (Ok x) c' = Unit {0}
Stays c (Err f) c' = c' ≡ c

-- an answer, with what was read seen as something else
abbrev pub over : {X Y : Type 0} → (X → Y) → Result X Fault → Result Y Fault
over f (Ok x) = Ok (f x)
over f (Err e) = Err e

-- the reading of a number as an answer that leaves the place of a refusal to the caller
abbrev pub found : Scan ℕ → Result (ℕ × ℕ) Refusal
found (done v p) = Ok (v, p)
found (refused why q) = Err why

-- What is answered for the number that begins at `start`: the reading there, which finds what stands there, and finds every form of a number, however long.
pub record Finds (bs : List ℕ) (start : ℕ) (r : Result (ℕ × ℕ) Refusal) : Type 0 where
  pub answer : r ≡ found (number_at bs start)
  pub right : Right 4 (drop start bs) (number (drop start bs))
  pub forms : (v used : ℕ) → Form 4 (drop start bs) v used → r ≡ Ok (v, start + used)
