-- How a value's bytes are checked with a pile of types still to come.
use Rattle.std.specs.Prelude.{ℕ, ◌+◌, ◌-◌, ◌*◌, ◌<◌, Bool, true, false, List, [], ◌∷◌, length, Ok, Err, Result}
use Rattle.codec.specs.Reading.{Scan, done, refused, then as followed, number_at, Takes, over}
use Rattle.codec.specs.declared.cursor.Cursor.{Cursor}
use Rattle.codec.specs.declared.fault.Fault.{Fault}
use Rattle.codec.specs.declared.fault.Part.TheVariants.{Value}
use Rattle.lfpl.specs.Syntax.{Ty}
use Rattle.lfpl.specs.Values.{Val}
use Rattle.tables.specs.Listed.{Types, entry_of}
use Rattle.tables.specs.declared.listing.Entry.{Entry}
use Rattle.tables.specs.declared.listing.Form as F
use Rattle.tables.specs.declared.listing.Form.TheVariants as Form
use Rattle.store.specs.Decoding.{Decoder, ◌>>=◌, spend, marked, value_at}

-- the entries list types
abbrev pub Listed : List Entry → Type 0
Listed es = (ts : List Ty) × Types es ts

-- each is the number of an entry
abbrev pub Known : List Entry → List ℕ → Type 0
Known es [] = Unit {0}
Known es (t ∷ l) = (t < length es) × Known es l

-- the widths of numbered types, together
abbrev pub wide : List Entry → List ℕ → ℕ
wide es [] = 0
wide es (t ∷ l) = (entry_of es t).width + wide es l

-- The front of a value, by the form of its type: a number, a mark with its cells, or a diamond's cell; a pair has none. What is read is the mark, false where
-- there is none.
abbrev pub front_at : F.Form → Decoder Bool
front_at Form.Number s bs p = followed (number_at bs p) (λ c q. done (false, s) q)
front_at Form.Diamond s bs p = spend 1 p false s p
front_at (Form.List a) s bs p = marked 1 s bs p
front_at (Form.Tree a) s bs p = marked 2 s bs p
front_at (Form.Pair a b) s bs p = done (false, s) p
front_at (Form.Sum a b) s bs p = marked 0 s bs p

-- what a value has after its front and that mark: values of the types with these numbers, where its own type has the number t and that form
abbrev pub parts : F.Form → Bool → ℕ → List ℕ
parts Form.Number more t = []
parts Form.Diamond more t = []
parts (Form.List a) true t = a ∷ t ∷ []
parts (Form.List a) false t = []
parts (Form.Tree a) true t = a ∷ t ∷ t ∷ []
parts (Form.Tree a) false t = a ∷ []
parts (Form.Pair a b) more t = a ∷ b ∷ []
parts (Form.Sum a b) true t = b ∷ []
parts (Form.Sum a b) false t = a ∷ []

-- values of these types in turn
unfoldable pub values_at : List Ty → Decoder (Unit {0})
values_at [] s bs p = done (tt, s) p
values_at (A ∷ As) s bs p = (value_at A >>= λ _. values_at As) s bs p

-- a call that reads at the cursor c and counts cells as d says: it answers r, and leaves the cursor as c' and s' of the s cells
abbrev pub Counts : {X : Type 0} → Decoder X → Cursor → ℕ → Result X Fault → Cursor → ℕ → Type 0
Counts d c s r c' s' = Takes (d s) c (over (λ x. (x, s')) r) c'

-- what the check of a value's bytes answers: the cells that it takes, or a fault of the value
abbrev pub checked : ℕ → Scan (Val × ℕ) → Result ℕ Fault
checked s (done r p) = Ok (s - r.1)
checked s (refused why q) = Err (record { refusal = why; place = q; part = Value })

-- a measure of what is still to be read: it falls with each front that is read
abbrev pub work : List Entry → List ℕ → List ℕ → ℕ → ℕ
work es bs l p = 64 * (length bs - p) + (2 * wide es l - length l)
