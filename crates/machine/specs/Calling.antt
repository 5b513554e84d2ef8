-- What the calls around a run do: arguments are loaded, the run begins, and its end leaves the result.
use Rattle.std.specs.Prelude.{◌≡◌, ℕ, ◌+◌, ◌<◌, ◌≤◌, cond, List, [], ◌∷◌, ◌++◌, length, nat_lt}
use Rattle.lfpl.specs.Syntax.{Ty, width, Program}
use Rattle.lfpl.specs.Typing.{type_at, fun_at}
use Rattle.lfpl.specs.Values.{Val, Typed, charge, ◌of◌}
use Rattle.meaning.specs.Act.{types}
use Rattle.meaning.specs.Machine.{done, start}
use Rattle.meaning.specs.Mean.{widths}
use Rattle.pool.specs.Pools.{Meaning}
use Rattle.store.specs.Layout.{Shows, footprint, occ}
use Rattle.tables.specs.Listed.{Types}
use Rattle.tables.specs.declared.listing.Entry.{Entry}
use Rattle.code.specs.Standing.{Encodes}
use Rattle.code.specs.declared.Code.{Code}
use Rattle.acts.specs.Places.{Window, Above}
use Rattle.machine.specs.Enacting.{own, Enacts}
use Rattle.machine.specs.Running.{Loading, Ended}
use Rattle.machine.specs.declared.Machine.{Machine}
use Rattle.machine.specs.declared.Mode.TheVariants.{Done}

-- sixteen words ws stand in ys from the place on, where there is room for them; those below it are as in xs
pub record Put (xs : List ℕ) (at : ℕ) (ws ys : List ℕ) : Type 0 where
  pub above : Above xs ys at
  pub stand : at + 16 ≤ length xs → Window ws 0 ys at 16

-- the cells xs but for those among ks
abbrev pub without : List ℕ → List ℕ → List ℕ
without ks [] = []
without ks (x ∷ xs) = cond (nat_lt 0 (occ x ks)) (without ks xs) (x ∷ without ks xs)

-- Whatever value of the type the words show: where it has room beside the arguments xs, it is an argument after them.
abbrev pub Loads : Meaning → List Entry → ℕ → List ℕ → Machine → Machine → Type 0
Loads m es t ws x x' =
    (ts : List Ty) (v : Val) (xs : List Typed) → Types es ts → Shows m (type_at ts t) v ws 0 → Loading m x xs → widths xs + width (type_at ts t) ≤ 96
    → length (own x) + charge v ≤ 512 → Loading m x' (xs ++ (v of type_at ts t ∷ []))

-- Where the arguments are those that the function wants, and no cell is in two of them, the machine enacts the first state of the run.
abbrev pub Begins : Code → ℕ → Machine → Machine → Type 0
Begins code f x x' =
    (p : Program) (m : Meaning) (xs : List Typed) → Encodes code p → f < length p.functions → types xs ≡ (fun_at p.functions f).params → Loading m x xs
    → ((c : ℕ) → occ c (own x) ≤ 1) → Enacts p (fun_at p.functions f).result code m x' (start p f xs)

-- Where the run is done, its result is in the words answered, and the machine's cells are those of the result.
abbrev pub Finishes : Meaning → List Entry → ℕ → Machine → List ℕ → Meaning → Machine → Type 0
Finishes m es t x ws m' x' =
    (p : Program) (code : Code) (v : Val) (ts : List Ty) → Types es ts → x.mode ≡ Done → Enacts p (type_at ts t) code m x (done (v of type_at ts t))
    → length (own x) ≤ 512 → Ended m (own x) (type_at ts t) v ws m' × (own x' ≡ footprint m' (type_at ts t) v ws 0)
