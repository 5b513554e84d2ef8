-- The shelves of a programmer and of its ledger, side by side.
use Rattle.std.proofs.Common.{◌≡◌, ℕ, zero, suc, ◌+◌, ◌<◌, ◌≤◌, List, [], ◌∷◌, ◌++◌, length, get_or, set, refl, ap, subst, ap₂, arith, length-append, Option, Some, None, is_some}
use Rattle.std.specs.List.{position_or_len}
use Rattle.lfpl.specs.Syntax.{Ty, width}
use Rattle.lfpl.specs.Typing.{type_at}
use Rattle.lfpl.specs.Values.{Val}
use Rattle.pool.specs.Pools.{Meaning, held}
use Rattle.store.specs.Layout.{occ}
use Rattle.store.proofs.Moves.{occ_append, moved, same_window}
use Rattle.store.proofs.Uniques.{holds_charge}
use Rattle.programmer.specs.Ledger.{Content, nothing, value, cost, costs, lowest}
use Rattle.programmer.specs.Agreement.{Stands, Stand, cells_on, cells_on_all}
use Rattle.programmer.specs.declared.shelf.Stored.{Stored}

module _ (m : Meaning) (ts : List Ty) where
  -- one shelf among them
  pub stand_at : (xs : List Content) (ss : List (Option Stored)) → Stand m ts xs ss → (i : ℕ) → Stands m ts (get_or xs i nothing) (get_or ss i None)
  stand_at [] [] h i = tt
  stand_at [] (s ∷ ss) h i = absurd h
  stand_at (x ∷ xs) [] h i = absurd h
  stand_at (x ∷ xs) (s ∷ ss) h zero = h.0
  stand_at (x ∷ xs) (s ∷ ss) h (suc i) = stand_at xs ss h.1 i

  -- one of them changed
  pub stand_set : (xs : List Content) (ss : List (Option Stored)) (y : Content) (t : Option Stored) → Stand m ts xs ss → Stands m ts y t → (i : ℕ) → Stand m ts (set xs i y) (set ss i t)
  stand_set [] [] y t h k i = tt
  stand_set [] (s ∷ ss) y t h k i = absurd h
  stand_set (x ∷ xs) [] y t h k i = absurd h
  stand_set (x ∷ xs) (s ∷ ss) y t h k zero = (k, h.1)
  stand_set (x ∷ xs) (s ∷ ss) y t h k (suc i) = (h.0, stand_set xs ss y t h.1 k i)

  -- as many on both sides
  pub stand_length : (xs : List Content) (ss : List (Option Stored)) → Stand m ts xs ss → length xs ≡ length ss
  stand_length [] [] h = refl
  stand_length [] (s ∷ ss) h = absurd h
  stand_length (x ∷ xs) [] h = absurd h
  stand_length (x ∷ xs) (s ∷ ss) h = ap suc (stand_length xs ss h.1)

  -- how often a cell is held, where one shelf is changed
  pub cells_set : (xs : List Content) (ss : List (Option Stored)) (y : Content) (t : Option Stored) (c : ℕ) → Stand m ts xs ss → (i : ℕ) → i < length xs
      → occ c (cells_on_all m ts (set xs i y) (set ss i t)) + occ c (cells_on m ts (get_or xs i nothing) (get_or ss i None)) ≡ occ c (cells_on_all m ts xs ss) + occ c (cells_on m ts y t)
  cells_set [] ss y t c h i l = absurd (omega arith)
  cells_set (x ∷ xs) [] y t c h i l = absurd h
  cells_set (x ∷ xs) (s ∷ ss) y t c h zero l =
      omega (arith, occ_append c (cells_on m ts y t) (cells_on_all m ts xs ss), occ_append c (cells_on m ts x s) (cells_on_all m ts xs ss))
  cells_set (x ∷ xs) (s ∷ ss) y t c h (suc i) l =
      omega (arith, occ_append c (cells_on m ts x s) (cells_on_all m ts (set xs i y) (set ss i t)), occ_append c (cells_on m ts x s) (cells_on_all m ts xs ss), cells_set xs ss y t c h.1 i (omega arith))

  -- a shelf holds as many cells as it is charged for
  on_charge : (x : Content) (s : Option Stored) → Stands m ts x s → length (cells_on m ts x s) ≡ cost x
  on_charge nothing s h = refl
  on_charge (value t v) None h = absurd h
  on_charge (value t v) (Some s) h = holds_charge m (type_at ts t) v s.words 0

  pub all_charge : (xs : List Content) (ss : List (Option Stored)) → Stand m ts xs ss → length (cells_on_all m ts xs ss) ≡ costs xs
  all_charge [] ss h = refl
  all_charge (x ∷ xs) [] h = absurd h
  all_charge (x ∷ xs) (s ∷ ss) h =
      omega (arith, length-append (cells_on m ts x s) (cells_on_all m ts xs ss), on_charge x s h.0, all_charge xs ss h.1)

  -- what the code found on a shelf tells what the ledger has there
  pub found_nothing : (x : Content) (s : Option Stored) → Stands m ts x s → s ≡ None → x ≡ nothing
  found_nothing nothing s h q = refl
  found_nothing (value t v) None h q = absurd h
  found_nothing (value t v) (Some s) h q = let z : ◌≡◌ {A = ℕ} 0 1 = cc in absurd (omega arith)

  pub found_value : (x : Content) (s : Option Stored) (w : Stored) → Stands m ts x s → s ≡ Some w → (t : ℕ) × (v : Val) × (x ≡ value t v) × Stands m ts (value t v) (Some w)
  found_value nothing None w h q = let z : ◌≡◌ {A = ℕ} 0 1 = cc in absurd (omega arith)
  found_value nothing (Some s) w h q = absurd h
  found_value (value t v) None w h q = absurd h
  found_value (value t v) (Some s) w h q = (t, v, refl, subst (λ (y : Option Stored). Stands m ts (value t v) y) q h)

  -- the lowest filled shelf is the ledger's
  pub lowest_is : (xs : List Content) (ss : List (Option Stored)) → Stand m ts xs ss → position_or_len is_some ss ≡ lowest xs
  lowest_is [] [] h = refl
  lowest_is [] (s ∷ ss) h = absurd h
  lowest_is (x ∷ xs) [] h = absurd h
  lowest_is (nothing ∷ xs) (None ∷ ss) h = omega (arith, lowest_is xs ss h.1)
  lowest_is (nothing ∷ xs) (Some s ∷ ss) h = absurd h.0
  lowest_is (value t v ∷ xs) (None ∷ ss) h = absurd h.0
  lowest_is (value t v ∷ xs) (Some s ∷ ss) h = refl

-- the sum of the charges, where one is changed
pub costs_set : (xs : List Content) (y : Content) (i : ℕ) → i < length xs → costs (set xs i y) + cost (get_or xs i nothing) ≡ costs xs + cost y
costs_set [] y i l = absurd (omega arith)
costs_set (x ∷ xs) y zero l = omega arith
costs_set (x ∷ xs) y (suc i) l = omega (arith, costs_set xs y i (omega arith))

-- what stands goes on standing where its cells stay as they are
stands_moved : (m m' : Meaning) (ts : List Ty) (x : Content) (s : Option Stored) → Stands m ts x s → ((c : ℕ) → 0 < occ c (cells_on m ts x s) → held m' c ≡ held m c)
    → Stands m' ts x s × (cells_on m' ts x s ≡ cells_on m ts x s)
stands_moved m m' ts nothing None h k = (tt, refl)
stands_moved m m' ts nothing (Some s) h k = absurd h
stands_moved m m' ts (value t v) None h k = absurd h
stands_moved m m' ts (value t v) (Some s) h k =
    let r = moved m m' (type_at ts t) v s.words s.words 0 0 h.2 (same_window s.words s.words 0 (width (type_at ts t)) refl) k in
    ((h.0, h.1, r.0), r.1)

pub stand_moved : (m m' : Meaning) (ts : List Ty) (xs : List Content) (ss : List (Option Stored)) → Stand m ts xs ss → ((c : ℕ) → 0 < occ c (cells_on_all m ts xs ss) → held m' c ≡ held m c)
    → Stand m' ts xs ss × (cells_on_all m' ts xs ss ≡ cells_on_all m ts xs ss)
stand_moved m m' ts [] [] h k = (tt, refl)
stand_moved m m' ts [] (s ∷ ss) h k = absurd h
stand_moved m m' ts (x ∷ xs) [] h k = absurd h
stand_moved m m' ts (x ∷ xs) (s ∷ ss) h k =
    let a = stands_moved m m' ts x s h.0 (λ c p. k c (omega (arith, occ_append c (cells_on m ts x s) (cells_on_all m ts xs ss)))) in
    let b = stand_moved m m' ts xs ss h.1 (λ c p. k c (omega (arith, occ_append c (cells_on m ts x s) (cells_on_all m ts xs ss)))) in
    ((a.0, b.0), ap₂ ◌++◌ a.1 b.1)

-- where no shelf is filled, other types do as well, and no cell is held
pub stand_bare : (m : Meaning) (ts us : List Ty) (xs : List Content) (ss : List (Option Stored)) → Stand m ts xs ss → length xs ≤ lowest xs
    → Stand m us xs ss × (cells_on_all m us xs ss ≡ cells_on_all m ts xs ss)
stand_bare m ts us [] [] h l = (tt, refl)
stand_bare m ts us [] (s ∷ ss) h l = absurd h
stand_bare m ts us (x ∷ xs) [] h l = absurd h
stand_bare m ts us (nothing ∷ xs) (Some s ∷ ss) h l = absurd h.0
stand_bare m ts us (nothing ∷ xs) (None ∷ ss) h l = let r = stand_bare m ts us xs ss h.1 (omega arith) in ((tt, r.0), r.1)
stand_bare m ts us (value t v ∷ xs) (s ∷ ss) h l = absurd (omega arith)
