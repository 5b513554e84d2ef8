-- An expression whose parts are done does in place what it means: the words and cells that show its variables and its parts' values show, after its operation, the
-- value that it gives or the variables of the arm or body that it chooses.
use Rattle.std.specs.Prelude.{◌≡◌, ℕ, zero, suc, ◌+◌, ◌<◌, ◌≤◌, true, List, [], ◌++◌, length, slice_index_or}
use Rattle.std.specs.List.{AllByRecursion}
use Rattle.lfpl.specs.Syntax.{Ty, Head, Exprs, expr, end, names, Fun}
use Rattle.lfpl.specs.Typing.{fun_at, rule, fits}
use Rattle.lfpl.specs.Values.{Typed}
use Rattle.meaning.specs.Act.{Act, give, choose, enter, stuck, act, types}
use Rattle.meaning.specs.Machine.{body_number}
use Rattle.meaning.specs.Mean.{widths}
use Rattle.pool.specs.Pools.{Meaning, held, limit}
use Rattle.store.specs.Layout.{Shows, footprint, occ, used}
use Rattle.code.specs.Standing.{operation, Narrow}
use Rattle.code.specs.declared.Next.{Next}
use Rattle.code.specs.declared.Next.TheVariants.{Value, First, Second, Body}
use Rattle.acts.specs.Effects.{Effect, Room}
use Rattle.acts.specs.Places.{Lies, cells_of, places, from, all, Above}

-- the arm at a place
abbrev pub arm_of : ℕ → Next
arm_of zero = First
arm_of (suc i) = Second

module _ (fs : List Fun) (m : Meaning) (ws : List ℕ) (base at dest : ℕ) (h : Head) (qs : Exprs) (env vs : List Typed) (ps : List ℕ) where
  -- the cells that the variables still named hold, and those that the parts' values hold
  abbrev pub variable_cells : List ℕ
  variable_cells = cells_of m ws (λ i. names i (expr h end qs)) env (from base ps)

  abbrev pub value_cells : List ℕ
  value_cells = cells_of m ws all vs (places at vs)

  -- An expression of the head h with the arms qs, whose parts are done: it fits its typing rule and has the type W; the variables env that it still names lie at the
  -- places ps above the base, its parts' values vs one after another from `at` on, and no cell is held twice.
  pub record Settles (B W : Ty) : Type 0 where
    pub fit : fits (rule fs (types env) h (types vs)) (types vs) ≡ true
    pub whole : (rule fs (types env) h (types vs)).whole B ≡ W
    pub parts : AllByRecursion Narrow (types vs)
    pub narrow : Narrow W
    pub long : length ps ≡ length env
    pub variables : Lies m ws at (λ i. names i (expr h end qs)) env (from base ps)
    pub values : Lies m ws (at + widths vs) all vs (places at vs)
    pub once : (c : ℕ) → occ c (variable_cells ++ value_cells) ≤ 1
    pub high : at + 96 ≤ length ws
    pub low : length ws ≤ 65536
    pub down : dest ≤ at

  module _ (W : Ty) (r : Next) (m' : Meaning) (ys : List ℕ) where
    -- the value is shown where it is waited for; it holds only cells that were held here, and only such cells have other words than before
    pub record Gave (v : Typed) : Type 0 where
      pub next : r ≡ Value
      pub type : v.type ≡ W
      pub shows : Shows m' v.type v.value ys dest
      pub above : Above ws ys dest
      pub cells : (c : ℕ) → occ c (footprint m' v.type v.value ys dest) ≤ occ c (variable_cells ++ value_cells)
      pub still : (c : ℕ) → occ c (variable_cells ++ value_cells) ≡ 0 → held m' c ≡ held m c
      pub taken : (c : ℕ) → used m' c ≡ used m c
      pub count : m'.free ≡ m.free
      pub bound : limit m' ≡ limit m

    -- the arm's variables lie where the parts' values lay, and hold no more cells
    pub record Chose (i : ℕ) (xs : List Typed) : Type 0 where
      pub next : r ≡ arm_of i
      pub pool : m' ≡ m
      pub above : Above ws ys at
      pub lie : Lies m ys (at + widths xs) all xs (places at xs)
      pub cells : (c : ℕ) → occ c (cells_of m ys all xs (places at xs)) ≤ occ c value_cells
      pub arm : i < length (rule fs (types env) h (types vs)).arms
      pub binds : types xs ≡ slice_index_or (rule fs (types env) h (types vs)).arms i []
      pub two : i ≤ 1

    -- the parts' values are the body's variables, where they lie
    pub record Entered (f : ℕ) (xs : List Typed) : Type 0 where
      pub next : r ≡ Body (body_number fs f)
      pub pool : m' ≡ m
      pub words : ys ≡ ws
      pub arguments : xs ≡ vs
      pub known : f < length fs
      pub params : types vs ≡ (fun_at fs f).params
      pub result : (fun_at fs f).result ≡ W

    -- what the head does is done
    abbrev pub Acts : Act → Type 0
    Acts (give v) = Gave v
    Acts (choose i xs) = Chose i xs
    Acts (enter f xs) = Entered f xs
    Acts stuck = ⊥

-- The law: where an expression settles, there is room for its operation, and what the operation does is what the head means.
abbrev pub InPlaceLaw : Type 0
InPlaceLaw =
    (fs : List Fun) (m : Meaning) (ws : List ℕ) (base at dest : ℕ) (h : Head) (qs : Exprs) (env vs : List Typed) (ps : List ℕ) (B W : Ty)
    → Settles fs m ws base at dest h qs env vs ps B W
    → Room m ws base at dest (operation fs (types env) ps h (types vs))
    × ((r : Next) (m' : Meaning) (ys : List ℕ) → Effect m ws base at dest (operation fs (types env) ps h (types vs)) r m' ys
    → Acts fs m ws base at dest h qs env vs ps W r m' ys (act fs h env vs))
