-- What is known of an expression that settles, and what is to be shown of it.
use Rattle.std.proofs.Common.{◌≡◌, ℕ, ◌+◌, ◌≤◌, true, List, [], ◌∷◌, length, set, sym, refl, ap, ◌∙◌, subst, arith, length-set, get_or-set_other}
use Rattle.std.proofs.lemmas.Bool.{and_parts}
use Rattle.lfpl.specs.Syntax.{Ty, Head, Exprs, Fun}
use Rattle.lfpl.specs.Typing.{Rule, rule, fits, same_tys}
use Rattle.lfpl.specs.Values.{Typed}
use Rattle.lfpl.proofs.SameTypes.{sames_eq}
use Rattle.meaning.specs.Act.{does, types}
use Rattle.pool.specs.Pools.{Meaning}
use Rattle.store.specs.Layout.{Shows, footprint, occ}
use Rattle.store.proofs.Moves.{occ_append}
use Rattle.code.specs.Standing.{operation}
use Rattle.code.specs.declared.Next.{Next}
use Rattle.code.specs.declared.Next.TheVariants.{Value}
use Rattle.acts.specs.Effects.{Effect, Wants, Room}
use Rattle.acts.specs.Places.{Lying, cells_at, Above}
use Rattle.acts.specs.Settling.{Settles, Gave, Acts, variable_cells, value_cells}

-- ---- parts, by their count

pub by0 : (P : List Typed → Type 0) (vs : List Typed) → length (types vs) ≡ 0 → P [] → P vs
by0 P [] e k = k
by0 P (a ∷ vs) e k = absurd (omega arith)

pub by1 : (P : List Typed → Type 0) (vs : List Typed) → length (types vs) ≡ 1 → ((a : Typed) → P (a ∷ [])) → P vs
by1 P [] e k = absurd (omega arith)
by1 P (a ∷ vs) e k = by0 (λ l. P (a ∷ l)) vs (omega arith) (k a)

pub by2 : (P : List Typed → Type 0) (vs : List Typed) → length (types vs) ≡ 2 → ((a b : Typed) → P (a ∷ b ∷ [])) → P vs
by2 P [] e k = absurd (omega arith)
by2 P (a ∷ vs) e k = by1 (λ l. P (a ∷ l)) vs (omega arith) (k a)

pub by3 : (P : List Typed → Type 0) (vs : List Typed) → length (types vs) ≡ 3 → ((a b c : Typed) → P (a ∷ b ∷ c ∷ [])) → P vs
by3 P [] e k = absurd (omega arith)
by3 P (a ∷ vs) e k = by2 (λ l. P (a ∷ l)) vs (omega arith) (k a)

pub by5 : (P : List Typed → Type 0) (vs : List Typed) → length (types vs) ≡ 5 → ((a b c d e : Typed) → P (a ∷ b ∷ c ∷ d ∷ e ∷ [])) → P vs
by5 P [] e k = absurd (omega arith)
by5 P (a ∷ []) e k = absurd (omega arith)
by5 P (a ∷ b ∷ vs) e k = by3 (λ l. P (a ∷ b ∷ l)) vs (omega arith) (k a b)

pub fitting : (R : Rule) (As : List Ty) → fits R As ≡ true → (R.test ≡ true) × (As ≡ R.wants)
fitting R As f = let q = and_parts R.test (same_tys As R.wants) f in (q.0, sames_eq As R.wants q.1)

-- a value that lies at a place, by its type and where that place is
pub part : (m : Meaning) (ws : List ℕ) (x : Typed) (T : Ty) (top p q : ℕ) → x.type ≡ T → p ≡ q → Lying m ws top x p
    → Shows m T x.value ws q × (cells_at m ws x p ≡ footprint m T x.value ws q)
part m ws x T top p q e f l = (
  subst (λ T. Shows m T x.value ws q) e (subst (λ p. Shows m x.type x.value ws p) f l.shows),
  ap (λ p. cells_at m ws x p) f ∙ ap (λ T. footprint m T x.value ws q) e,
)

-- one word written
pub above_set : (ws : List ℕ) (dest z : ℕ) → Above ws (set ws dest z) dest
above_set ws dest z = record { below = λ i h. get_or-set_other ws dest i z 0 (λ e. absurd (omega arith)); long = length-set ws dest z }

module _ (fs : List Fun) (m : Meaning) (ws : List ℕ) (base at dest : ℕ) (qs : Exprs) (env : List Typed) (ps : List ℕ) (B W : Ty) where
  -- there is room for the head's operation, and it does what the head means
  abbrev pub Right : Head → List Typed → Type 0
  Right h vs =
      Settles fs m ws base at dest h qs env vs ps B W
      → Room m ws base at dest (operation fs (types env) ps h (types vs))
      × ((r : Next) (m' : Meaning) (ys : List ℕ) → Effect m ws base at dest (operation fs (types env) ps h (types vs)) r m' ys
      → Acts fs m ws base at dest h qs env vs ps W r m' ys (does h env vs))

  pub known : (h : Head) (vs : List Typed) → Settles fs m ws base at dest h qs env vs ps B W
      → ((rule fs (types env) h (types vs)).test ≡ true) × (types vs ≡ (rule fs (types env) h (types vs)).wants)
  known h vs s = fitting (rule fs (types env) h (types vs)) (types vs) s.fit

  pub roomed : (h : Head) (vs : List Typed) → Settles fs m ws base at dest h qs env vs ps B W → Wants m ws base at dest (operation fs (types env) ps h (types vs))
      → Room m ws base at dest (operation fs (types env) ps h (types vs))
  roomed h vs s w = record { high = s.high; low = s.low; down = s.down; wants = w }

  -- a value is given, and no cell is altered
  pub gives : (h : Head) (vs : List Typed) (r : Next) (m' : Meaning) (ys : List ℕ) (v : Typed) → r ≡ Value → m' ≡ m → v.type ≡ W → Shows m v.type v.value ys dest → Above ws ys dest
      → ((c : ℕ) → occ c (footprint m v.type v.value ys dest) ≤ occ c (variable_cells fs m ws base at dest h qs env vs ps) + occ c (value_cells fs m ws base at dest h qs env vs ps))
      → Gave fs m ws base at dest h qs env vs ps W r m' ys v
  gives h vs r m' ys v n e t s a k =
      let x = variable_cells fs m ws base at dest h qs env vs ps in
      let y = value_cells fs m ws base at dest h qs env vs ps in
      subst (λ m'. Gave fs m ws base at dest h qs env vs ps W r m' ys v) (sym e) (record {
        next = n;
        type = t;
        shows = s;
        above = a;
        cells = λ c. omega (arith, k c, occ_append c x y);
        still = λ c p. refl;
        taken = λ c. refl;
        count = refl;
        bound = refl;
      })
