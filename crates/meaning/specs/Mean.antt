-- The meaning of an expression, composed from the meanings of its parts, over a valuation of the function symbols; and the meaning of a program's functions.
use Rattle.std.specs.Prelude.{◌≡◌, ℕ, zero, suc, ◌+◌, cond, List, [], ◌∷◌, ◌++◌, nat_le, nat_lt}
use Rattle.std.proofs.Math.Option.{Option, none, some}
use Rattle.lfpl.specs.Syntax.{width, Expr, Exprs, expr, end, ◌then◌, Fun, Program}
use Rattle.lfpl.specs.Typing.{fun_at}
use Rattle.lfpl.specs.Values.{Typed}
use Rattle.meaning.specs.Act.{Act, give, choose, enter, stuck, act}

-- ---- where expressions begin

-- the sum of a measure over values
abbrev pub total : (Typed → ℕ) → List Typed → ℕ
total f [] = 0
total f (x ∷ xs) = f x + total f xs

-- how many words the values have together
abbrev pub widths : List Typed → ℕ
widths xs = total (λ x. width x.type) xs

-- where an expression begins: its height, and the words that it stands over
pub record Level : Type 0 where
  pub height : ℕ
  pub words : ℕ

-- One height above a level, and over some values besides: so begin a part (over those done before it) and a chosen arm (over its variables).
abbrev pub above : Level → List Typed → Level
above l xs = record { height = suc l.height; words = l.words + widths xs }

-- where a called body begins: one height above the call, and over its parameters besides
abbrev pub body_level : Level → List Typed → Level
body_level l xs = above l xs

-- where a started body begins: at height 0, over its parameters
abbrev pub ground : List Typed → Level
ground xs = record { height = 0; words = widths xs }

-- ---- limits and ends

-- why a run halts
pub data Why : Type 0 where
  height words : Why

-- a limit says where no expression may begin, and why
abbrev pub Limit : Type 0
Limit = Level → Option Why

-- Hofmann's meaning knows no limit
abbrev pub unlimited : Limit
unlimited l = none

-- The limits of a run: nothing begins at height 4,096, nor over more than 8,192 words. Where both are passed, height is named.
abbrev pub limited : Limit
limited l = cond (nat_le 4096 l.height) (some height) (cond (nat_lt 8192 l.words) (some words) none)

-- How an expression ends: it gives a value, halts at a limit, or goes wrong, which no judged program ever does.
pub data End (X : Type 0) : Type 0 where
  gives : X → End X
  halts : Why → End X
  wrong : End X

-- an end with the count of the steps to it, or none
abbrev pub Meaning : Type 0 → Type 0
Meaning X = Option (End X × ℕ)

-- a meaning after n more steps
abbrev pub later : {X : Type 0} → ℕ → Meaning X → Meaning X
later n none = none
later n (some (e, m)) = some (e, n + m)

-- what follows on a value; any other end stays
abbrev pub next : {X Y : Type 0} → Meaning X → (X → Meaning Y) → Meaning Y
next none f = none
next (some (gives x, n)) f = later n (f x)
next (some (halts y, n)) f = some (halts y, n)
next (some (wrong, n)) f = some (wrong, n)

-- one step, which begins an expression or halts
abbrev pub unless : {X : Type 0} → Option Why → (Unit {0} → Meaning X) → Meaning X
unless none f = later 1 (f tt)
unless (some y) f = some (halts y, 1)

-- ---- expressions

-- a valuation of the function symbols: what a function means on arguments, where its body begins at a level
abbrev pub Valuation : Type 0
Valuation = ℕ → List Typed → Level → Meaning Typed

-- what is left when the parts are worked out: the value, the chosen arm's meaning, or the entered function's
abbrev pub settled : Act → (ℕ → List Typed → Meaning Typed) → (ℕ → List Typed → Meaning Typed) → Meaning Typed
settled (give v) arm body = some (gives v, 0)
settled (choose i xs) arm body = arm i xs
settled (enter f xs) arm body = body f xs
settled stuck arm body = some (wrong, 0)

module _ (fs : List Fun) (L : Limit) (ρ : Valuation) where
  abbrev mutual
    -- an expression over its variables, at a level
    pub mean : Expr → List Typed → Level → Meaning Typed
    mean (expr h ps qs) env l =
        unless (L l) λ u.
        next (means ps env [] l) λ vs.
        settled (act fs h env vs)
        (λ i xs. mean_arm qs i (env ++ xs) (above l xs))
        (λ f xs. ρ f xs (body_level l xs))

    -- the parts of an expression at the level, left to right, after parts with the values vs
    pub means : Exprs → List Typed → List Typed → Level → Meaning (List Typed)
    means end env vs l = some (gives vs, 0)
    means (e then es) env vs l =
        next (mean e env (above l vs)) λ v.
        means es env (vs ++ (v ∷ [])) l

    -- the arm at a place
    pub mean_arm : Exprs → ℕ → List Typed → Level → Meaning Typed
    mean_arm end i env l = some (wrong, 0)
    mean_arm (q then qs) zero env l = mean q env l
    mean_arm (q then qs) (suc i) env l = mean_arm qs i env l

-- ---- programs

-- The valuations that approach the functions' meaning: the first knows nothing, and each knows its bodies over the one before.
abbrev pub approx : Program → Limit → ℕ → Valuation
approx p L zero f xs l = none
approx p L (suc k) f xs l = mean p.functions L (λ g ys m. approx p L k g ys m) (fun_at p.functions f).body xs l

-- The function f of p means the end x, at the n-th step, on the arguments xs: some approximation has it.
abbrev pub Means : Program → Limit → ℕ → List Typed → End Typed → ℕ → Type 0
Means p L f xs x n = (k : ℕ) × (approx p L k f xs (ground xs) ≡ some (x, n))
