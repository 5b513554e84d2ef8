-- What an expression does once its parts are worked out: it gives a value, chooses an arm, or enters a function.
use Rattle.std.specs.Prelude.{ℕ, zero, suc, Bool, false, cond, List, [], ◌∷◌, map, ℤ, pos, negsuc, ◌+ℤ◌, ◌-ℤ◌, ◌*ℤ◌, ◌==◌, int_le}
use Rattle.std.specs.Int.{int_wrap, w32}
use Rattle.lfpl.specs.Syntax.{Ty, int, diamond, first, second, Infix, plus, minus, times, equal, at_most, Head, var, call, const, apply, guard, mk_pair, case_pair, mk_left, mk_right, case_sum, mk_nil, mk_cons, case_list, mk_leaf, mk_node, case_tree, Fun}
use Rattle.lfpl.specs.Typing.{rule, fits}
use Rattle.lfpl.specs.Values.{Val, num, dia, nil, cons, leaf, node, pair, left, right, Typed, ◌of◌}

-- N wraps modulo 2 ^ 32: the number of 32 bits in two's complement that differs from z by a multiple of 2 ^ 32
abbrev pub wrap : ℤ → ℤ
wrap z = int_wrap w32 z

-- what a comparison answers: 1 or 0
abbrev pub flag : Bool → ℤ
flag b = cond b (pos 1) (pos 0)

-- whether two integers are equal
abbrev pub eq_z : ℤ → ℤ → Bool
eq_z (pos a) (pos b) = a == b
eq_z (pos a) (negsuc b) = false
eq_z (negsuc a) (pos b) = false
eq_z (negsuc a) (negsuc b) = a == b

-- the five infix operations on N; ≤ is signed
abbrev pub compute : Infix → ℤ → ℤ → ℤ
compute plus a b = wrap (a +ℤ b)
compute minus a b = wrap (a -ℤ b)
compute times a b = wrap (a *ℤ b)
compute equal a b = flag (eq_z a b)
compute at_most a b = flag (int_le a b)

-- What an expression does: it gives a value; or it chooses the arm of that place, which binds the values; or it enters the function of that number with arguments;
-- or it is stuck, which no judged program ever is.
pub data Act : Type 0 where
  give : Typed → Act
  choose : ℕ → List Typed → Act
  enter : ℕ → List Typed → Act
  stuck : Act

-- the arm that a guard chooses: the first, unless the number is 0
abbrev pub arm : ℤ → ℕ
arm (pos zero) = 1
arm (pos (suc n)) = 0
arm (negsuc n) = 0

-- Taking a value of the type A apart: the arm that it chooses, and what that arm binds. An element's cell comes free as a diamond, a node's two cells as two.
abbrev pub unmake : Ty → Val → Act
unmake A (num z) = choose (arm z) []
unmake A dia = stuck
unmake A nil = choose 0 []
unmake A (cons a b) = choose 1 (dia of diamond ∷ a of first A ∷ b of A ∷ [])
unmake A (leaf a) = choose 0 (a of first A ∷ [])
unmake A (node a l r) = choose 1 (dia of diamond ∷ dia of diamond ∷ a of first A ∷ l of A ∷ r of A ∷ [])
unmake A (pair a b) = choose 0 (a of first A ∷ b of second A ∷ [])
unmake A (left a) = choose 0 (a of first A ∷ [])
unmake A (right a) = choose 1 (a of second A ∷ [])

-- the number that a value is, where it is one
abbrev pub number_of : Val → ℤ
number_of (num z) = z
number_of dia = pos 0
number_of nil = pos 0
number_of (cons a b) = pos 0
number_of (leaf a) = pos 0
number_of (node a l r) = pos 0
number_of (pair a b) = pos 0
number_of (left a) = pos 0
number_of (right a) = pos 0

-- what comes of one value; stuck at any other count
abbrev pub with1 : List Typed → (Typed → Act) → Act
with1 [] f = stuck
with1 (a ∷ []) f = f a
with1 (a ∷ b ∷ r) f = stuck

-- of two
abbrev pub with2 : List Typed → (Typed → Typed → Act) → Act
with2 [] f = stuck
with2 (a ∷ r) f = with1 r (f a)

-- of three
abbrev pub with3 : List Typed → (Typed → Typed → Typed → Act) → Act
with3 [] f = stuck
with3 (a ∷ r) f = with2 r (f a)

-- of five
abbrev pub with5 : List Typed → (Typed → Typed → Typed → Typed → Typed → Act) → Act
with5 [] f = stuck
with5 (a ∷ []) f = stuck
with5 (a ∷ b ∷ r) f = with3 r (f a b)

-- the value of a variable
abbrev pub lookup : List Typed → ℕ → Act
lookup [] i = stuck
lookup (x ∷ xs) zero = give x
lookup (x ∷ xs) (suc i) = lookup xs i

-- What a head does with the variables' values and the values of its parts, where their types fit. (A constant that N does not hold would wrap; a table's numbers
-- spell none.)
abbrev pub does : Head → List Typed → List Typed → Act
does (var i) env vs = lookup env i
does (call f) env vs = enter f vs
does (const z) env vs = give (num (wrap z) of int)
does (apply o) env vs = with2 vs (λ a b. give (num (compute o (number_of a.value) (number_of b.value)) of int))
does guard env vs = with1 vs (λ a. unmake a.type a.value)
does (mk_pair A) env vs = with2 vs (λ a b. give (pair a.value b.value of A))
does case_pair env vs = with1 vs (λ a. unmake a.type a.value)
does (mk_left A) env vs = with1 vs (λ a. give (left a.value of A))
does (mk_right A) env vs = with1 vs (λ a. give (right a.value of A))
does case_sum env vs = with1 vs (λ a. unmake a.type a.value)
does (mk_nil A) env vs = give (nil of A)
does mk_cons env vs = with3 vs (λ d a b. give (cons a.value b.value of b.type))
does case_list env vs = with1 vs (λ a. unmake a.type a.value)
does (mk_leaf A) env vs = with1 vs (λ a. give (leaf a.value of A))
does mk_node env vs = with5 vs (λ d e a l r. give (node a.value l.value r.value of l.type))
does case_tree env vs = with1 vs (λ a. unmake a.type a.value)

-- the types of values
abbrev pub types : List Typed → List Ty
types xs = map (λ x. x.type) xs

-- what an expression does; it is stuck where the types of its parts break its rule
abbrev pub act : List Fun → Head → List Typed → List Typed → Act
act fs h env vs = cond (fits (rule fs (types env) h (types vs)) (types vs)) (does h env vs) stuck
