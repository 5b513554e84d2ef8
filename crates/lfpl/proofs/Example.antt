-- Contr at work: x:N ⊢ x : N and x':N ⊢ x' : N, so x:N, x':N ⊢ x + x' : N, so x:N ⊢ x + x : N.
use Rattle.std.proofs.Common.{◌≡◌, Bool, true, false, cond, sym, refl, ap, ◌∙◌, arith}
use mathlib.Core.Option.{none, some}
use Rattle.lfpl.specs.Syntax.{int, plus, var, apply, Term, expr, end, ◌then◌}
use Rattle.lfpl.specs.Hofmann.{Name, named, same_name, Parted, nowhere, here, there, with, Contr, InfixOp, Var}
use Rattle.lfpl.specs.Laws.{SumOfOne}
use Rattle.lfpl.proofs.Names.{number_of, primes_of, same_inv}

abbrev x : Name
x = named 0 0

abbrev x' : Name
x' = named 0 1

abbrev the : Name → Term Name
the z = expr (var z) end end

-- x and x' are two names
apart : (z : Name) → same_name z x ≡ true → same_name z x' ≡ true → ⊥
apart z p q = let r = ap primes_of (sym (same_inv z x p) ∙ same_inv z x' q) in absurd (omega arith)

parted : (a b : Bool) → (a ≡ true → b ≡ true → ⊥) → Parted (cond b (some int) (cond a (some int) none)) (cond a (some int) none) (cond b (some int) none)
parted true true n = absurd (n refl refl)
parted true false n = here int
parted false true n = there int
parted false false n = nowhere

pub sum_of_one : SumOfOne
sum_of_one Σ =
    Contr {Γ = λ _. none} (expr (apply plus) (the x then the x' then end) end) x x' int int
    (λ v l e. let q = ap number_of e in absurd (omega arith)) (λ v l e. let q = ap primes_of e in absurd (omega arith)) (λ e. let q = ap primes_of e in absurd (omega arith))
    refl refl refl
    (InfixOp {Γ = with (λ _. none) x int} {Δ = with (λ _. none) x' int} plus (the x) (the x') (λ z. parted (same_name z x) (same_name z x') (apart z))
    (Var x int refl) (Var x' int refl))
