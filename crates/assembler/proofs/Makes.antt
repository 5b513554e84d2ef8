-- Expressions of code are made, each by its number.
use Rattle.std.proofs.Common.{zero, suc, ◌≡◌, ℕ, ◌+◌, ◌%◌, ◌<◌, ◌≤◌, List, get_or, sym, subst, inl, inr, arith}
use denote.Param.Members.{Mut, Called}
use Rattle.std.specs.Array.{IsFromFnResult, IsFromFnResultFrom}
use Rattle.std.proofs.lemmas.Bool.{cases_lt}

-- a number below 512 is its own remainder
pub own : (n : ℕ) → n < 512 → n % 512 ≡ n
own n h = omega arith

-- calls of a closure at the numbers from i on give elements of the kind Q, where each call keeps the closure's state as P says
pub given : {F B : Type 0} (g : Mut F (ℕ × Unit {0}) B) (P : F → Type 0) (Q : ℕ → B → Type 0)
    → ((f f' : F) (i : ℕ) (x : B) → P f → Called g f (i, tt) x f' → P f' × Q i x)
    → (f : F) (xs : List B) (i n : ℕ) → P f → IsFromFnResultFrom g f xs i n → (k : ℕ) (d : B) → i ≤ k → k < i + n → Q k (get_or xs k d)
given g P Q step f xs i zero p e k d l h = absurd (omega arith)
given {F} {B} g P Q step f xs i (suc n) p (f', x, is, call, rest) k d l h =
    let s = step f f' i x p call in
    elim (cases_lt i k) [
      | inl a ↦ given g P Q step f' xs (i + 1) n s.0 rest k d (omega arith) (omega arith)
      | inr a ↦ let e : i ≡ k = omega arith in subst (λ (j : ℕ). Q j (get_or xs j d)) e (subst (Q i) (sym (is.1 d)) s.1)
    ]

pub given_all : {F B : Type 0} (g : Mut F (ℕ × Unit {0}) B) (P : F → Type 0) (Q : ℕ → B → Type 0)
    → ((f f' : F) (i : ℕ) (x : B) → P f → Called g f (i, tt) x f' → P f' × Q i x)
    → (f : F) (xs : List B) (n : ℕ) → P f → IsFromFnResult g f xs n → (k : ℕ) (d : B) → k < n → Q k (get_or xs k d)
given_all g P Q step f xs n p r k d h = given g P Q step f xs 0 n p r.each k d (omega arith) (omega arith)
