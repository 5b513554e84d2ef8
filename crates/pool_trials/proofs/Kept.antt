-- Two words kept in a cell of any pool.
use Rattle.std.proofs.Common.{◌≡◌, ℕ, ◌-◌, Bool, true, cond, set, is_some, Some, refl, ap, ◌∙◌, arith}
use Rattle.std.proofs.lemmas.List.{set-set}
use Rattle.pool.specs.Pools.{Meaning, Takes, Writes, Gives, word_at, held, placed, zeros, after_give}
use Rattle.pool.proofs.Laws.{took, held_same, write_taken, word_taken, same_meaning, given_back}

-- the words are read, and with the cell given back the pool is what it was
pub record Kept (m m₃ : Meaning) (n a b : ℕ) : Type 0 where
  pub first : word_at m₃ n 0 ≡ Some a
  pub second : word_at m₃ n 1 ≡ Some b
  pub back : (r : Bool) (m₄ : Meaning) → Gives m₃ n r m₄ → m₄ ≡ m

pub kept : (m m₁ m₂ m₃ : Meaning) (n a b : ℕ) (r s : Bool) → Takes m (Some n) m₁ → Writes m₁ n 0 a r m₂ → Writes m₂ n 1 b s m₃ → Kept m m₃ n a b
kept m m₁ m₂ m₃ n a b r s t v w =
    let u = t.cases in
    let f = m.free - 1 in
    let one = set zeros 0 a in
    let two = set one 1 b in
    let e₂ : m₂ ≡ record { cells = placed m n (Some one); free = f } =
    (write_taken m₁ m₂ n 0 a r zeros (took m m₁ n t) (omega arith) v).1 ∙ rw u.after (same_meaning _ _ f f (set-set m.cells (n - 1) (Some zeros) (Some one)) refl) in
    let h₂ : held m₂ n ≡ Some one = ap (λ x. held x n) e₂ ∙ held_same m n f (Some one) u.low u.high in
    let e₃ : m₃ ≡ record { cells = placed m n (Some two); free = f } =
    (write_taken m₂ m₃ n 1 b s one h₂ (omega arith) w).1 ∙ rw e₂ (same_meaning _ _ f f (set-set m.cells (n - 1) (Some one) (Some two)) refl) in
    let h₃ : held m₃ n ≡ Some two = ap (λ x. held x n) e₃ ∙ held_same m n f (Some two) u.low u.high in
    record {
      first = word_taken m₃ n 0 two h₃ (omega arith);
      second = word_taken m₃ n 1 two h₃ (omega arith);
      back = λ q m₄ g.
          let yes' : q ≡ true = g.answer ∙ ap is_some h₃ in
          g.after ∙ ap (λ x. cond x (after_give m₃ n) m₃) yes' ∙ ap (λ x. after_give x n) e₃ ∙ given_back m n f (Some two) u.low u.fresh (omega (arith, u.spare));
    }
