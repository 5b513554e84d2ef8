-- What is handed to a sink in two goes is handed to it in one.
use Rattle.std.specs.Prelude.{◌≡◌, ℕ, suc, ◌+◌, List, [], ◌∷◌, ◌++◌, length, slice_set, refl}
use Rattle.std.proofs.Common.{sym, ap, ◌∙◌, arith, length-append}
use Rattle.std.proofs.lemmas.List.Edits.{sets}
use Rattle.std.proofs.Math.Seq.{length-sets}
use Rattle.store.specs.Walking.{Placed, Counted}

sets_append : (l : List ℕ) (i : ℕ) (xs ys : List ℕ) → sets l i (xs ++ ys) ≡ sets (sets l i xs) (i + length xs) ys
sets_append l i [] ys = let z : i ≡ i + 0 = omega arith in ap (λ j. sets l j ys) z
sets_append l i (x ∷ xs) ys =
    let z : suc i + length xs ≡ i + suc (length xs) = omega arith in
    sets_append (slice_set l i x) (suc i) xs ys ∙ ap (λ j. sets (sets (slice_set l i x) (suc i) xs) j ys) z

pub placed_none : (out : List ℕ) (at : ℕ) → Placed out at [] out at
placed_none out at h = (refl, omega arith)

pub placed_joins : (out : List ℕ) (at : ℕ) (out₁ : List ℕ) (at₁ : ℕ) (out₂ : List ℕ) (at₂ : ℕ) (xs ys : List ℕ)
    → Placed out at xs out₁ at₁ → Placed out₁ at₁ ys out₂ at₂ → Placed out at (xs ++ ys) out₂ at₂
placed_joins out at out₁ at₁ out₂ at₂ xs ys p q h =
    let n = length-append xs ys in
    let a = p (omega arith) in
    let l : length out₁ ≡ length out = ap length a.0 ∙ length-sets out at xs in
    let b = q (omega (arith, a.1)) in
    (b.0 ∙ ap (λ o. sets o at₁ ys) a.0 ∙ ap (λ j. sets (sets out at xs) j ys) a.1 ∙ sym (sets_append out at xs ys), omega (arith, a.1, b.1))

pub counted_none : (n : ℕ) → Counted n [] n
counted_none n = omega arith

pub counted_joins : (a b c : ℕ) (xs ys : List ℕ) → Counted a xs b → Counted b ys c → Counted a (xs ++ ys) c
counted_joins a b c xs ys p q = omega (arith, length-append xs ys)
