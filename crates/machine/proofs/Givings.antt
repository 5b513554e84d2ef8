-- Cells by counting: those that are kept and those that are given back.
use Rattle.std.proofs.Common.{◌≡◌, ℕ, zero, suc, ◌+◌, ◌<◌, ◌≤◌, Bool, true, false, cond, eqb, ltb, List, [], ◌∷◌, ◌++◌, length, get_or, take, sym, refl, ap, ◌∙◌, subst, zero-add, arith, length-append}
use Rattle.std.proofs.lemmas.List.{take_more, take_all}
use Rattle.std.proofs.lemmas.Bool.{eqb-true, ltb-true, ltb-false, lt-ltb}
use Rattle.pool.specs.Pools.{Meaning}
use Rattle.store.specs.Layout.{one, used, occ}
use Rattle.store.specs.Releasing.{Released}
use Rattle.store.proofs.Moves.{occ_append, occ_here, used_le, used_same}
use Rattle.machine.specs.Calling.{without}
use Rattle.std.specs.List.{list_any}
use mathlib.Core.Bool.{◌||◌}

-- ---- counts

-- the list with the first x in it left out
abbrev remove : ℕ → List ℕ → List ℕ
remove x [] = []
remove x (y ∷ ys) = cond (eqb y x) ys (y ∷ remove x ys)

removed : (x : ℕ) (ys : List ℕ) → 0 < occ x ys → ((c : ℕ) → occ c (remove x ys) + one (eqb x c) ≡ occ c ys) × (length (remove x ys) + 1 ≡ length ys)
removed x [] h = absurd (omega arith)
removed x (y ∷ ys) h = go (removed x ys) (eqb y x) refl
  where
    go : (0 < occ x ys → ((c : ℕ) → occ c (remove x ys) + one (eqb x c) ≡ occ c ys) × (length (remove x ys) + 1 ≡ length ys)) → (b : Bool) → eqb y x ≡ b
        → ((c : ℕ) → occ c (cond b ys (y ∷ remove x ys)) + one (eqb x c) ≡ occ c (y ∷ ys)) × (length (cond b ys (y ∷ remove x ys)) + 1 ≡ length (y ∷ ys))
    go f true e = (λ c. omega (arith, ap (λ i. one (eqb i c)) (eqb-true y x e)), omega arith)
    go f false e =
        let r = f (omega (arith, h, ap one e)) in
        (λ c. omega (arith, r.0 c), omega (arith, r.1))

-- lists that have each number equally often are equally long
same_long : (xs ys : List ℕ) → ((c : ℕ) → occ c xs ≡ occ c ys) → length xs ≡ length ys
same_long [] [] h = refl
same_long [] (y ∷ ys) h = absurd (omega (arith, h y, occ_here y ys))
same_long (x ∷ xs) ys h =
    let r = removed x ys (omega (arith, h x, occ_here x xs)) in
    omega (arith, r.1, same_long xs (remove x ys) (λ c. omega (arith, h c, r.0 c)))

-- how often a number is in what is left
occ_without : (c : ℕ) (ks xs : List ℕ) → occ c (without ks xs) ≡ cond (ltb 0 (occ c ks)) 0 (occ c xs)
occ_without c ks [] = go (ltb 0 (occ c ks))
  where
    go : (b : Bool) → ◌≡◌ {A = ℕ} 0 (cond b 0 0)
    go true = refl
    go false = refl
occ_without c ks (x ∷ xs) = go (ltb 0 (occ x ks)) (ltb 0 (occ c ks)) (eqb x c) refl refl refl (occ_without c ks xs)
  where
    go : (b d s : Bool) → ltb 0 (occ x ks) ≡ b → ltb 0 (occ c ks) ≡ d → eqb x c ≡ s → occ c (without ks xs) ≡ cond d 0 (occ c xs)
        → occ c (cond b (without ks xs) (x ∷ without ks xs)) ≡ cond d 0 (one s + occ c xs)
    go true true s e f k r = r
    go true false true e f k r = let z : true ≡ false = sym e ∙ ap (λ i. ltb 0 (occ i ks)) (eqb-true x c k) ∙ f in absurd (omega (arith, ap one z))
    go true false false e f k r = omega (arith, r)
    go false true true e f k r = let z : true ≡ false = sym f ∙ ap (λ i. ltb 0 (occ i ks)) (sym (eqb-true x c k)) ∙ e in absurd (omega (arith, ap one z))
    go false true false e f k r = omega (arith, r, ap one k)
    go false false s e f k r = omega (arith, r, ap one k)

-- where fp are among the cells `mine`, each held once: fp and the others are all of them
pub parted : (fp mine : List ℕ) → ((c : ℕ) → occ c fp ≤ occ c mine) → ((c : ℕ) → occ c mine ≤ 1) → (c : ℕ) → occ c fp + occ c (without fp mine) ≡ occ c mine
parted fp mine h once c = go (ltb 0 (occ c fp)) refl (occ_without c fp mine)
  where
    go : (b : Bool) → ltb 0 (occ c fp) ≡ b → occ c (without fp mine) ≡ cond b 0 (occ c mine) → occ c fp + occ c (without fp mine) ≡ occ c mine
    go true e r = omega (arith, r, ltb-true 0 (occ c fp) e, h c, once c)
    go false e r = omega (arith, r, ltb-false 0 (occ c fp) e)

pub parted_long : (fp mine : List ℕ) → ((c : ℕ) → occ c fp ≤ occ c mine) → ((c : ℕ) → occ c mine ≤ 1) → length fp + length (without fp mine) ≡ length mine
parted_long fp mine h once =
    let e = same_long (fp ++ without fp mine) mine (λ c. occ_append c fp (without fp mine) ∙ parted fp mine h once c) in
    omega (arith, e, length-append fp (without fp mine))

-- ---- cells given back one after another

without_append : (ks xs ys : List ℕ) → without ks (xs ++ ys) ≡ without ks xs ++ without ks ys
without_append ks [] ys = refl
without_append ks (x ∷ xs) ys = go (ltb 0 (occ x ks)) (without_append ks xs ys)
  where
    go : (b : Bool) → without ks (xs ++ ys) ≡ without ks xs ++ without ks ys
        → cond b (without ks (xs ++ ys)) (x ∷ without ks (xs ++ ys)) ≡ cond b (without ks xs) (x ∷ without ks xs) ++ without ks ys
    go true e = e
    go false e = ap (λ l. x ∷ l) e

without_take : (c : ℕ) (ks xs : List ℕ) (i : ℕ) → occ c (without ks (take i xs)) ≤ occ c (without ks xs)
without_take c ks xs zero = omega arith
without_take c ks [] (suc i) = omega arith
without_take c ks (x ∷ xs) (suc i) = go (ltb 0 (occ x ks)) (without_take c ks xs i)
  where
    go : (b : Bool) → occ c (without ks (take i xs)) ≤ occ c (without ks xs)
        → occ c (cond b (without ks (take i xs)) (x ∷ without ks (take i xs))) ≤ occ c (cond b (without ks xs) (x ∷ without ks xs))
    go true e = e
    go false e = omega (arith, e)

released_joins : (m m₁ m₂ : Meaning) (xs ys : List ℕ) → Released m xs m₁ → Released m₁ ys m₂ → Released m (xs ++ ys) m₂
released_joins m m₁ m₂ xs ys p q = record {
  cells = λ c. omega (arith, p.cells c, q.cells c, occ_append c xs ys);
  keeps = λ c u. q.keeps c u ∙ p.keeps c (omega (arith, used_same m₁ m₂ c c refl (q.keeps c u), u));
  count = omega (arith, p.count, q.count, length-append xs ys);
  bound = q.bound ∙ p.bound;
}

-- of the first i cells of a list, those that are not kept are given back, where all of them that are not kept can be
abbrev pub Giving : Meaning → List ℕ → List ℕ → ℕ → Meaning → Type 0
Giving m ks xs i m' = ((c : ℕ) → occ c (without ks xs) ≤ used m c) → Released m (without ks (take i xs)) m'

-- the library's test for a cell in a list counts it
among : (c : ℕ) (xs : List ℕ) → list_any (λ y. eqb y c) xs ≡ ltb 0 (occ c xs)
among c [] = refl
among c (x ∷ xs) = go (eqb x c) (among c xs)
  where
    go : (b : Bool) → list_any (λ y. eqb y c) xs ≡ ltb 0 (occ c xs) → (b || list_any (λ y. eqb y c) xs) ≡ ltb 0 (one b + occ c xs)
    go true e = sym (lt-ltb 0 (1 + occ c xs) (omega arith))
    go false e = rw zero-add e

pub giving_more : (m m₁ m₂ : Meaning) (ks xs : List ℕ) (i x : ℕ) (b : Bool) → i < length xs → x ≡ get_or xs i 0 → b ≡ list_any (λ y. eqb y x) ks → Giving m ks xs i m₁
    → ((b ≡ false → used m₁ x ≡ 1) → Released m₁ (cond b [] (x ∷ [])) m₂) → Giving m ks xs (i + 1) m₂
giving_more m m₁ m₂ ks xs i x b l k e p v h =
    let f : b ≡ ltb 0 (occ x ks) = e ∙ among x ks in
    let t : take (i + 1) xs ≡ take i xs ++ (x ∷ []) = take_more xs i 0 l ∙ ap (λ y. take i xs ++ (y ∷ [])) (sym k) in
    let w : without ks (take (i + 1) xs) ≡ without ks (take i xs) ++ cond b [] (x ∷ []) =
    ap (without ks) t ∙ without_append ks (take i xs) (x ∷ []) ∙ ap (λ d. without ks (take i xs) ++ cond d [] (x ∷ [])) (sym f) in
    let q = p h in
    let u : b ≡ false → used m₁ x ≡ 1 = λ o.
    omega (
      arith,
      q.cells x,
      h x,
      without_take x ks xs (i + 1),
      ap (occ x) w,
      occ_append x (without ks (take i xs)) (cond b [] (x ∷ [])),
      ap (λ d. occ x (cond d [] (x ∷ []))) o,
      occ_here x [],
      used_le m₁ x,
      used_le m x,
    ) in
    subst (λ z. Released m z m₂) (sym w) (released_joins m m₁ m₂ (without ks (take i xs)) (cond b [] (x ∷ [])) q (v u))

pub giving_all : (m m' : Meaning) (ks xs : List ℕ) (i : ℕ) → length xs ≤ i → Giving m ks xs i m' → ((c : ℕ) → occ c (without ks xs) ≤ used m c) → Released m (without ks xs) m'
giving_all m m' ks xs i e p h = subst (λ z. Released m (without ks z) m') (take_all i xs e) (p h)

-- where as many stay as there are, none is given back
pub none_left : (m : Meaning) (ks mine : List ℕ) → ((c : ℕ) → occ c ks ≤ occ c mine) → ((c : ℕ) → occ c mine ≤ 1) → length mine ≤ length ks → Released m (without ks mine) m
none_left m ks mine h once l = subst (λ xs. Released m xs m) (sym (empty (without ks mine) (omega (arith, l, parted_long ks mine h once)))) (record {
  cells = λ c. omega arith;
  keeps = λ c u. refl;
  count = omega arith;
  bound = refl;
})
  where
    empty : (xs : List ℕ) → length xs ≡ 0 → xs ≡ []
    empty [] e = refl
    empty (x ∷ xs) e = absurd (omega (arith, e))
