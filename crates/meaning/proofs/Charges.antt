-- What the variables that are still named charge. A heap-free value charges nothing; so, where nothing is shared, what a part names and what comes after it names
-- charge no more than all of it did.
use Rattle.std.proofs.Common.{◌≡◌, ℕ, suc, ◌+◌, ◌≤◌, Bool, true, false, cond, not, ◌&&◌, ◌||◌, leb, List, [], ◌∷◌, ◌++◌, sym, refl, ap, ◌∙◌, subst, add_assoc, zero-add, arith}
use mathlib.Core.Option.{none, some}
use mathlib.Core.Bool.{false≢true}
use mathlib.Core.Path.{subst⁻¹}
use Rattle.std.proofs.lemmas.Bool.{and_parts, or_parts, or_from, leb-false, lt-leb}
use Rattle.lfpl.specs.Syntax.{Ty, pair_of, sum_of, first, second, is_heap_free, Expr, Exprs, end, ◌then◌, names, names_any}
use Rattle.lfpl.specs.Judge.{count, parts_naming, shares}
use Rattle.lfpl.specs.Values.{Val, num, dia, nil, cons, leaf, node, pair, left, right, charge, In, Typed}
use Rattle.meaning.specs.Mean.{total}
use Rattle.meaning.specs.View.{keep, charges, charges_kept}
use Rattle.meaning.specs.Sound.{Fit}

pub total_append : (f : Typed → ℕ) (xs ys : List Typed) → total f (xs ++ ys) ≡ total f xs + total f ys
total_append f [] ys = sym (zero-add (total f ys))
total_append f (x ∷ xs) ys = ap (λ n. f x + n) (total_append f xs ys) ∙ sym (add_assoc (f x) (total f xs) (total f ys))

-- the charge of the variables from the number i on that the test names
abbrev pub weight : (ℕ → Bool) → ℕ → List Typed → ℕ
weight f i env = charges_kept (keep f i env)

-- a charge that counts where the test is true
abbrev taken : Bool → ℕ → ℕ
taken b n = cond b n 0

taken_le : (b : Bool) (n : ℕ) → taken b n ≤ n
taken_le true n = omega arith
taken_le false n = omega arith

taken_mono : (a b : Bool) (n : ℕ) → (a ≡ true → b ≡ true) → taken a n ≤ taken b n
taken_mono true b n h = subst⁻¹ (λ (c : Bool). n ≤ taken c n) (h refl) (omega arith)
taken_mono false b n h = omega arith

weight_one : (f : ℕ → Bool) (i : ℕ) (x : Typed) (env : List Typed) → weight f i (x ∷ env) ≡ taken (f i) (charge x.value) + weight f (suc i) env
weight_one f i x env = one (f i)
  where
    one : (b : Bool) → charges_kept (cond b (some x) none ∷ keep f (suc i) env) ≡ taken b (charge x.value) + weight f (suc i) env
    one true = refl
    one false = sym (zero-add (weight f (suc i) env))

-- fewer variables named
pub weight_mono : (f g : ℕ → Bool) (i : ℕ) (env : List Typed) → ((j : ℕ) → f j ≡ true → g j ≡ true) → weight f i env ≤ weight g i env
weight_mono f g i [] h = omega arith
weight_mono f g i (x ∷ env) h =
    let a = taken_mono (f i) (g i) (charge x.value) (h i) in
    let b = weight_mono f g (suc i) env h in
    let c = weight_one f i x env in
    let d = weight_one g i x env in
    omega arith

pub weight_all : (f : ℕ → Bool) (i : ℕ) (env : List Typed) → weight f i env ≤ charges env
weight_all f i [] = omega arith
weight_all f i (x ∷ env) =
    let a = taken_le (f i) (charge x.value) in let b = weight_all f (suc i) env in let c = weight_one f i x env in omega arith

-- variables bound besides
pub weight_append : (f : ℕ → Bool) (i : ℕ) (env xs : List Typed) → weight f i (env ++ xs) ≤ weight f i env + charges xs
weight_append f i [] xs = let a = weight_all f i xs in omega arith
weight_append f i (x ∷ env) xs =
    let a = weight_append f (suc i) env xs in let c = weight_one f i x (env ++ xs) in let d = weight_one f i x env in omega arith

-- a variable that the test names
pub weight_at : (f : ℕ → Bool) (i : ℕ) (x : Typed) (env : List Typed) → f i ≡ true → charge x.value ≤ weight f i (x ∷ env)
weight_at f i x env h =
    let c = weight_one f i x env in
    let d : taken (f i) (charge x.value) ≡ charge x.value = ap (λ b. taken b (charge x.value)) h in
    omega arith

pub weight_past : (f : ℕ → Bool) (i : ℕ) (x : Typed) (env : List Typed) → weight f (suc i) env ≤ weight f i (x ∷ env)
weight_past f i x env = let c = weight_one f i x env in omega arith

-- ---- heap-free values

-- a heap-free type is none that is not
free_not : (A B : Ty) → is_heap_free A ≡ true → A ≡ B → is_heap_free B ≡ false → ⊥
free_not A B h e k = false≢true (sym k ∙ subst (λ (S : Ty). is_heap_free S ≡ true) e h)

-- and is made of such
free_parts : (A B C D : Ty) → is_heap_free A ≡ true → A ≡ D → is_heap_free D ≡ (is_heap_free B && is_heap_free C) → (is_heap_free B ≡ true) × (is_heap_free C ≡ true)
free_parts A B C D h e s = and_parts (is_heap_free B) (is_heap_free C) (sym s ∙ subst (λ (S : Ty). is_heap_free S ≡ true) e h)

free_charge : (A : Ty) (v : Val) → is_heap_free A ≡ true → In A v → charge v ≡ 0
free_charge A (num z) h i = refl
free_charge A dia h e = absurd (free_not A _ h e refl)
free_charge A nil h i = refl
free_charge A (cons a b) h i = absurd (free_not A _ h i.0 refl)
free_charge A (leaf a) h i = absurd (free_not A _ h i.0 refl)
free_charge A (node a l r) h i = absurd (free_not A _ h i.0 refl)
free_charge A (pair a b) h (e, i, j) =
    let k = free_parts A (first A) (second A) (pair_of (first A) (second A)) h e refl in
    let x = free_charge (first A) a k.0 i in let y = free_charge (second A) b k.1 j in omega arith
free_charge A (left a) h (e, i) = free_charge (first A) a (free_parts A (first A) (second A) (sum_of (first A) (second A)) h e refl).0 i
free_charge A (right a) h (e, i) = free_charge (second A) a (free_parts A (first A) (second A) (sum_of (first A) (second A)) h e refl).1 i

-- ---- sharing

-- parts that name a variable have one that does
any_parts : (j : ℕ) (es : Exprs) → names_any j es ≡ true → 1 ≤ parts_naming j es
any_parts j end h = absurd (false≢true h)
any_parts j (e then es) h = go (names j e) h (any_parts j es)
  where
    go : (a : Bool) → (a || names_any j es) ≡ true → (names_any j es ≡ true → 1 ≤ parts_naming j es) → 1 ≤ count a + parts_naming j es
    go true h k = omega arith
    go false h k = let l : 1 ≤ parts_naming j es = k h in omega arith

-- one variable of the charge w: a says that the part names it, b that parts after it do, of which there are n, and q that an arm does
one : (w : ℕ) (free a b q : Bool) (n : ℕ) → (free ≡ true → w ≡ 0) → (b ≡ true → 1 ≤ n) → (not free && leb 2 ((count a + n) + count q)) ≡ false
    → taken a w + taken (b || q) w ≤ taken ((a || b) || q) w
one w true a b q n l k h = let e : w ≡ 0 = l refl in let i = taken_le a w in let j = taken_le (b || q) w in omega arith
one w false true true q n l k h = let i : 1 ≤ n = k refl in let j = leb-false 2 ((1 + n) + count q) h in absurd (omega arith)
one w false true false true n l k h = let j = leb-false 2 ((1 + n) + 1) h in absurd (omega arith)
one w false true false false n l k h = omega arith
one w false false b q n l k h = omega arith

less : (free : Bool) (a n q : ℕ) → (not free && leb 2 ((a + n) + q)) ≡ false → (not free && leb 2 (n + q)) ≡ false
less true a n q h = refl
less false a n q h = let j = leb-false 2 ((a + n) + q) h in lt-leb 2 (n + q) (omega arith)

-- without sharing, a part and what comes after it name variables that charge no more than all did; and what comes after shares nothing either
pub split : (e : Expr) (es qs : Exprs) (i : ℕ) (env : List Typed) (Γ : List Ty) → Fit env Γ → shares i Γ (e then es) qs ≡ false
    → (weight (λ j. names j e) i env + weight (λ j. names_any j es || names_any j qs) i env ≤ weight (λ j. names_any j (e then es) || names_any j qs) i env)
    × (shares i Γ es qs ≡ false)
split e es qs i [] [] f h = (omega arith, refl)
split e es qs i [] (A ∷ Γ) f h = absurd f
split e es qs i (x ∷ env) [] f h = absurd f
split e es qs i (x ∷ env) (A ∷ Γ) f h =
    let s = or_parts (not (is_heap_free A) && leb 2 ((count (names i e) + parts_naming i es) + count (names_any i qs))) (shares (suc i) Γ (e then es) qs) h in
    let r = split e es qs (suc i) env Γ f.1 s.1 in
    let r₀ = r.0 in
    let o = one (charge x.value) (is_heap_free A) (names i e) (names_any i es) (names_any i qs) (parts_naming i es)
    (λ k. free_charge A x.value k f.0.1) (any_parts i es) s.0 in
    let a = weight_one (λ j. names j e) i x env in
    let b = weight_one (λ j. names_any j es || names_any j qs) i x env in
    let c = weight_one (λ j. names_any j (e then es) || names_any j qs) i x env in (
      omega arith,
      or_from _ _ (less (is_heap_free A) (count (names i e)) (parts_naming i es) (count (names_any i qs)) s.0) r.1,
    )
