-- Laws of variables and parts that lie in the words of a run.
use Rattle.std.proofs.Common.{◌≡◌, ℕ, zero, suc, ◌+◌, ◌-◌, ◌<◌, ◌≤◌, Bool, true, false, cond, List, [], ◌∷◌, ◌++◌, length, get_or, drop, sym, refl, ap, ◌∙◌, subst, add-zero, add_assoc, suc-add, zero-add, arith}
use native.Mathlib.Nat.{suc_inj}
use mathlib.Core.Bool.{false≢true}
use Rattle.std.proofs.lemmas.List.{append_assoc}
use Rattle.std.proofs.lemmas.Bool.{and_parts}
use Rattle.lfpl.specs.Syntax.{Ty, width, first, second, is_heap_free}
use Rattle.lfpl.specs.Typing.{type_at}
use Rattle.lfpl.specs.Values.{Val, num, dia, nil, cons, leaf, node, pair, left, right, Typed}
use Rattle.meaning.specs.Act.{give, types, lookup}
use Rattle.meaning.specs.Mean.{widths}
use Rattle.pool.specs.Pools.{Meaning, held}
use Rattle.store.specs.Layout.{one, Shows, footprint, occ}
use Rattle.store.proofs.Moves as moves
use Rattle.store.proofs.Moves.{moved, occ_append}
use Rattle.typing.specs.Scopes as scopes
use Rattle.typing.specs.Scopes.{offsets}
use Rattle.acts.specs.Places.{Lying, cells_at, shift, Lies, cells_of, places, from, Window}

-- ---- words that stay, and a value that moves

-- the words below the limit are the same
abbrev pub Below : List ℕ → List ℕ → ℕ → Type 0
Below ws ys top = (i : ℕ) → i < top → get_or ys i 0 ≡ get_or ws i 0

pub window_of : (xs ys : List ℕ) (i j n : ℕ) → Window xs i ys j n → moves.Window xs i ys j n
window_of xs ys i j n w a b p q r = subst (λ x. get_or ys x 0 ≡ get_or xs a 0) (omega arith) (subst (λ x. get_or ys (j + (a - i)) 0 ≡ get_or xs x 0) (omega arith) (w (a - i) (omega arith)))

-- a part of a window
pub window_part : (xs ys : List ℕ) (i j n i' j' n' : ℕ) → Window xs i ys j n → i ≤ i' → i' + n' ≤ i + n → j' + i ≡ i' + j → moves.Window xs i' ys j' n'
window_part xs ys i j n i' j' n' w p q r a b x y z = window_of xs ys i j n w a b (omega arith) (omega arith) (omega arith)

pub window_below : (ws ys : List ℕ) (at n top : ℕ) → at + n ≤ top → Below ws ys top → moves.Window ws at ys at n
window_below ws ys at n top l e i j p q r = subst (λ x. get_or ys x 0 ≡ get_or ws i 0) (omega arith) (e i (omega arith))

pub lying_same : (m m' : Meaning) (ws ys : List ℕ) (top : ℕ) (x : Typed) (at : ℕ) → Below ws ys top
    → ((c : ℕ) → 0 < occ c (cells_at m ws x at) → held m' c ≡ held m c) → Lying m ws top x at
    → Lying m' ys top x at × (cells_at m' ys x at ≡ cells_at m ws x at)
lying_same m m' ws ys top x at e same s =
    let f = moved m m' x.type x.value ws ys at at s.shows (window_below ws ys at (width x.type) top s.below e) same in
    (record { shows = f.0; below = s.below }, f.1)

-- the same under a test
maybe_same : (m m' : Meaning) (ws ys : List ℕ) (top : ℕ) (x : Typed) (at : ℕ) (b : Bool) → Below ws ys top
    → ((c : ℕ) → 0 < occ c (cond b (cells_at m ws x at) []) → held m' c ≡ held m c) → (b ≡ true → Lying m ws top x at)
    → (b ≡ true → Lying m' ys top x at) × (cond b (cells_at m' ys x at) [] ≡ cond b (cells_at m ws x at) [])
maybe_same m m' ws ys top x at true e same s = let f = lying_same m m' ws ys top x at e same (s refl) in (λ q. f.0, f.1)
maybe_same m m' ws ys top x at false e same s = (λ q. absurd (false≢true q), refl)

-- what lies below a limit lies there where the words below it and the cells held are the same
pub lies_same : (m m' : Meaning) (ws ys : List ℕ) (top : ℕ) (need : ℕ → Bool) (xs : List Typed) (ats : List ℕ) → Below ws ys top
    → ((c : ℕ) → 0 < occ c (cells_of m ws need xs ats) → held m' c ≡ held m c) → Lies m ws top need xs ats
    → Lies m' ys top need xs ats × (cells_of m' ys need xs ats ≡ cells_of m ws need xs ats)
lies_same m m' ws ys top need [] ats e same l = (tt, refl)
lies_same m m' ws ys top need (x ∷ xs) ats e same l =
    let c₁ = cond (need 0) (cells_at m ws x (get_or ats 0 0)) [] in
    let c₂ = cells_of m ws (shift need) xs (drop 1 ats) in
    let r = lies_same m m' ws ys top (shift need) xs (drop 1 ats) e (λ c k. same c (omega (arith, occ_append c c₁ c₂))) l.1 in
    let s = maybe_same m m' ws ys top x (get_or ats 0 0) (need 0) e (λ c k. same c (omega (arith, occ_append c c₁ c₂))) l.0 in
    ((s.0, r.0), rw (s.1, r.1) refl)

-- fewer are needed
pub lies_less : (m : Meaning) (ws : List ℕ) (top : ℕ) (need need' : ℕ → Bool) (xs : List Typed) (ats : List ℕ)
    → ((i : ℕ) → need' i ≡ true → need i ≡ true) → Lies m ws top need xs ats → Lies m ws top need' xs ats
lies_less m ws top need need' [] ats f l = tt
lies_less m ws top need need' (x ∷ xs) ats f l = (λ q. l.0 (f 0 q), lies_less m ws top (shift need) (shift need') xs (drop 1 ats) (λ i. f (suc i)) l.1)

pub lies_higher : (m : Meaning) (ws : List ℕ) (top top' : ℕ) (need : ℕ → Bool) (xs : List Typed) (ats : List ℕ) → top ≤ top' → Lies m ws top need xs ats → Lies m ws top' need xs ats
lies_higher m ws top top' need [] ats f l = tt
lies_higher m ws top top' need (x ∷ xs) ats f l =
    (λ q. let s = l.0 q in record { shows = s.shows; below = omega (arith, s.below) }, lies_higher m ws top top' (shift need) xs (drop 1 ats) f l.1)

-- values after one another
pub lies_append : (m : Meaning) (ws : List ℕ) (top : ℕ) (need : ℕ → Bool) (xs ys : List Typed) (ats bts : List ℕ) → length ats ≡ length xs → Lies m ws top need xs ats
    → Lies m ws top (λ i. need (length xs + i)) ys bts → Lies m ws top need (xs ++ ys) (ats ++ bts)
lies_append m ws top need [] ys [] bts e l r = simp zero-add at r
lies_append m ws top need [] ys (a ∷ ats) bts e l r = absurd (omega arith)
lies_append m ws top need (x ∷ xs) ys [] bts e l r = absurd (omega arith)
lies_append m ws top need (x ∷ xs) ys (a ∷ ats) bts e l r = (l.0, lies_append m ws top (shift need) xs ys ats bts (suc_inj e) l.1 (simp suc-add at r))

pub cells_append : (m : Meaning) (ws : List ℕ) (need : ℕ → Bool) (xs ys : List Typed) (ats bts : List ℕ) → length ats ≡ length xs
    → cells_of m ws need (xs ++ ys) (ats ++ bts) ≡ cells_of m ws need xs ats ++ cells_of m ws (λ i. need (length xs + i)) ys bts
cells_append m ws need [] ys [] bts e = simp zero-add refl
cells_append m ws need [] ys (a ∷ ats) bts e = absurd (omega arith)
cells_append m ws need (x ∷ xs) ys [] bts e = absurd (omega arith)
cells_append m ws need (x ∷ xs) ys (a ∷ ats) bts e = rw (cells_append m ws (shift need) xs ys ats bts (suc_inj e)) (simp (suc-add, append_assoc) refl)

-- ---- places

pub types_append : (xs ys : List Typed) → types (xs ++ ys) ≡ types xs ++ types ys
types_append [] ys = refl
types_append (x ∷ xs) ys = ap (λ l. x.type ∷ l) (types_append xs ys)

pub length_types : (xs : List Typed) → length (types xs) ≡ length xs
length_types [] = refl
length_types (x ∷ xs) = ap suc (length_types xs)

pub widths_append : (xs ys : List Typed) → widths (xs ++ ys) ≡ widths xs + widths ys
widths_append [] ys = omega arith
widths_append (x ∷ xs) ys = let e = widths_append xs ys in omega arith

pub widths_types : (xs : List Typed) → scopes.widths (types xs) ≡ widths xs
widths_types [] = refl
widths_types (x ∷ xs) = ap (λ n. width x.type + n) (widths_types xs)

pub places_append : (at : ℕ) (xs ys : List Typed) → places at (xs ++ ys) ≡ places at xs ++ places (at + widths xs) ys
places_append at [] ys = simp add-zero refl
places_append at (x ∷ xs) ys = ap (λ l. at ∷ l) (places_append (at + width x.type) xs ys ∙ rw add_assoc refl)

pub length_places : (at : ℕ) (xs : List Typed) → length (places at xs) ≡ length xs
length_places at [] = refl
length_places at (x ∷ xs) = ap suc (length_places (at + width x.type) xs)

pub from_append : (b : ℕ) (xs ys : List ℕ) → from b (xs ++ ys) ≡ from b xs ++ from b ys
from_append b [] ys = refl
from_append b (x ∷ xs) ys = ap (λ l. (b + x) ∷ l) (from_append b xs ys)

pub length_from : (b : ℕ) (xs : List ℕ) → length (from b xs) ≡ length xs
length_from b [] = refl
length_from b (x ∷ xs) = ap suc (length_from b xs)

pub places_from : (b at : ℕ) (xs : List Typed) → places (b + at) xs ≡ from b (offsets at (types xs))
places_from b at [] = refl
places_from b at (x ∷ xs) = ap (λ l. (b + at) ∷ l) (rw add_assoc (places_from b (at + width x.type) xs))

pub length_offsets : (at : ℕ) (xs : List Typed) → length (offsets at (types xs)) ≡ length xs
length_offsets at [] = refl
length_offsets at (x ∷ xs) = ap suc (length_offsets (at + width x.type) xs)

-- ---- cells

-- a value of a heap-free type holds no cell
pub heap_free_shown : (m : Meaning) (A : Ty) (v : Val) (ws : List ℕ) (o : ℕ) → Shows m A v ws o → is_heap_free A ≡ true → footprint m A v ws o ≡ []
unfolding Shows footprint
heap_free_shown m A (num z) ws o s f = refl
heap_free_shown m A dia ws o s f = absurd (false≢true (sym (ap is_heap_free s.0) ∙ f))
heap_free_shown m A nil ws o s f = refl
heap_free_shown m A (cons a b) ws o s f = absurd (false≢true (sym (ap is_heap_free s.0) ∙ f))
heap_free_shown m A (leaf a) ws o s f = absurd (false≢true (sym (ap is_heap_free s.0) ∙ f))
heap_free_shown m A (node a l r) ws o s f = absurd (false≢true (sym (ap is_heap_free s.0) ∙ f))
heap_free_shown m A (pair a b) ws o s f =
    let e = and_parts (is_heap_free (first A)) (is_heap_free (second A)) (sym (ap is_heap_free s.0) ∙ f) in
    let xa = heap_free_shown m (first A) a ws o s.1 e.0 in
    let xb = heap_free_shown m (second A) b ws (o + width (first A)) s.2 e.1 in
    rw (xa, xb) refl
heap_free_shown m A (left a) ws o s f =
    heap_free_shown m (first A) a ws (o + 1) s.2 (and_parts (is_heap_free (first A)) (is_heap_free (second A)) (sym (ap is_heap_free s.0) ∙ f)).0
heap_free_shown m A (right a) ws o s f =
    heap_free_shown m (second A) a ws (o + 1) s.2 (and_parts (is_heap_free (first A)) (is_heap_free (second A)) (sym (ap is_heap_free s.0) ∙ f)).1

less_one : (c : ℕ) (b b' : Bool) (xs : List ℕ) → (b' ≡ true → b ≡ true) → occ c (cond b' xs []) ≤ occ c (cond b xs [])
less_one c true true xs f = omega arith
less_one c true false xs f = omega arith
less_one c false true xs f = absurd (false≢true (f refl))
less_one c false false xs f = omega arith

pub cells_less : (m : Meaning) (ws : List ℕ) (c : ℕ) (need need' : ℕ → Bool) (xs : List Typed) (ats : List ℕ)
    → ((i : ℕ) → need' i ≡ true → need i ≡ true) → occ c (cells_of m ws need' xs ats) ≤ occ c (cells_of m ws need xs ats)
cells_less m ws c need need' [] ats f = omega arith
cells_less m ws c need need' (x ∷ xs) ats f =
    let c₁ = cells_at m ws x (get_or ats 0 0) in
    omega (
      arith,
      occ_append c (cond (need 0) c₁ []) (cells_of m ws (shift need) xs (drop 1 ats)),
      occ_append c (cond (need' 0) c₁ []) (cells_of m ws (shift need') xs (drop 1 ats)),
      less_one c (need 0) (need' 0) c₁ (f 0),
      cells_less m ws c (shift need) (shift need') xs (drop 1 ats) (λ i. f (suc i)),
    )

-- a need is shared out among two: each value that may hold cells goes to one of them at most
abbrev pub Shared : (ℕ → Bool) → (ℕ → Bool) → (ℕ → Bool) → List Typed → Type 0
Shared need fst snd [] = Unit {0}
Shared need fst snd (x ∷ xs) = (is_heap_free x.type ≡ false → one (fst 0) + one (snd 0) ≤ one (need 0)) × Shared (shift need) (shift fst) (shift snd) xs

share_one : (c : ℕ) (b b₁ b₂ f : Bool) (xs : List ℕ) → (b₁ ≡ true → b ≡ true) → (b₂ ≡ true → b ≡ true) → (f ≡ false → one b₁ + one b₂ ≤ one b) → (b ≡ true → f ≡ true → xs ≡ [])
    → occ c (cond b₁ xs []) + occ c (cond b₂ xs []) ≤ occ c (cond b xs [])
share_one c true b₁ b₂ true xs p q l e = rw (e refl refl) (both b₁ b₂)
  where
    both : (b₁ b₂ : Bool) → occ c (cond b₁ [] []) + occ c (cond b₂ [] []) ≤ 0
    both true true = omega arith
    both true false = omega arith
    both false true = omega arith
    both false false = omega arith
share_one c true true true false xs p q l e = absurd (let k = l refl in omega arith)
share_one c true true false false xs p q l e = omega arith
share_one c true false true false xs p q l e = omega arith
share_one c true false false false xs p q l e = omega arith
share_one c false true b₂ f xs p q l e = absurd (false≢true (p refl))
share_one c false false true f xs p q l e = absurd (false≢true (q refl))
share_one c false false false f xs p q l e = omega arith

pub cells_shared : (m : Meaning) (ws : List ℕ) (top c : ℕ) (need fst snd : ℕ → Bool) (xs : List Typed) (ats : List ℕ) → Lies m ws top need xs ats
    → ((i : ℕ) → fst i ≡ true → need i ≡ true) → ((i : ℕ) → snd i ≡ true → need i ≡ true) → Shared need fst snd xs
    → occ c (cells_of m ws fst xs ats) + occ c (cells_of m ws snd xs ats) ≤ occ c (cells_of m ws need xs ats)
cells_shared m ws top c need fst snd [] ats l p q s = omega arith
cells_shared m ws top c need fst snd (x ∷ xs) ats l p q s =
    let c₁ = cells_at m ws x (get_or ats 0 0) in
    let t = drop 1 ats in
    omega (
      arith,
      occ_append c (cond (need 0) c₁ []) (cells_of m ws (shift need) xs t),
      occ_append c (cond (fst 0) c₁ []) (cells_of m ws (shift fst) xs t),
      occ_append c (cond (snd 0) c₁ []) (cells_of m ws (shift snd) xs t),
      share_one c (need 0) (fst 0) (snd 0) (is_heap_free x.type) c₁ (p 0) (q 0) s.0 (λ n f. heap_free_shown m x.type x.value ws (get_or ats 0 0) (l.0 n).shows f),
      cells_shared m ws top c (shift need) (shift fst) (shift snd) xs t l.1 (λ i. p (suc i)) (λ i. q (suc i)) s.1,
    )

-- a needed value, by its number
abbrev pub Found : Meaning → List ℕ → ℕ → (ℕ → Bool) → List Typed → List ℕ → ℕ → Type 0
Found m ws top need xs ats i =
    (x : Typed) × (lookup xs i ≡ give x) × (type_at (types xs) i ≡ x.type) × Lying m ws top x (get_or ats i 0)
    × ((c : ℕ) → occ c (cells_at m ws x (get_or ats i 0)) ≤ occ c (cells_of m ws need xs ats))

cond_true : (c : ℕ) (b : Bool) (xs : List ℕ) → b ≡ true → occ c (cond b xs []) ≡ occ c xs
cond_true c true xs e = refl
cond_true c false xs e = absurd (false≢true e)

pub found : (m : Meaning) (ws : List ℕ) (top : ℕ) (need : ℕ → Bool) (xs : List Typed) (ats : List ℕ) (i : ℕ) → i < length xs → need i ≡ true → Lies m ws top need xs ats
    → Found m ws top need xs ats i
found m ws top need [] ats i h n l = absurd (omega arith)
found m ws top need (x ∷ xs) ats zero h n l = (
  x,
  refl,
  refl,
  l.0 n,
  λ c. let c₁ = cells_at m ws x (get_or ats 0 0) in
      omega (arith, cond_true c (need 0) c₁ n, occ_append c (cond (need 0) c₁ []) (cells_of m ws (shift need) xs (drop 1 ats))),
)
found m ws top need (x ∷ xs) [] (suc i) h n l =
    let r = found m ws top (shift need) xs [] i (omega arith) n l.1 in
    (r.0, r.1, r.2, r.3, λ c. omega (arith, r.4 c, occ_append c (cond (need 0) (cells_at m ws x 0) []) (cells_of m ws (shift need) xs [])))
found m ws top need (x ∷ xs) (a ∷ ats) (suc i) h n l =
    let r = found m ws top (shift need) xs ats i (omega arith) n l.1 in
    (r.0, r.1, r.2, r.3, λ c. omega (arith, r.4 c, occ_append c (cond (need 0) (cells_at m ws x a) []) (cells_of m ws (shift need) xs ats)))

pub at_from : (b : ℕ) (ps : List ℕ) (i : ℕ) → i < length ps → get_or (from b ps) i 0 ≡ b + get_or ps i 0
at_from b [] i h = absurd (omega arith)
at_from b (p ∷ ps) zero h = refl
at_from b (p ∷ ps) (suc i) h = at_from b ps i (omega arith)
