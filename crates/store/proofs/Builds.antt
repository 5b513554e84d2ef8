-- How a value is built from its parts.
use Rattle.std.proofs.Common.{◌≡◌, ℕ, ◌+◌, ◌<◌, ◌≤◌, Bool, true, false, eqb, ◌≢◌, List, [], ◌∷◌, ◌++◌, length, get_or, set, ℤ, is_some, unwrap_or, sym, refl, ap, ◌∙◌, subst, ap₂, arith, length-set, w32, to_z}
use Rattle.std.proofs.lemmas.List.{get_or-set_same, get_or-set_other}
use Rattle.std.proofs.lemmas.Bool.{eqb-true, eqb-false}
use Rattle.lfpl.specs.Syntax.{Ty, int, diamond, list_of, tree_of, pair_of, sum_of, width}
use Rattle.lfpl.specs.Values.{Val, num, dia, nil, cons, leaf, node, pair, left, right, charge}
use Rattle.pool.specs.Pools.{Meaning, held}
use Rattle.store.specs.Building.{Fresh, Holds, Built, Boxed}
use Rattle.store.specs.Layout.{one, used, occ, words_of, Shows, footprint}
use Rattle.store.proofs.Moves.{occ_append, used_le, Window, same_window, used_same, moved}

-- ---- taken cells keep their words

abbrev pub Keeps : Meaning → Meaning → Type 0
Keeps m m' = (c : ℕ) → used m c ≡ 1 → held m' c ≡ held m c

keeps_on : (m m₁ m₂ : Meaning) → Keeps m m₁ → Keeps m₁ m₂ → Keeps m m₂
keeps_on m m₁ m₂ k₁ k₂ c p = k₂ c (used_same m m₁ c c refl (k₁ c p) ∙ p) ∙ k₁ c p

fresh_keeps : (m m' : Meaning) (ws : List ℕ) (c : ℕ) → Fresh m ws c m' → Keeps m m'
fresh_keeps m m' ws c f k p = f.others k (λ e. omega (arith, ap (used m) e, f.new, p))

fresh_used : (m m' : Meaning) (ws : List ℕ) (c : ℕ) → Fresh m ws c m' → used m' c ≡ 1
fresh_used m m' ws c f = ap (λ x. one (is_some x)) f.holds

fresh_cells : (m m' : Meaning) (ws : List ℕ) (c : ℕ) → Fresh m ws c m' → (k : ℕ) → one (eqb c k) + used m k ≡ used m' k
fresh_cells m m' ws c f k = go (eqb c k) refl
  where
    go : (b : Bool) → eqb c k ≡ b → one b + used m k ≡ used m' k
    go true e =
        let q : c ≡ k = eqb-true c k e in
        omega (arith, ap (used m) q, ap (used m') q, f.new, fresh_used m m' ws c f)
    go false e =
        let t : used m' k ≡ used m k = ap (λ x. one (is_some x)) (f.others k (λ q. eqb-false c k e (sym q))) in
        omega (arith, t)

-- a built value stays as more is built
carried : (m m₁ m₂ : Meaning) (ws ws₁ ws₂ : List ℕ) (A : Ty) (v : Val) (o o₂ : ℕ) → Built m ws A v o m₁ ws₁ → Keeps m₁ m₂
    → Window ws₁ o ws₂ o₂ (width A) → Shows m₂ A v ws₂ o₂ × (footprint m₂ A v ws₂ o₂ ≡ footprint m₁ A v ws₁ o)
carried m m₁ m₂ ws ws₁ ws₂ A v o o₂ b k w =
    moved m₁ m₂ A v ws₁ ws₂ o o₂ b.shows w (λ c p. k c (omega (arith, b.holds.cells c, used_le m₁ c)))

-- a value is built in words, and these are put into a cell of its own
pub boxed : (m m₁ m₂ : Meaning) (ws ws₁ : List ℕ) (A : Ty) (v : Val) (c : ℕ) → Built m ws A v 0 m₁ ws₁ → Fresh m₁ ws₁ c m₂ → Boxed m A v c m₂
boxed m m₁ m₂ ws ws₁ A v c b f =
    let k = fresh_keeps m₁ m₂ ws₁ c f in
    let y : words_of m₂ c ≡ ws₁ = ap (λ x. unwrap_or x []) f.holds in
    let r = carried m m₁ m₂ ws ws₁ (words_of m₂ c) A v 0 0 b k (same_window _ _ 0 (width A) y) in
    record {
      taken = fresh_used m₁ m₂ ws₁ c f;
      shows = r.0;
      cells = λ i. omega (arith, ap (occ i) r.1, b.holds.cells i, fresh_cells m₁ m₂ ws₁ c f i);
      keeps = keeps_on m m₁ m₂ b.holds.keeps k;
      count = omega (arith, b.holds.count, f.count);
      bound = f.bound ∙ b.holds.bound;
    }

box_carried : (m m₁ m₂ : Meaning) (A : Ty) (v : Val) (c : ℕ) → Boxed m A v c m₁ → Keeps m₁ m₂
    → (used m₂ c ≡ 1) × Shows m₂ A v (words_of m₂ c) 0 × (footprint m₂ A v (words_of m₂ c) 0 ≡ footprint m₁ A v (words_of m₁ c) 0)
box_carried m m₁ m₂ A v c b k =
    let h = k c b.taken in
    let r = moved m₁ m₂ A v (words_of m₁ c) (words_of m₂ c) 0 0 b.shows (same_window _ _ 0 (width A) (ap (λ x. unwrap_or x []) h))
    (λ d p. k d (omega (arith, b.cells d, used_le m₁ d))) in
    (used_same m₁ m₂ c c refl h ∙ b.taken, r.0, r.1)

-- ---- one word is written

-- a value in one word
one_word : (m m' : Meaning) (ws : List ℕ) (A : Ty) (v : Val) (o w : ℕ) → o < length ws → (get_or (set ws o w) o 0 ≡ w → Shows m' A v (set ws o w) o) → 1 ≤ width A
    → Holds m (footprint m' A v (set ws o w) o) v m' → Built m ws A v o m' (set ws o w)
one_word m m' ws A v o w l s n h = record {
  shows = s (get_or-set_same ws o w 0 l);
  holds = h;
  before = λ i h. get_or-set_other ws o i w 0 (λ q. omega arith);
  after = λ i h. get_or-set_other ws o i w 0 (λ q. omega arith);
}

holds_none : (m : Meaning) (v : Val) → charge v ≡ 0 → Holds m [] v m
holds_none m v e = record { cells = λ c. omega arith; keeps = λ c p. refl; count = omega (arith, e); bound = refl }

pub built_num : (m : Meaning) (ws : List ℕ) (z : ℤ) (o n : ℕ) → o < length ws → z ≡ to_z w32 n → Built m ws int (num z) o m (set ws o n)
unfolding Shows footprint
built_num m ws z o n l e = one_word m m ws int (num z) o n l (λ x. (refl, e ∙ ap (to_z w32) (sym x))) (omega arith) (holds_none m (num z) refl)

pub built_nil : (m : Meaning) (ws : List ℕ) (A : Ty) (o : ℕ) → o < length ws → Built m ws (list_of A) nil o m (set ws o 0)
unfolding Shows footprint
built_nil m ws A o l = one_word m m ws (list_of A) nil o 0 l (λ x. (refl, x)) (omega arith) (holds_none m nil refl)

pub built_dia : (m m' : Meaning) (ws xs : List ℕ) (o c : ℕ) → o < length ws → Fresh m xs c m' → Built m ws diamond dia o m' (set ws o c)
unfolding Shows footprint
built_dia m m' ws xs o c l f =
    let x : get_or (set ws o c) o 0 ≡ c = get_or-set_same ws o c 0 l in
    one_word m m' ws diamond dia o c l (λ x. (refl, ap (used m') x ∙ fresh_used m m' xs c f)) (omega arith)
    (record {
      cells = λ k. omega (arith, ap (λ y. occ k (y ∷ [])) x, fresh_cells m m' xs c f k);
      keeps = fresh_keeps m m' xs c f;
      count = f.count;
      bound = f.bound;
    })

-- the cell of a list's first element holds the pair of the element and the tail
pub built_cons : (m m' : Meaning) (ws : List ℕ) (A : Ty) (a b : Val) (o c : ℕ) → o < length ws → Boxed m (pair_of A (list_of A)) (pair a b) c m'
    → Built m ws (list_of A) (cons a b) o m' (set ws o c)
unfolding Shows footprint
built_cons m m' ws A a b o c l p =
    let x : get_or (set ws o c) o 0 ≡ c = get_or-set_same ws o c 0 l in
    let z : 0 + width A ≡ width A = omega arith in
    let F : ℕ → List ℕ = λ y. y ∷ (footprint m' A a (words_of m' y) 0 ++ footprint m' (list_of A) b (words_of m' y) (width A)) in
    let fp : F (get_or (set ws o c) o 0) ≡ c ∷ (footprint m' A a (words_of m' c) 0 ++ footprint m' (list_of A) b (words_of m' c) (0 + width A)) =
    ap F x ∙ ap (λ i. c ∷ (footprint m' A a (words_of m' c) 0 ++ footprint m' (list_of A) b (words_of m' c) i)) (sym z) in
    let tail = subst (λ i. Shows m' (list_of A) b (words_of m' c) i) z p.shows.2 in
    let here : (used m' c ≡ 1) × Shows m' A a (words_of m' c) 0 × Shows m' (list_of A) b (words_of m' c) (width A) = (p.taken, p.shows.1, tail) in
    let there = subst (λ y. (used m' y ≡ 1) × Shows m' A a (words_of m' y) 0 × Shows m' (list_of A) b (words_of m' y) (width A)) (sym x) here in
    one_word m m' ws (list_of A) (cons a b) o c l (λ x. (refl, there.0, there.1, there.2)) (omega arith)
    (record { cells = λ k. omega (arith, ap (occ k) fp, p.cells k); keeps = p.keeps; count = p.count; bound = p.bound })

-- ---- several words

pub built_pair : (m m₁ m₂ : Meaning) (A B : Ty) (a b : Val) (ws ws₁ ws₂ : List ℕ) (o : ℕ)
    → Built m ws A a o m₁ ws₁ → Built m₁ ws₁ B b (o + width A) m₂ ws₂ → Built m ws (pair_of A B) (pair a b) o m₂ ws₂
unfolding Shows footprint
built_pair m m₁ m₂ A B a b ws ws₁ ws₂ o p q =
    let wa : Window ws₁ o ws₂ o (width A) = λ i j g h e. let s : j ≡ i = omega arith in ap (λ z. get_or ws₂ z 0) s ∙ q.before i (omega arith) in
    let ra = carried m m₁ m₂ ws ws₁ ws₂ A a o o p q.holds.keeps wa in
    let fa = footprint m₁ A a ws₁ o in
    let fb = footprint m₂ B b ws₂ (o + width A) in
    let fp : footprint m₂ (pair_of A B) (pair a b) ws₂ o ≡ fa ++ fb = ap (λ z. z ++ fb) ra.1 in
    record {
      shows = (refl, ra.0, q.shows);
      holds = record {
        cells = λ k. omega (arith, ap (occ k) fp, occ_append k fa fb, p.holds.cells k, q.holds.cells k);
        keeps = keeps_on m m₁ m₂ p.holds.keeps q.holds.keeps;
        count = omega (arith, p.holds.count, q.holds.count);
        bound = q.holds.bound ∙ p.holds.bound;
      };
      before = λ i h. q.before i (omega arith) ∙ p.before i h;
      after = λ i h. q.after i (omega arith) ∙ p.after i (omega arith);
    }

-- a mark, and one part after it
marked : (m m₁ : Meaning) (A B : Ty) (v a : Val) (ws ws₁ : List ℕ) (o k : ℕ) → o < length ws → width B + 1 ≤ width A → charge v ≡ charge a
    → (get_or ws₁ o 0 ≡ k → Shows m₁ A v ws₁ o) → footprint m₁ A v ws₁ o ≡ footprint m₁ B a ws₁ (o + 1)
    → Built m (set ws o k) B a (o + 1) m₁ ws₁ → Built m ws A v o m₁ ws₁
marked m m₁ A B v a ws ws₁ o k l w e s f p = record {
  shows = s (p.before o (omega arith) ∙ get_or-set_same ws o k 0 l);
  holds = record {
    cells = λ c. omega (arith, ap (occ c) f, p.holds.cells c);
    keeps = p.holds.keeps;
    count = omega (arith, e, p.holds.count);
    bound = p.holds.bound;
  };
  before = λ i h. p.before i (omega arith) ∙ get_or-set_other ws o i k 0 (λ q. omega arith);
  after = λ i h. p.after i (omega (arith, w)) ∙ get_or-set_other ws o i k 0 (λ q. omega (arith, w));
}

module _ (m m₁ : Meaning) (A B : Ty) (a : Val) (ws ws₁ : List ℕ) (o : ℕ) (l : o < length ws) where
  pub built_left : Built m (set ws o 0) A a (o + 1) m₁ ws₁ → Built m ws (sum_of A B) (left a) o m₁ ws₁
  unfolding Shows footprint
  built_left p = marked m m₁ (sum_of A B) A (left a) a ws ws₁ o 0 l (omega arith) refl (λ x. (refl, x, p.shows)) refl p

  pub built_right : Built m (set ws o 1) B a (o + 1) m₁ ws₁ → Built m ws (sum_of A B) (right a) o m₁ ws₁
  unfolding Shows footprint
  built_right p = marked m m₁ (sum_of A B) B (right a) a ws ws₁ o 1 l (omega arith) refl (λ x. (refl, x, p.shows)) refl p

  pub built_leaf : Built m (set ws o 0) A a (o + 1) m₁ ws₁ → Built m ws (tree_of A) (leaf a) o m₁ ws₁
  unfolding Shows footprint
  built_leaf p = marked m m₁ (tree_of A) A (leaf a) a ws ws₁ o 0 l (omega arith) refl (λ x. (refl, x, p.shows)) refl p

pub built_node : (m m₁ m₂ m₃ : Meaning) (A : Ty) (a l r : Val) (ws ws₁ : List ℕ) (o c d : ℕ) → o < length ws → o + 2 + width A < length ws₁
    → Built m (set ws o 1) A a (o + 1) m₁ ws₁ → Boxed m₁ (tree_of A) l c m₂ → Boxed m₂ (tree_of A) r d m₃
    → Built m ws (tree_of A) (node a l r) o m₃ (set (set ws₁ (o + 1 + width A) c) (o + 2 + width A) d)
unfolding Shows footprint
built_node m m₁ m₂ m₃ A a l r ws ws₁ o c d ll lr p q s =
    let n = width A in
    let ws₂ = set ws₁ (o + 1 + n) c in
    let ws₃ = set ws₂ (o + 2 + n) d in
    let other : (i : ℕ) → i ≢ o + 1 + n → i ≢ o + 2 + n → get_or ws₃ i 0 ≡ get_or ws₁ i 0 = λ i e₁ e₂. get_or-set_other ws₂ (o + 2 + n) i d 0 e₂ ∙ get_or-set_other ws₁ (o + 1 + n) i c 0 e₁ in
    let xl : get_or ws₃ (o + 1 + n) 0 ≡ c = get_or-set_other ws₂ (o + 2 + n) (o + 1 + n) d 0 (λ e. omega arith) ∙ get_or-set_same ws₁ (o + 1 + n) c 0 (omega arith) in
    let xr : get_or ws₃ (o + 2 + n) 0 ≡ d = get_or-set_same ws₂ (o + 2 + n) d 0 (omega (arith, length-set ws₁ (o + 1 + n) c)) in
    let k₁ = keeps_on m₁ m₂ m₃ q.keeps s.keeps in
    let wa : Window ws₁ (o + 1) ws₃ (o + 1) n = λ i j a b e. let z : j ≡ i = omega arith in ap (λ z. get_or ws₃ z 0) z ∙ other i (λ e. omega arith) (λ e. omega arith) in
    let ra = carried m m₁ m₃ (set ws o 1) ws₁ ws₃ A a (o + 1) (o + 1) p k₁ wa in
    let rl = box_carried m₁ m₂ m₃ (tree_of A) l c q s.keeps in
    let fa = footprint m₁ A a ws₁ (o + 1) in
    let fl = footprint m₂ (tree_of A) l (words_of m₂ c) 0 in
    let fr = footprint m₃ (tree_of A) r (words_of m₃ d) 0 in
    let G : Val → ℕ → List ℕ = λ v y. y ∷ footprint m₃ (tree_of A) v (words_of m₃ y) 0 in
    let fp : footprint m₃ (tree_of A) (node a l r) ws₃ o ≡ fa ++ ((c ∷ fl) ++ (d ∷ fr)) =
    ap₂ ◌++◌ ra.1 (ap₂ ◌++◌ (ap (G l) xl ∙ ap (λ z. c ∷ z) rl.2) (ap (G r) xr)) in
    let H : Val → ℕ → Type 0 = λ v y. (used m₃ y ≡ 1) × Shows m₃ (tree_of A) v (words_of m₃ y) 0 in
    let hl = subst (H l) (sym xl) (rl.0, rl.1) in
    let hr = subst (H r) (sym xr) (s.taken, s.shows) in
    record {
      shows = (refl, other o (λ e. omega arith) (λ e. omega arith) ∙ p.before o (omega arith) ∙ get_or-set_same ws o 1 0 ll, ra.0, hl.0, hl.1, hr.0, hr.1);
      holds = record {
        cells = λ k. omega (arith, ap (occ k) fp, occ_append k fa ((c ∷ fl) ++ (d ∷ fr)), occ_append k (c ∷ fl) (d ∷ fr), p.holds.cells k, q.cells k, s.cells k);
        keeps = keeps_on m m₁ m₃ p.holds.keeps k₁;
        count = omega (arith, p.holds.count, q.count, s.count);
        bound = s.bound ∙ q.bound ∙ p.holds.bound;
      };
      before = λ i h. other i (λ e. omega arith) (λ e. omega arith) ∙ p.before i (omega arith) ∙ get_or-set_other ws o i 1 0 (λ q. omega arith);
      after = λ i h. other i (λ e. omega arith) (λ e. omega arith) ∙ p.after i (omega arith) ∙ get_or-set_other ws o i 1 0 (λ q. omega arith);
    }
