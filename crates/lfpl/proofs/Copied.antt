-- What has a type by the table of rules is derived by Hofmann's rules. Each part of an expression gets copies of its own of all heap-free variables; then its parts
-- have contexts that are apart, a rule of his applies, and the copies are contracted.
use Rattle.std.proofs.Common.{◌≡◌, ℕ, zero, suc, ◌+◌, ◌<◌, ◌≤◌, Bool, true, false, cond, ◌&&◌, ◌||◌, eqb, ltb, leb, List, [], ◌∷◌, ◌++◌, length, sym, refl, ap, ◌∙◌, subst, inl, inr, arith, length-append}
use mathlib.Core.Bool.{false≢true}
use mathlib.Core.Option.{Option, none, some}
use Rattle.std.proofs.lemmas.List.{get_or_append_left, get_or-append_right}
use Rattle.std.proofs.lemmas.Bool.{and_parts, and_from, and_left, and_right, or_from, or_left, or_right, cases_lt, ltb-true, lt-ltb, le-ltb, leb-true, le-leb, eq-eqb, ne_eqb}
use Rattle.lfpl.specs.Syntax.{Ty, int, is_heap_free, Head, is_var, Expr, Exprs, expr, end, ◌then◌, Term, Terms, rename_head, rename, renames, names, names_any, Fun}
use Rattle.lfpl.specs.Typing.{rule, type_at}
use Rattle.lfpl.specs.Hofmann.{Name, named, plain, Context, Parted, nowhere, here, there, extended, Derives, Derive, Zero, One, More, Binding, Derivable}
use Rattle.lfpl.proofs.Typed.{Typ, TypAll, TypArms}
use Rattle.lfpl.proofs.Renamed.{expr_by, then_by, head_twice, rename_twice, renames_twice}
use Rattle.lfpl.proofs.Sharing.{uses, Once, positive_count, names_used, unshared_once}
use Rattle.lfpl.proofs.Names.{case, number_of, look_old, look_new}
use Rattle.lfpl.proofs.Contracted.{added, merge, contract}
use Rattle.lfpl.proofs.Ruled.{Limbs, Limb, Stump, Choice, Chosen, by_rule}

-- each variable under the copy that c numbers
abbrev primed : (ℕ → ℕ) → ℕ → Name
primed c v = named v (c v)

-- the names in the set D go to one context, the others to another
abbrev kept : (Name → Bool) → Context → Context
kept D Θ z = cond (D z) (Θ z) none

abbrev dropped : (Name → Bool) → Context → Context
dropped D Θ z = cond (D z) none (Θ z)

parted : (b : Bool) (o : Option Ty) → Parted o (cond b o none) (cond b none o)
parted true none = nowhere
parted true (some A) = here A
parted false none = nowhere
parted false (some A) = there A

either_way : {X : Type 0} (b : Bool) (x y z : X) → x ≡ z → y ≡ z → cond b x y ≡ z
either_way true x y z p q = p
either_way false x y z p q = q

-- The context Θ has, over variables of the types Ξ, the copy c of each variable that is heap-free or in the set s. It has no copies beyond N, and no variables
-- that are bound later.
record Ready (Ξ : List Ty) (N : ℕ) (c : ℕ → ℕ) (Θ : Context) (s : ℕ → Bool) : Type 0 where
  low : (v : ℕ) → c v ≤ N
  bare : (v : ℕ) → length Ξ ≤ v → c v ≡ 0
  few : (v i : ℕ) → N < i → Θ (named v i) ≡ none
  out : (v i : ℕ) → length Ξ ≤ v → Θ (named v i) ≡ none
  has : (v : ℕ) → v < length Ξ → (is_heap_free (type_at Ξ v) || s v) ≡ true → Θ (named v (c v)) ≡ some (type_at Ξ v)

or_mono : (a b c : Bool) → (b ≡ true → c ≡ true) → (a || b) ≡ true → (a || c) ≡ true
or_mono true b c f p = refl
or_mono false b c f p = f p

ready_fewer : {Ξ : List Ty} {N : ℕ} {c : ℕ → ℕ} {Θ : Context} {s w : ℕ → Bool} → ((v : ℕ) → w v ≡ true → s v ≡ true) → Ready Ξ N c Θ s → Ready Ξ N c Θ w
ready_fewer {Ξ} {s = s} {w = w} f r = record {
  low = r.low;
  bare = r.bare;
  few = r.few;
  out = r.out;
  has = λ v l p. r.has v l (or_mono (is_heap_free (type_at Ξ v)) (w v) (s v) (f v) p);
}

-- in an arm
ready_arm : {Ξ : List Ty} {N : ℕ} {c : ℕ → ℕ} {Θ : Context} {s : ℕ → Bool} (Bs : List Ty) → Ready Ξ N c Θ s → Ready (Ξ ++ Bs) N c (extended (length Ξ) Θ Bs) s
ready_arm {Ξ} {N} {c} {Θ} {s} Bs r = let m = length-append Ξ Bs in record {
  low = r.low;
  bare = λ v l. r.bare v (omega arith);
  few = λ v i h. look_old Bs (length Ξ) Θ v i (λ a b z. absurd (omega arith)) ∙ r.few v i h;
  out = λ v i l. look_old Bs (length Ξ) Θ v i (λ a b z. absurd (omega arith)) ∙ r.out v i (omega arith);
  has = λ v l p. elim (cases_lt v (length Ξ)) [
    | inl h ↦ let e = get_or_append_left Ξ Bs int v h in
        look_old Bs (length Ξ) Θ v (c v) (λ a. absurd (omega arith)) ∙ r.has v h (subst (λ (A : Ty). (is_heap_free A || s v) ≡ true) e p) ∙ ap {B = Option Ty} some (sym e)
    | inr h ↦ ap (λ (i : ℕ). extended (length Ξ) Θ Bs (named v i)) (r.bare v h) ∙ look_new Bs (length Ξ) Θ v h (omega arith)
        ∙ ap {B = Option Ty} some (sym (get_or-append_right Ξ Bs (length Ξ) v int refl h))
  ];
}

abbrev how_many : Exprs → ℕ
how_many end = 0
how_many (e then es) = suc (how_many es)

module _ (Ξ : List Ty) (N : ℕ) (c : ℕ → ℕ) where
  -- the variables with copies
  abbrev light : ℕ → Bool
  light v = ltb v (length Ξ) && is_heap_free (type_at Ξ v)

  -- the copy of a variable that a part gets, which is the j-th from the end; the arms keep c
  abbrev copy_for : ℕ → ℕ → ℕ
  copy_for zero v = c v
  copy_for (suc j) v = cond (light v) (N + suc j) (c v)

  -- the parts, each with copies of its own
  abbrev fan : Exprs → Terms Name
  fan end = end
  fan (e then es) = rename (primed (copy_for (suc (how_many es)))) e then fan es

  -- the copies for m parts, with their types and originals, and the context that has them
  abbrev is_copy : ℕ → Name → Bool
  is_copy m (named v i) = light v && (ltb N i && leb i (N + m))

  abbrev type_of : Name → Ty
  type_of (named v i) = type_at Ξ v

  abbrev original : Name → Name
  original (named v i) = named v (c v)

  abbrev spread : ℕ → Context → Context
  spread m Θ = added (is_copy m) type_of Θ

  copy_facts : (m v i : ℕ) → is_copy m (named v i) ≡ true → (v < length Ξ) × (is_heap_free (type_at Ξ v) ≡ true) × (N < i) × (i ≤ N + m)
  copy_facts m v i p =
      let q = and_parts (light v) (ltb N i && leb i (N + m)) p in
      let a = and_parts (ltb v (length Ξ)) (is_heap_free (type_at Ξ v)) q.0 in
      let b = and_parts (ltb N i) (leb i (N + m)) q.1 in
      (ltb-true v (length Ξ) a.0, a.1, ltb-true N i b.0, leb-true i (N + m) b.1)

  is_light : (v : ℕ) → v < length Ξ → is_heap_free (type_at Ξ v) ≡ true → light v ≡ true
  is_light v l p = and_from _ _ (lt-ltb v (length Ξ) l) p

  copy_of : (m v j : ℕ) → suc j ≤ m → light v ≡ true → is_copy m (named v (N + suc j)) ≡ true
  copy_of m v j h p = and_from _ _ p (and_from _ _ (lt-ltb N (N + suc j) (omega arith)) (le-leb (N + suc j) (N + m) (omega arith)))

  -- the copies are taken back
  back : (m j v : ℕ) → j ≤ m → merge (is_copy m) original (named v (copy_for j v)) ≡ named v (c v)
  back m zero v h = either_way (is_copy m (named v (c v))) _ _ _ refl refl
  back m (suc j) v h = case (light v)
      (λ p. ap (λ (b : Bool). merge (is_copy m) original (named v (cond b (N + suc j) (c v)))) p ∙ ap (λ (b : Bool). cond b (named v (c v)) (named v (N + suc j))) (copy_of m v j h p))
      (λ p. ap (λ (b : Bool). merge (is_copy m) original (named v (cond b (N + suc j) (c v)))) p ∙ either_way (is_copy m (named v (c v))) _ _ _ refl refl)

  fan_back : (m : ℕ) (es : Exprs) → how_many es ≤ m → renames (merge (is_copy m) original) (fan es) ≡ renames (primed c) es
  fan_back m end h = refl
  fan_back m (e then es) h = then_by (rename_twice _ _ _ (λ v. back m (suc (how_many es)) v h) e) (fan_back m es (omega arith))

  all_back : (h : Head) (ps qs : Exprs)
      → rename (merge (is_copy (how_many ps)) original) (expr (rename_head (primed c) h) (fan ps) (renames (primed c) qs)) ≡ rename (primed c) (expr h ps qs)
  all_back h ps qs =
      let stays = λ (v : ℕ). back (how_many ps) 0 v (omega arith) in
      expr_by (head_twice _ _ _ stays h) (fan_back (how_many ps) ps (omega arith)) (renames_twice _ _ _ stays qs)

  gather : (Σ : List Fun) (Θ : Context) (e : Expr) {s : ℕ → Bool} → Ready Ξ N c Θ s → (m : ℕ) (t : Term Name)
      → rename (merge (is_copy m) original) t ≡ rename (primed c) e → (B : Ty)
      → Derives Σ (length Ξ) (spread m Θ) t B → Derives Σ (length Ξ) Θ (rename (primed c) e) B
  gather Σ Θ e r m t eq B d =
      subst (λ (u : Term Name). Derives Σ (length Ξ) Θ u B) eq
      (contract Σ (length Ξ) (suc (N + m)) Θ (is_copy m) type_of original
      (record { light = light'; absent = absent'; present = present'; free = free'; original = original' })
      (λ v i p. let q = copy_facts m v i p in (q.0, let b = q.3 in omega arith)) t B d)
    where
      light' : (y : Name) → is_copy m y ≡ true → is_heap_free (type_of y) ≡ true
      light' (named v i) p = (copy_facts m v i p).1

      absent' : (y : Name) → is_copy m y ≡ true → Θ y ≡ none
      absent' (named v i) p = r.few v i (copy_facts m v i p).2

      present' : (y : Name) → is_copy m y ≡ true → Θ (original y) ≡ some (type_of y)
      present' (named v i) p = let q = copy_facts m v i p in r.has v q.0 (or_left _ _ q.1)

      free' : (y : Name) → is_copy m y ≡ true → (w : ℕ) → length Ξ ≤ w → y ≡ plain w → ⊥
      free' (named v i) p w l e = let q = (copy_facts m v i p).0 in let z = ap number_of e in omega arith

      original' : (y : Name) → is_copy m y ≡ true → (w : ℕ) → length Ξ ≤ w → original y ≡ plain w → ⊥
      original' (named v i) p w l e = let q = (copy_facts m v i p).0 in let z = ap number_of e in omega arith

  -- The context has what the parts ps and arms qs want: for each place j the copy of each variable that is heap-free or in use.
  record Supplied (M : ℕ) (Θ : Context) (ps qs : Exprs) : Type 0 where
    low : (v : ℕ) → c v ≤ N
    bare : (v : ℕ) → length Ξ ≤ v → c v ≡ 0
    room : N + how_many ps ≤ M
    once : Once Ξ ps qs
    few : (v i : ℕ) → M < i → Θ (named v i) ≡ none
    out : (v i : ℕ) → length Ξ ≤ v → Θ (named v i) ≡ none
    has : (v j : ℕ) → v < length Ξ → j ≤ how_many ps → (is_heap_free (type_at Ξ v) || leb 1 (uses v ps qs)) ≡ true → Θ (named v (copy_for j v)) ≡ some (type_at Ξ v)

  at_copy : (m : ℕ) (Θ : Context) (z : Name) (b : Bool) → is_copy m z ≡ b → spread m Θ z ≡ cond b (some (type_of z)) (Θ z)
  at_copy m Θ z b p = ap (λ (x : Bool). cond x (some (type_of z)) (Θ z)) p

  -- the context with all copies has what all parts want
  supplied : (Θ : Context) (h : Head) (ps qs : Exprs) → Once Ξ ps qs → Ready Ξ N c Θ (λ v. names v (expr h ps qs))
      → Supplied (N + how_many ps) (spread (how_many ps) Θ) ps qs
  supplied Θ h ps qs o r = record {
    low = r.low;
    bare = r.bare;
    room = omega arith;
    once = o;
    few = λ v i b. case (is_copy m (named v i)) (λ p. let q = (copy_facts m v i p).3 in absurd (omega arith)) (λ p. at_copy m Θ (named v i) false p ∙ r.few v i (omega arith));
    out = λ v i l. case (is_copy m (named v i)) (λ p. let q = (copy_facts m v i p).0 in absurd (omega arith)) (λ p. at_copy m Θ (named v i) false p ∙ r.out v i l);
    has = λ v j l k u. case (is_copy m (named v (copy_for j v)))
        (λ p. at_copy m Θ (named v (copy_for j v)) true p)
        (λ p. at_copy m Θ (named v (copy_for j v)) false p ∙ ap (λ (i : ℕ). Θ (named v i)) (own v j k p)
        ∙ r.has v l (or_mono (is_heap_free (type_at Ξ v)) _ _ (λ q. names_used h ps qs v (leb-true 1 (uses v ps qs) q)) u));
  }
    where
      m : ℕ
      m = how_many ps

      own : (v j : ℕ) → j ≤ how_many ps → is_copy (how_many ps) (named v (copy_for j v)) ≡ false → copy_for j v ≡ c v
      own v zero k p = refl
      own v (suc j) k p = case (light v)
          (λ q. absurd (false≢true (sym p ∙ ap (λ (b : Bool). is_copy (how_many ps) (named v (cond b (N + suc j) (c v)))) q ∙ copy_of (how_many ps) v j k q)))
          (λ q. ap (λ (b : Bool). cond b (N + suc j) (c v)) q)

  -- so a part may be derived in all of it,
  part_ready : (M : ℕ) (Θ : Context) (e : Expr) (es qs : Exprs) → Supplied M Θ (e then es) qs → Ready Ξ M (copy_for (suc (how_many es))) Θ (λ v. names v e)
  part_ready M Θ e es qs u = record {
    low = λ v. let q = u.low v in let r = u.room in case (light v)
        (λ p. subst (λ (b : Bool). cond b (N + suc (how_many es)) (c v) ≤ M) (sym p) (omega arith))
        (λ p. subst (λ (b : Bool). cond b (N + suc (how_many es)) (c v) ≤ M) (sym p) (omega arith));
    bare = λ v l. ap (λ (b : Bool). cond b (N + suc (how_many es)) (c v)) (and_left _ (is_heap_free (type_at Ξ v)) (le-ltb v (length Ξ) l)) ∙ u.bare v l;
    few = u.few;
    out = u.out;
    has = λ v l p. u.has v (suc (how_many es)) l (omega arith)
        (or_mono (is_heap_free (type_at Ξ v)) _ _ (λ q. le-leb 1 (uses v (e then es) qs) (let k = positive_count (names v e) q in omega arith)) p);
  }

  -- or in its own names only, where k parts are behind it,
  abbrev mine : ℕ → Expr → Name → Bool
  mine k e (named v i) = (is_heap_free (type_at Ξ v) || names v e) && eqb i (copy_for (suc k) v)

  kept_ready : (M k : ℕ) (Θ : Context) (e : Expr) → Ready Ξ M (copy_for (suc k)) Θ (λ v. names v e) → Ready Ξ M (copy_for (suc k)) (kept (mine k e) Θ) (λ v. names v e)
  kept_ready M k Θ e r = record {
    low = r.low;
    bare = r.bare;
    few = λ v i h. either_way (mine k e (named v i)) (Θ (named v i)) none none (r.few v i h) refl;
    out = λ v i l. either_way (mine k e (named v i)) (Θ (named v i)) none none (r.out v i l) refl;
    has = λ v l p. ap (λ (b : Bool). cond b (Θ (named v (copy_for (suc k) v))) none) (and_from _ _ p (eq-eqb (copy_for (suc k) v) (copy_for (suc k) v) refl)) ∙ r.has v l p;
  }

  -- and the rest of the parts in the other names
  rest_supplied : (M : ℕ) (Θ : Context) (e : Expr) (es qs : Exprs) → Supplied M Θ (e then es) qs → Supplied M (dropped (mine (how_many es) e) Θ) es qs
  rest_supplied M Θ e es qs u = record {
    low = u.low;
    bare = u.bare;
    room = let r = u.room in omega arith;
    once = λ v l p. let q = u.once v l p in omega arith;
    few = λ v i h. either_way (mine (how_many es) e (named v i)) none (Θ (named v i)) none refl (u.few v i h);
    out = λ v i l. either_way (mine (how_many es) e (named v i)) none (Θ (named v i)) none refl (u.out v i l);
    has = λ v j l h p. ap (λ (b : Bool). cond b none (Θ (named v (copy_for j v)))) (others v j l h p)
        ∙ u.has v j l (omega arith) (or_mono (is_heap_free (type_at Ξ v)) _ _ (λ q. le-leb 1 (uses v (e then es) qs) (let k = leb-true 1 (uses v es qs) q in omega arith)) p);
  }
    where
      lit : (v j : ℕ) → v < length Ξ → is_heap_free (type_at Ξ v) ≡ true → copy_for (suc j) v ≡ N + suc j
      lit v j l q = ap (λ (b : Bool). cond b (N + suc j) (c v)) (is_light v l q)

      differ : (v j : ℕ) → v < length Ξ → j ≤ how_many es → is_heap_free (type_at Ξ v) ≡ true → copy_for j v ≡ copy_for (suc (how_many es)) v → ⊥
      differ v zero l h q e = let a = lit v (how_many es) l q in let b = u.low v in absurd (omega arith)
      differ v (suc j) l h q e = let a = lit v (how_many es) l q in let b = lit v j l q in absurd (omega arith)

      others : (v j : ℕ) → v < length Ξ → j ≤ how_many es → (is_heap_free (type_at Ξ v) || leb 1 (uses v es qs)) ≡ true → mine (how_many es) e (named v (copy_for j v)) ≡ false
      others v j l h p = case (is_heap_free (type_at Ξ v))
          (λ q. and_right (is_heap_free (type_at Ξ v) || names v e) _ (ne_eqb _ _ (differ v j l h q)))
          (λ q. and_left (is_heap_free (type_at Ξ v) || names v e) _ (case (names v e)
          (λ a. let k = positive_count (names v e) a in let i = u.once v l q in
          let g = leb-true 1 (uses v es qs) (subst (λ (b : Bool). (b || leb 1 (uses v es qs)) ≡ true) q p) in absurd (omega arith))
          (λ a. or_from _ _ q a)))

  arms_ready : (M : ℕ) (Θ : Context) (qs : Exprs) → Supplied M Θ end qs → Ready Ξ M c Θ (λ v. names_any v qs)
  arms_ready M Θ qs u = record {
    low = λ v. let q = u.low v in let r = u.room in omega arith;
    bare = u.bare;
    few = u.few;
    out = u.out;
    has = λ v l p. u.has v 0 l (omega arith)
        (or_mono (is_heap_free (type_at Ξ v)) _ _ (λ q. le-leb 1 (uses v end qs) (let k = positive_count (names_any v qs) q in omega arith)) p);
  }

module _ (Σ : List Fun) where
  no_arms : (qs : Exprs) (Ξ : List Ty) (B : Ty) (θ : ℕ → Name) → TypArms Σ qs [] Ξ B → renames θ qs ≡ end
  no_arms end Ξ B θ a = refl
  no_arms (q then qs) Ξ B θ a = absurd a

  mutual
    derives : (e : Expr) (Ξ : List Ty) (A : Ty) → Typ Σ e Ξ A → (N : ℕ) (c : ℕ → ℕ) (Θ : Context) → Ready Ξ N c Θ (λ v. names v e)
        → Derives Σ (length Ξ) Θ (rename (primed c) e) A
    derives (expr h ps qs) Ξ A (As, B, t, f, a, w, s) N c Θ r =
        let Θ' = spread Ξ N c (how_many ps) Θ in
        let u = supplied Ξ N c Θ h ps qs (unshared_once Ξ ps qs s) r in
        subst (λ (C : Ty). Derives Σ (length Ξ) Θ (rename (primed c) (expr h ps qs)) C) w
        (gather Ξ N c Σ Θ (expr h ps qs) r (how_many ps) _ (all_back Ξ N c h ps qs) ((rule Σ Ξ h As).whole B)
        (by_rule Σ (length Ξ) Θ' Ξ (fan Ξ N c ps) (renames (primed c) qs) As B (primed c) h f
        (λ i p l. either_way (is_copy Ξ N c (how_many ps) (named i (c i))) _ _ _ refl (r.has i l (or_right (is_heap_free (type_at Ξ i)) _ (or_left (is_var i h) _ p))))
        (record {
          parts = λ _. derive_all ps Ξ As t N c (N + how_many ps) Θ' qs u;
          armless = λ e. no_arms qs Ξ B (primed c) (subst (λ (l : List (List Ty)). TypArms Σ qs l Ξ B) e a);
          choice = λ T e. derive_choice ps Ξ T (subst (λ (l : List Ty). TypAll Σ ps Ξ l) e t) N c (N + how_many ps) Θ' qs u (renames (primed c) qs) (rule Σ Ξ h As).arms B
              (λ Δ v. derive_arms qs (rule Σ Ξ h As).arms Ξ B a (N + how_many ps) c Δ (arms_ready Ξ N c (N + how_many ps) Δ qs v));
        })))

    derive_all : (es : Exprs) (Ξ As : List Ty) → TypAll Σ es Ξ As → (N : ℕ) (c : ℕ → ℕ) (M : ℕ) (Θ : Context) (qs : Exprs) → Supplied Ξ N c M Θ es qs
        → Derive Σ (length Ξ) Θ (fan Ξ N c es) As
    derive_all end Ξ [] t N c M Θ qs u = Zero
    derive_all end Ξ (A ∷ As) t N c M Θ qs u = absurd t
    derive_all (e then end) Ξ [] t N c M Θ qs u = absurd t
    derive_all (e then end) Ξ (A ∷ []) t N c M Θ qs u = One _ A (derives e Ξ A t.0 M (copy_for Ξ N c 1) Θ (part_ready Ξ N c M Θ e end qs u))
    derive_all (e then end) Ξ (A ∷ (A₂ ∷ As)) t N c M Θ qs u = absurd t.1
    derive_all (e then (e₂ then es)) Ξ [] t N c M Θ qs u = absurd t
    derive_all (e then (e₂ then es)) Ξ (A ∷ []) t N c M Θ qs u = absurd t.1
    derive_all (e then (e₂ then es)) Ξ (A ∷ (A₂ ∷ As)) t N c M Θ qs u =
        let D = mine Ξ N c (suc (how_many es)) e in
        More _ _ _ A A₂ As (λ x. parted (D x) (Θ x))
        (derives e Ξ A t.0 M (copy_for Ξ N c (suc (suc (how_many es)))) (kept D Θ)
        (kept_ready Ξ N c M (suc (how_many es)) Θ e (part_ready Ξ N c M Θ e (e₂ then es) qs u)))
        (derive_all (e₂ then es) Ξ (A₂ ∷ As) t.1 N c M (dropped D Θ) qs (rest_supplied Ξ N c M Θ e (e₂ then es) qs u))

    derive_choice : (es : Exprs) (Ξ : List Ty) (T : Ty) → TypAll Σ es Ξ (T ∷ []) → (N : ℕ) (c : ℕ → ℕ) (M : ℕ) (Θ : Context) (qs : Exprs) → Supplied Ξ N c M Θ es qs
        → (arms : Terms Name) (l : List (List Ty)) (C : Ty) → ((Δ : Context) → Supplied Ξ N c M Δ end qs → Limbs Σ (length Ξ) Δ arms l C)
        → Choice Σ (length Ξ) Θ (fan Ξ N c es) T arms l C
    derive_choice end Ξ T t N c M Θ qs u arms l C k = absurd t
    derive_choice (e then end) Ξ T t N c M Θ qs u arms l C k =
        let D = mine Ξ N c 0 e in
        Chosen _ T arms l C (λ x. parted (D x) (Θ x))
        (derives e Ξ T t.0 M (copy_for Ξ N c 1) (kept D Θ) (kept_ready Ξ N c M 0 Θ e (part_ready Ξ N c M Θ e end qs u)))
        (k (dropped D Θ) (rest_supplied Ξ N c M Θ e end qs u))
    derive_choice (e then (e₂ then es)) Ξ T t N c M Θ qs u arms l C k = absurd t.1

    derive_arms : (qs : Exprs) (l : List (List Ty)) (Ξ : List Ty) (B : Ty) → TypArms Σ qs l Ξ B → (N : ℕ) (c : ℕ → ℕ) (Θ : Context) → Ready Ξ N c Θ (λ v. names_any v qs)
        → Limbs Σ (length Ξ) Θ (renames (primed c) qs) l B
    derive_arms end [] Ξ B a N c Θ r = Stump B
    derive_arms end (b ∷ l) Ξ B a N c Θ r = absurd a
    derive_arms (q then qs) [] Ξ B a N c Θ r = absurd a
    derive_arms (q then qs) (b ∷ l) Ξ B a N c Θ r =
        Limb _ _ b l B
        (Binding b _ B (λ v h k. r.out v 0 h)
        (subst (λ (n : ℕ). Derives Σ n (extended (length Ξ) Θ b) (rename (primed c) q) B) (length-append Ξ b)
        (derives q (Ξ ++ b) B a.0 N c (extended (length Ξ) Θ b) (ready_arm b (ready_fewer (λ v p. or_left (names v q) _ p) r)))))
        (derive_arms qs l Ξ B a.1 N c Θ (ready_fewer (λ v p. or_right (names v q) _ p) r))

-- a body: the context has its parameters, without primes
pub typed_derivable : (Σ : List Fun) (As : List Ty) (e : Expr) (B : Ty) → Typ Σ e As B → Derivable Σ As e B
typed_derivable Σ As e B t =
    derives Σ e As B t 0 (λ v. 0) (extended 0 (λ _. none) As)
    (ready_arm {Ξ = []} {Θ = λ _. none} As (record { low = λ v. omega arith; bare = λ v l. refl; few = λ v i h. refl; out = λ v i l. refl; has = λ v l p. absurd (omega arith) }))
