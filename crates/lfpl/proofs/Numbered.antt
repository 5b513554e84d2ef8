-- What Hofmann's rules derive has a type by the table of rules. Every name is given a number, a copy that of its original; names of types that are not heap-free are
-- their own numbers. Contexts that are apart then share numbers of heap-free types only.
use Rattle.std.proofs.Common.{◌≡◌, ℕ, ◌+◌, ◌<◌, ◌≤◌, Bool, true, false, cond, ◌&&◌, eqb, List, [], ◌∷◌, ◌++◌, length, sym, refl, ap, ◌∙◌, subst, inl, inr, arith, length-append}
use mathlib.Core.Bool.{false≢true}
use mathlib.Core.Option.{Option, none, some}
use Rattle.std.proofs.lemmas.List.{get_or_append_left, get_or-append_right}
use Rattle.std.proofs.lemmas.Bool.{and_from, or_cases, cases_lt, lt-ltb, eqb-true}
use Rattle.lfpl.specs.Syntax.{Ty, int, diamond, list_of, tree_of, pair_of, sum_of, is_heap_free, same_ty, Head, is_var, call, const, apply, guard, mk_pair, case_pair, mk_left, mk_right, case_sum, mk_nil, mk_cons, case_list, mk_leaf, mk_node, case_tree, Term, Terms, Expr, Exprs, expr, end, ◌then◌, rename, renames, names, names_any, Fun}
use Rattle.lfpl.specs.Typing.{rule, fits, type_at, fun_at, same_tys}
use Rattle.lfpl.specs.Judge.{count, parts_naming}
use Rattle.lfpl.specs.Hofmann.{Name, same_name, plain, Context, Parted, nowhere, here, there, Union, with, extended, Free, Derives, Var, Sig, Contr, Const, InfixOp, If, Pair, Split, Inl, Inr, SumElim, Nil, Cons, ListElim, Leaf, Node, TreeElim, Derive, Zero, One, More, Under, Binding, Derivable}
use Rattle.lfpl.proofs.SameTypes.{same_refl, sames_refl}
use Rattle.lfpl.proofs.Typed.{Typ, TypAll, TypArms}
use Rattle.lfpl.proofs.Renamed.{rename_twice, rename_same}
use Rattle.lfpl.proofs.Sharing.{uses, count_positive, count_small, uses_named, once_unshared}
use Rattle.lfpl.proofs.Names.{no_some, some_inj, number_of, same_inv, same_self, Found, old, new, found}

in_left : {o o₁ o₂ : Option Ty} → Parted o o₁ o₂ → (A : Ty) → o₁ ≡ some A → o ≡ some A
in_left nowhere A p = p
in_left (here B) A p = p
in_left (there B) A p = no_some p

in_right : {o o₁ o₂ : Option Ty} → Parted o o₁ o₂ → (A : Ty) → o₂ ≡ some A → o ≡ some A
in_right nowhere A p = p
in_right (here B) A p = no_some p
in_right (there B) A p = p

not_both : {o o₁ o₂ : Option Ty} → Parted o o₁ o₂ → (A B : Ty) → o₁ ≡ some A → o₂ ≡ some B → ⊥
not_both nowhere A B p q = no_some p
not_both (here C) A B p q = no_some q
not_both (there C) A B p q = no_some p

-- the number v is that of a name in the context
abbrev Met : (Name → ℕ) → Context → ℕ → Type 0
Met φ Γ v = (x : Name) × (A : Ty) × (Γ x ≡ some A) × (φ x ≡ v)

-- the numbers where y has that of x
abbrev redirect : (Name → ℕ) → Name → Name → Name → ℕ
redirect φ x y z = φ (cond (same_name z y) x z)

-- The context's names have numbers of their types in the list. The numbers behind the list are those of the names without primes, which are bound later.
record Numbers (Ξ : List Ty) (φ : Name → ℕ) (Γ : Context) : Type 0 where
  within : (x : Name) (A : Ty) → Γ x ≡ some A → φ x < length Ξ
  has : (x : Name) (A : Ty) → Γ x ≡ some A → type_at Ξ (φ x) ≡ A
  heavy : (x : Name) (A : Ty) → Γ x ≡ some A → is_heap_free A ≡ false → x ≡ plain (φ x)
  later : (v : ℕ) → length Ξ ≤ v → φ (plain v) ≡ v

-- each number in use is met in the context, and used at most once if it is not heap-free
record Used (Ξ : List Ty) (φ : Name → ℕ) (Γ : Context) (u : ℕ → ℕ) : Type 0 where
  met : (v : ℕ) → v < length Ξ → 0 < u v → Met φ Γ v
  once : (v : ℕ) → v < length Ξ → is_heap_free (type_at Ξ v) ≡ false → u v ≤ 1

module _ (Ξ : List Ty) (φ : Name → ℕ) where
  used_fewer : {Γ : Context} (u w : ℕ → ℕ) → ((v : ℕ) → w v ≤ u v) → Used Ξ φ Γ u → Used Ξ φ Γ w
  used_fewer u w f k = record {
    met = λ v l p. k.met v l (let q = f v in omega arith);
    once = λ v l p. let q = f v in let r = k.once v l p in omega arith;
  }

  used_test : {Γ : Context} (s : ℕ → Bool) → ((v : ℕ) → v < length Ξ → s v ≡ true → Met φ Γ v) → Used Ξ φ Γ (λ v. count (s v))
  used_test s f = record { met = λ v l p. f v l (count_positive (s v) p); once = λ v l p. count_small (s v) }

  numbers_fewer : {Θ Γ : Context} → ((x : Name) (A : Ty) → Γ x ≡ some A → Θ x ≡ some A) → Numbers Ξ φ Θ → Numbers Ξ φ Γ
  numbers_fewer g f = record {
    within = λ x A p. f.within x A (g x A p);
    has = λ x A p. f.has x A (g x A p);
    heavy = λ x A p. f.heavy x A (g x A p);
    later = f.later;
  }

  module _ {Θ Γ Δ : Context} (j : Union Θ Γ Δ) (f : Numbers Ξ φ Θ) where
    left : Numbers Ξ φ Γ
    left = numbers_fewer (λ x A p. in_left (j x) A p) f

    right : Numbers Ξ φ Δ
    right = numbers_fewer (λ x A p. in_right (j x) A p) f

    -- a number met in both is heap-free
    apart : (v : ℕ) → is_heap_free (type_at Ξ v) ≡ false → Met φ Γ v → Met φ Δ v → ⊥
    apart v h (x, A, p, q) (y, B, r, s) = not_both (j x) A B p (ap Δ (own x A (in_left (j x) A p) q ∙ sym (own y B (in_right (j y) B r) s)) ∙ r)
      where
        own : (z : Name) (C : Ty) → Θ z ≡ some C → φ z ≡ v → z ≡ plain v
        own z C o e = f.heavy z C o (ap is_heap_free (sym (f.has z C o) ∙ ap (type_at Ξ) e) ∙ h) ∙ ap plain e

    used_plus : (u w : ℕ → ℕ) → Used Ξ φ Γ u → Used Ξ φ Δ w → Used Ξ φ Θ (λ v. u v + w v)
    used_plus u w k m = record {
      met = λ v l p. elim (cases_lt 0 (u v)) [
        | inl q ↦ let (x, A, r, s) = k.met v l q in (x, A, in_left (j x) A r, s)
        | inr q ↦ let (x, A, r, s) = m.met v l (omega arith) in (x, A, in_right (j x) A r, s)
      ];
      once = λ v l h. let a = k.once v l h in let b = m.once v l h in elim (cases_lt 0 (u v)) [
        | inl q ↦ elim (cases_lt 0 (w v)) [ inl r ↦ absurd (apart v h (k.met v l q) (m.met v l r)) | inr r ↦ omega arith ]
        | inr q ↦ omega arith
      ];
    }

numbers_arm : (Ξ Bs : List Ty) (φ : Name → ℕ) (n : ℕ) (Γ : Context) → length Ξ ≡ n → Numbers Ξ φ Γ → Numbers (Ξ ++ Bs) φ (extended n Γ Bs)
numbers_arm Ξ Bs φ n Γ k f = record {
  within = λ x A p. within' x A (found Bs n Γ x A p);
  has = λ x A p. has' x A (found Bs n Γ x A p);
  heavy = λ x A p. heavy' x A (found Bs n Γ x A p);
  later = λ v l. f.later v (let m = length-append Ξ Bs in omega arith);
}
  where
    number : (x : Name) (v : ℕ) → x ≡ plain v → n ≤ v → φ x ≡ v
    number x v e l = ap φ e ∙ f.later v (omega arith)

    within' : (x : Name) (A : Ty) → Found n Γ Bs x A → φ x < length (Ξ ++ Bs)
    within' x A (old q) = let h = f.within x A q in let m = length-append Ξ Bs in omega arith
    within' x A (new v e l h q) = let z = number x v e l in let m = length-append Ξ Bs in omega arith

    has' : (x : Name) (A : Ty) → Found n Γ Bs x A → type_at (Ξ ++ Bs) (φ x) ≡ A
    has' x A (old q) = get_or_append_left Ξ Bs int (φ x) (f.within x A q) ∙ f.has x A q
    has' x A (new v e l h q) = ap (type_at (Ξ ++ Bs)) (number x v e l) ∙ get_or-append_right Ξ Bs n v int k l ∙ q

    heavy' : (x : Name) (A : Ty) → Found n Γ Bs x A → is_heap_free A ≡ false → x ≡ plain (φ x)
    heavy' x A (old q) h = f.heavy x A q h
    heavy' x A (new v e l b q) h = e ∙ ap plain (sym (number x v e l))

-- a variable of the context that is met behind an arm's bindings is met in the context
met_arm : (Ξ Bs : List Ty) (φ : Name → ℕ) (n : ℕ) (Γ : Context) → length Ξ ≡ n → Numbers Ξ φ Γ → (v : ℕ) → v < n → Met φ (extended n Γ Bs) v → Met φ Γ v
met_arm Ξ Bs φ n Γ k f v b (x, A, p, q) = go (found Bs n Γ x A p)
  where
    go : Found n Γ Bs x A → Met φ Γ v
    go (old r) = (x, A, r, q)
    go (new w e l h r) = let z = f.later w (omega arith) in let y = ap φ e in absurd (omega arith)

numbers_contr : (Ξ : List Ty) (φ : Name → ℕ) (n : ℕ) (Γ : Context) (x y : Name) (A : Ty) → length Ξ ≡ n → is_heap_free A ≡ true → Free n y → Numbers Ξ φ (with Γ x A)
    → Numbers Ξ (redirect φ x y) (with (with Γ x A) y A)
numbers_contr Ξ φ n Γ x y A k light free f = record {
  within = λ z B p. within' z B (same_name z y) p;
  has = λ z B p. has' z B (same_name z y) p;
  heavy = λ z B p. heavy' z B (same_name z y) p;
  later = λ v l. later' v l (same_name (plain v) y) refl;
}
  where
    own : with Γ x A x ≡ some A
    own = rw (same_self x) refl

    within' : (z : Name) (B : Ty) (b : Bool) → cond b (some A) (with Γ x A z) ≡ some B → φ (cond b x z) < length Ξ
    within' z B true p = f.within x A own
    within' z B false p = f.within z B p

    has' : (z : Name) (B : Ty) (b : Bool) → cond b (some A) (with Γ x A z) ≡ some B → type_at Ξ (φ (cond b x z)) ≡ B
    has' z B true p = f.has x A own ∙ some_inj p
    has' z B false p = f.has z B p

    heavy' : (z : Name) (B : Ty) (b : Bool) → cond b (some A) (with Γ x A z) ≡ some B → is_heap_free B ≡ false → z ≡ plain (φ (cond b x z))
    heavy' z B true p h = absurd (false≢true (sym h ∙ ap is_heap_free (sym (some_inj p)) ∙ light))
    heavy' z B false p h = f.heavy z B p h

    later' : (v : ℕ) → length Ξ ≤ v → (b : Bool) → same_name (plain v) y ≡ b → φ (cond b x (plain v)) ≡ v
    later' v l true e = absurd (free v (omega arith) (sym (same_inv (plain v) y e)))
    later' v l false e = f.later v l

met_contr : (φ : Name → ℕ) (Γ : Context) (x y : Name) (A : Ty) (v : ℕ) → Met (redirect φ x y) (with (with Γ x A) y A) v → Met φ (with Γ x A) v
met_contr φ Γ x y A v (z, B, p, q) = go (same_name z y) p q
  where
    go : (b : Bool) → cond b (some A) (with Γ x A z) ≡ some B → φ (cond b x z) ≡ v → Met φ (with Γ x A) v
    go true r s = (x, A, rw (same_self x) refl, s)
    go false r s = (z, B, r, s)

module _ (Σ : List Fun) where
  -- an expression, where what it names is met in the context
  record Whole (Ξ : List Ty) (φ : Name → ℕ) (Γ : Context) (e : Expr) (A : Ty) : Type 0 where
    typ : Typ Σ e Ξ A
    met : (v : ℕ) → v < length Ξ → names v e ≡ true → Met φ Γ v

  -- parts, each with a context of its own
  record Parts (Ξ : List Ty) (φ : Name → ℕ) (Γ : Context) (es : Exprs) (As : List Ty) : Type 0 where
    typ : TypAll Σ es Ξ As
    used : Used Ξ φ Γ (λ v. parts_naming v es)

  -- an arm that binds variables of the types b
  record Arm (Ξ : List Ty) (φ : Name → ℕ) (Γ : Context) (b : List Ty) (e : Expr) (A : Ty) : Type 0 where
    typ : Typ Σ e (Ξ ++ b) A
    met : (v : ℕ) → v < length Ξ → names v e ≡ true → Met φ Γ v

  -- arms, all with the same context
  record Arms (Ξ : List Ty) (φ : Name → ℕ) (Γ : Context) (l : List (List Ty)) (es : Exprs) (A : Ty) : Type 0 where
    typ : TypArms Σ es l Ξ A
    met : (v : ℕ) → v < length Ξ → names_any v es ≡ true → Met φ Γ v

  module _ (Ξ : List Ty) (φ : Name → ℕ) where
    formed : {Γ : Context} (h : Head) (ps qs : Exprs) (As : List Ty) (B : Ty) → ((v : ℕ) → is_var v h ≡ false) → TypAll Σ ps Ξ As → fits (rule Σ Ξ h As) As ≡ true
        → TypArms Σ qs (rule Σ Ξ h As).arms Ξ B → Used Ξ φ Γ (λ v. uses v ps qs) → Whole Ξ φ Γ (expr h ps qs) ((rule Σ Ξ h As).whole B)
    formed h ps qs As B i t f a u = record {
      typ = (As, B, t, f, a, refl, once_unshared Ξ ps qs u.once);
      met = λ v l n. u.met v l (uses_named h ps qs v (i v) n);
    }

    building : {Γ : Context} (h : Head) (ps : Exprs) (As : List Ty) (C : Ty) → ((v : ℕ) → is_var v h ≡ false) → fits (rule Σ Ξ h As) As ≡ true
        → TypArms Σ end (rule Σ Ξ h As).arms Ξ C → Parts Ξ φ Γ ps As → Whole Ξ φ Γ (expr h ps end) ((rule Σ Ξ h As).whole C)
    building h ps As C i f a p = formed h ps end As C i p.typ f a (used_fewer Ξ φ (λ v. parts_naming v ps) (λ v. uses v ps end) (λ v. omega arith) p.used)

    no_parts : {Γ : Context} → Parts Ξ φ Γ end []
    no_parts = record { typ = tt; used = record { met = λ v l p. absurd (omega arith); once = λ v l p. omega arith } }

    one_part : {Γ : Context} {e : Expr} {A : Ty} → Whole Ξ φ Γ e A → Parts Ξ φ Γ (e then end) (A ∷ [])
    one_part {e = e} w = record {
      typ = (w.typ, tt);
      used = used_fewer Ξ φ (λ v. count (names v e)) (λ v. parts_naming v (e then end)) (λ v. omega arith) (used_test Ξ φ (λ v. names v e) w.met);
    }

    no_arms : {Γ : Context} {A : Ty} → Arms Ξ φ Γ [] end A
    no_arms = record { typ = tt; met = λ v l p. absurd (false≢true p) }

    next_arm : {Γ : Context} {b : List Ty} {l : List (List Ty)} {e : Expr} {es : Exprs} {A : Ty} → Arm Ξ φ Γ b e A → Arms Ξ φ Γ l es A → Arms Ξ φ Γ (b ∷ l) (e then es) A
    next_arm {e = e} {es = es} a r = record {
      typ = (a.typ, r.typ);
      met = λ v l p. elim (or_cases (names v e) (names_any v es) p) [ inl q ↦ a.met v l q | inr q ↦ r.met v l q ];
    }

    -- an arm that binds nothing
    bare : {Γ : Context} {e : Expr} {A : Ty} → Whole Ξ φ Γ e A → Arm Ξ φ Γ [] e A
    bare {e = e} {A = A} w = record { typ = subst (λ (l : List Ty). Typ Σ e l A) (sym (append_none Ξ)) w.typ; met = w.met }
      where
        append_none : (l : List Ty) → l ++ [] ≡ l
        append_none [] = refl
        append_none (B ∷ l) = ap (λ (r : List Ty). B ∷ r) (append_none l)

    module _ {Θ Γ Δ : Context} (j : Union Θ Γ Δ) (f : Numbers Ξ φ Θ) where
      next_part : {e : Expr} {es : Exprs} {A : Ty} {As : List Ty} → Whole Ξ φ Γ e A → Parts Ξ φ Δ es As → Parts Ξ φ Θ (e then es) (A ∷ As)
      next_part {e} {es} w p = record {
        typ = (w.typ, p.typ);
        used = used_plus Ξ φ j f (λ v. count (names v e)) (λ v. parts_naming v es) (used_test Ξ φ (λ v. names v e) w.met) p.used;
      }

      choosing : (h : Head) {e : Expr} {qs : Exprs} (A C : Ty) → ((v : ℕ) → is_var v h ≡ false) → fits (rule Σ Ξ h (A ∷ [])) (A ∷ []) ≡ true
          → Whole Ξ φ Γ e A → Arms Ξ φ Δ (rule Σ Ξ h (A ∷ [])).arms qs C → Whole Ξ φ Θ (expr h (e then end) qs) ((rule Σ Ξ h (A ∷ [])).whole C)
      choosing h {e} {qs} A C i t w a =
          formed h (e then end) qs (A ∷ []) C i (w.typ, tt) t a.typ
          (used_fewer Ξ φ (λ v. count (names v e) + count (names_any v qs)) (λ v. uses v (e then end) qs) (λ v. omega arith)
          (used_plus Ξ φ j f (λ v. count (names v e)) (λ v. count (names_any v qs)) (used_test Ξ φ (λ v. names v e) w.met) (used_test Ξ φ (λ v. names_any v qs) a.met)))

  -- a type of the right kind, and parts of the types wanted
  fit : (T : Ty) (As : List Ty) → (same_ty T T && same_tys As As) ≡ true
  fit T As = and_from _ _ (same_refl T) (sames_refl As)

  mutual
    whole : {n : ℕ} {Γ : Context} {t : Term Name} {B : Ty} → Derives Σ n Γ t B → (Ξ : List Ty) → length Ξ ≡ n → (φ : Name → ℕ) → Numbers Ξ φ Γ
        → Whole Ξ φ Γ (rename φ t) B
    whole (Var x A p) Ξ k φ f = record {
      typ = ([], int, tt, and_from _ _ (lt-ltb (φ x) (length Ξ) (f.within x A p)) refl, tt, f.has x A p, once_unshared Ξ end end (λ v l h. omega arith));
      met = λ v l n. elim (or_cases (eqb v (φ x)) false n) [ inl q ↦ (x, A, p, sym (eqb-true v (φ x) q)) | inr q ↦ absurd (false≢true q) ];
    }
    whole {Γ = Γ} (Sig g s es (b, e) ds) Ξ k φ f =
        subst (λ (r : Fun). Parts Ξ φ Γ (renames φ es) r.params → Whole Ξ φ Γ (expr (call g) (renames φ es) end) r.result) e
        (building Ξ φ (call g) (renames φ es) (fun_at Σ g).params int (λ v. refl) (and_from _ _ (lt-ltb g (length Σ) b) (sames_refl (fun_at Σ g).params)) tt)
        (parts ds Ξ k φ f)
    whole {n} {B = B} (Contr {Γ = Γ} e x y A _ fx fy ne px py light d) Ξ k φ f =
        let w = whole d Ξ k (redirect φ x y) (numbers_contr Ξ φ n Γ x y A k light fy f) in
        subst (λ (u : Expr). Whole Ξ φ (with Γ x A) u B) (sym (rename_twice φ (λ z. cond (same_name z y) x z) (redirect φ x y) (λ z. refl) e))
        (record { typ = w.typ; met = λ v l p. met_contr φ Γ x y A v (w.met v l p) })
    whole (Const z) Ξ k φ f = building Ξ φ (const z) end [] int (λ v. refl) refl tt (no_parts Ξ φ)
    whole (InfixOp o e₁ e₂ j d₁ d₂) Ξ k φ f =
        building Ξ φ (apply o) _ (int ∷ int ∷ []) int (λ v. refl) refl tt
        (next_part Ξ φ j f (whole d₁ Ξ k φ (left Ξ φ j f)) (one_part Ξ φ (whole d₂ Ξ k φ (right Ξ φ j f))))
    whole (If e e₁ e₂ A j d d₁ d₂) Ξ k φ f =
        let g = right Ξ φ j f in
        choosing Ξ φ j f guard int A (λ v. refl) refl (whole d Ξ k φ (left Ξ φ j f))
        (next_arm Ξ φ (bare Ξ φ (whole d₁ Ξ k φ g)) (next_arm Ξ φ (bare Ξ φ (whole d₂ Ξ k φ g)) (no_arms Ξ φ)))
    whole (Pair e₁ e₂ A B j d₁ d₂) Ξ k φ f =
        building Ξ φ (mk_pair (pair_of A B)) _ (A ∷ B ∷ []) int (λ v. refl) (fit (pair_of A B) (A ∷ B ∷ [])) tt
        (next_part Ξ φ j f (whole d₁ Ξ k φ (left Ξ φ j f)) (one_part Ξ φ (whole d₂ Ξ k φ (right Ξ φ j f))))
    whole (Split e e₁ A B C j d u) Ξ k φ f =
        choosing Ξ φ j f case_pair (pair_of A B) C (λ v. refl) (fit (pair_of A B) (pair_of A B ∷ [])) (whole d Ξ k φ (left Ξ φ j f))
        (next_arm Ξ φ (arm u Ξ k φ (right Ξ φ j f)) (no_arms Ξ φ))
    whole (Inl e A B d) Ξ k φ f =
        building Ξ φ (mk_left (sum_of A B)) _ (A ∷ []) int (λ v. refl) (fit (sum_of A B) (A ∷ [])) tt (one_part Ξ φ (whole d Ξ k φ f))
    whole (Inr e A B d) Ξ k φ f =
        building Ξ φ (mk_right (sum_of A B)) _ (B ∷ []) int (λ v. refl) (fit (sum_of A B) (B ∷ [])) tt (one_part Ξ φ (whole d Ξ k φ f))
    whole (SumElim e e₁ e₂ A B C j d u₁ u₂) Ξ k φ f =
        let g = right Ξ φ j f in
        choosing Ξ φ j f case_sum (sum_of A B) C (λ v. refl) (fit (sum_of A B) (sum_of A B ∷ [])) (whole d Ξ k φ (left Ξ φ j f))
        (next_arm Ξ φ (arm u₁ Ξ k φ g) (next_arm Ξ φ (arm u₂ Ξ k φ g) (no_arms Ξ φ)))
    whole (Nil A) Ξ k φ f = building Ξ φ (mk_nil (list_of A)) end [] int (λ v. refl) (fit (list_of A) []) tt (no_parts Ξ φ)
    whole (Cons e₁ e₂ e₃ A ds) Ξ k φ f =
        building Ξ φ mk_cons _ (diamond ∷ A ∷ list_of A ∷ []) int (λ v. refl) (fit (list_of A) (diamond ∷ A ∷ list_of A ∷ [])) tt (parts ds Ξ k φ f)
    whole (ListElim e e₁ e₂ A C j d d₁ u₂) Ξ k φ f =
        let g = right Ξ φ j f in
        choosing Ξ φ j f case_list (list_of A) C (λ v. refl) (fit (list_of A) (list_of A ∷ [])) (whole d Ξ k φ (left Ξ φ j f))
        (next_arm Ξ φ (bare Ξ φ (whole d₁ Ξ k φ g)) (next_arm Ξ φ (arm u₂ Ξ k φ g) (no_arms Ξ φ)))
    whole (Leaf e A d) Ξ k φ f =
        building Ξ φ (mk_leaf (tree_of A)) _ (A ∷ []) int (λ v. refl) (fit (tree_of A) (A ∷ [])) tt (one_part Ξ φ (whole d Ξ k φ f))
    whole (Node e₁ e₂ e₃ e₄ e₅ A ds) Ξ k φ f =
        building Ξ φ mk_node _ (diamond ∷ diamond ∷ A ∷ tree_of A ∷ tree_of A ∷ []) int (λ v. refl)
        (fit (tree_of A) (diamond ∷ diamond ∷ A ∷ tree_of A ∷ tree_of A ∷ [])) tt (parts ds Ξ k φ f)
    whole (TreeElim e e₁ e₂ A C j d u₁ u₂) Ξ k φ f =
        let g = right Ξ φ j f in
        choosing Ξ φ j f case_tree (tree_of A) C (λ v. refl) (fit (tree_of A) (tree_of A ∷ [])) (whole d Ξ k φ (left Ξ φ j f))
        (next_arm Ξ φ (arm u₁ Ξ k φ g) (next_arm Ξ φ (arm u₂ Ξ k φ g) (no_arms Ξ φ)))

    parts : {n : ℕ} {Γ : Context} {ts : Terms Name} {As : List Ty} → Derive Σ n Γ ts As → (Ξ : List Ty) → length Ξ ≡ n → (φ : Name → ℕ) → Numbers Ξ φ Γ
        → Parts Ξ φ Γ (renames φ ts) As
    parts Zero Ξ k φ f = no_parts Ξ φ
    parts (One e A d) Ξ k φ f = one_part Ξ φ (whole d Ξ k φ f)
    parts (More e e₂ es A A₂ As j d ds) Ξ k φ f = next_part Ξ φ j f (whole d Ξ k φ (left Ξ φ j f)) (parts ds Ξ k φ (right Ξ φ j f))

    arm : {n : ℕ} {Γ : Context} {Bs : List Ty} {t : Term Name} {C : Ty} → Under Σ n Γ Bs t C → (Ξ : List Ty) → length Ξ ≡ n → (φ : Name → ℕ) → Numbers Ξ φ Γ
        → Arm Ξ φ Γ Bs (rename φ t) C
    arm {n} {Γ} (Binding Bs e A fresh d) Ξ k φ f =
        let m = length-append Ξ Bs in
        let w = whole d (Ξ ++ Bs) (omega arith) φ (numbers_arm Ξ Bs φ n Γ k f) in
        record { typ = w.typ; met = λ v l p. met_arm Ξ Bs φ n Γ k f v (omega arith) (w.met v (omega arith) p) }

-- a body: its parameters are their own numbers
pub derivable_typed : (Σ : List Fun) (As : List Ty) (e : Expr) (B : Ty) → Derivable Σ As e B → Typ Σ e As B
derivable_typed Σ As e B d =
    subst (λ (u : Expr). Typ Σ u As B) (rename_twice number_of plain (λ v. v) (λ v. refl) e ∙ rename_same e)
    (whole Σ d As refl number_of (numbers_arm [] As number_of 0 (λ _. none) refl
    (record { within = λ x A p. no_some p; has = λ x A p. no_some p; heavy = λ x A p. no_some p; later = λ v l. refl }))).typ
