-- Where expressions stand among the heads of the bodies in reading order.
use Rattle.std.proofs.Common.{◌≡◌, ℕ, zero, suc, ◌+◌, ◌<◌, List, [], ◌∷◌, ◌++◌, length, get_or, sym, refl, ap, ◌∙◌, subst, append_assoc, append-nil, le_of_suc-le-suc, not-suc-le-zero, zero-add, add-one, arith, length-append}
use mathlib.Core.Path.{subst⁻¹}
use Rattle.lfpl.specs.Syntax.{Head, Expr, Exprs, expr, end, ◌then◌, size, sizes, Fun}
use Rattle.lfpl.specs.Typing.{fun_at}
use Rattle.meaning.specs.Machine.{body_number}
use Rattle.meaning.specs.States.{heads, heads_all, flat, Stands}

-- an expression has as many heads as its size says
mutual
  size_heads : (e : Expr) → size e ≡ length (heads e)
  size_heads (expr h ps qs) = let a = sizes_heads ps in let b = sizes_heads qs in let c = length-append (heads_all ps) (heads_all qs) in omega arith

  sizes_heads : (es : Exprs) → sizes es ≡ length (heads_all es)
  sizes_heads end = refl
  sizes_heads (e then es) = let a = size_heads e in let b = sizes_heads es in let c = length-append (heads e) (heads_all es) in omega arith

module _ (table : List Head) where
  pub stands_left : (n : ℕ) (a b : List Head) → Stands table n (a ++ b) → Stands table n a
  stands_left n a b (l, r, e, h) = (l, b ++ r, e ∙ ap (λ (x : List Head). l ++ x) (append_assoc a b r), h)

  stands_right : (n m : ℕ) (a b : List Head) → length a ≡ m → Stands table n (a ++ b) → Stands table (n + m) b
  stands_right n m a b g (l, r, e, h) =
      (l ++ a, r, e ∙ (ap (λ (x : List Head). l ++ x) (append_assoc a b r) ∙ sym (append_assoc l a (b ++ r))), let k = length-append l a in omega arith)

  -- what comes after an expression
  pub stands_past : (n : ℕ) (e : Expr) (b : List Head) → Stands table n (heads e ++ b) → Stands table (n + size e) b
  stands_past n e b s = stands_right n (size e) (heads e) b (sym (size_heads e)) s

  -- an expression's own head, and what comes after it
  pub stands_head : (n : ℕ) (h : Head) (b : List Head) → Stands table n (h ∷ b) → Stands table n (h ∷ []) × Stands table (suc n) b
  stands_head n h b s =
      (stands_left n (h ∷ []) b s, subst (λ (k : ℕ). Stands table k b) (add-one n) (stands_right n 1 (h ∷ []) b refl s))

  stands_body : (fs : List Fun) (f c : ℕ) → f < length fs → Stands table c (flat fs) → Stands table (c + body_number fs f) (heads (fun_at fs f).body)
  stands_body [] f c l s = absurd (not-suc-le-zero l)
  stands_body (g ∷ fs) zero c l s = subst (λ (n : ℕ). Stands table n (heads g.body)) (omega arith) (stands_left c (heads g.body) (flat fs) s)
  stands_body (g ∷ fs) (suc f) c l s =
      subst (λ (n : ℕ). Stands table n (heads (fun_at fs f).body)) (omega arith)
      (stands_body fs f (c + size g.body) (le_of_suc-le-suc l) (stands_past c g.body (flat fs) s))

-- the bodies stand one after another
pub body_stands : (fs : List Fun) (f : ℕ) → f < length fs → Stands (flat fs) (body_number fs f) (heads (fun_at fs f).body)
body_stands fs f l =
    subst (λ (n : ℕ). Stands (flat fs) n (heads (fun_at fs f).body)) (zero-add (body_number fs f))
    (stands_body (flat fs) fs f 0 l ([], [], sym (append-nil (flat fs)), refl))

read_after : (l : List Head) (h : Head) (r : List Head) (d : Head) → get_or (l ++ (h ∷ r)) (length l) d ≡ h
read_after [] h r d = refl
read_after (x ∷ l) h r d = read_after l h r d

-- what stands first at a place is read there, and all of it lies in the table
pub stands_read : (table : List Head) (n : ℕ) (h : Head) (l : List Head) (d : Head) → Stands table n (h ∷ l)
    → (get_or table n d ≡ h) × (n + length l < length table)
stands_read table n h l d (b, a, e, g) = (
  subst (λ (k : ℕ). get_or table k d ≡ h) g (subst⁻¹ (λ (x : List Head). get_or x (length b) d ≡ h) e (read_after b h (l ++ a) d)),
  (let x : length table ≡ length (b ++ ((h ∷ l) ++ a)) = ap (λ (y : List Head). length y) e in
      let y = length-append b ((h ∷ l) ++ a) in
      let z = length-append (h ∷ l) a in
      omega arith),
)
