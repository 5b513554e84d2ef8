-- Renaming twice is renaming once, and renaming each variable by itself changes nothing.
use Rattle.std.proofs.Common.{◌≡◌, refl, ap, ap₂}
use Rattle.lfpl.specs.Syntax.{HeadOf, var, call, const, apply, guard, mk_pair, case_pair, mk_left, mk_right, case_sum, mk_nil, mk_cons, case_list, mk_leaf, mk_node, case_tree, Term, Terms, expr, end, ◌then◌, rename_head, rename, renames}

-- a term by its head, parts and arms
pub expr_by : {X : Type 0} {h h' : HeadOf X} {ps ps' qs qs' : Terms X} → h ≡ h' → ps ≡ ps' → qs ≡ qs' → expr h ps qs ≡ expr h' ps' qs'
expr_by p q r = rw (p, q, r) refl

pub then_by : {X : Type 0} {e e' : Term X} {es es' : Terms X} → e ≡ e' → es ≡ es' → e then es ≡ e' then es'
then_by p q = ap₂ ◌then◌ p q

module _ {X Y Z : Type 0} (f : Y → Z) (g : X → Y) (k : X → Z) (via : (x : X) → f (g x) ≡ k x) where
  pub head_twice : (h : HeadOf X) → rename_head f (rename_head g h) ≡ rename_head k h
  head_twice (var x) = ap var (via x)
  head_twice (call i) = refl
  head_twice (const z) = refl
  head_twice (apply o) = refl
  head_twice guard = refl
  head_twice (mk_pair A) = refl
  head_twice case_pair = refl
  head_twice (mk_left A) = refl
  head_twice (mk_right A) = refl
  head_twice case_sum = refl
  head_twice (mk_nil A) = refl
  head_twice mk_cons = refl
  head_twice case_list = refl
  head_twice (mk_leaf A) = refl
  head_twice mk_node = refl
  head_twice case_tree = refl

  mutual
    pub rename_twice : (e : Term X) → rename f (rename g e) ≡ rename k e
    rename_twice (expr h ps qs) = expr_by (head_twice h) (renames_twice ps) (renames_twice qs)

    pub renames_twice : (es : Terms X) → renames f (renames g es) ≡ renames k es
    renames_twice end = refl
    renames_twice (e then es) = then_by (rename_twice e) (renames_twice es)

head_same : {X : Type 0} (h : HeadOf X) → rename_head (λ x. x) h ≡ h
head_same (var x) = refl
head_same (call i) = refl
head_same (const z) = refl
head_same (apply o) = refl
head_same guard = refl
head_same (mk_pair A) = refl
head_same case_pair = refl
head_same (mk_left A) = refl
head_same (mk_right A) = refl
head_same case_sum = refl
head_same (mk_nil A) = refl
head_same mk_cons = refl
head_same case_list = refl
head_same (mk_leaf A) = refl
head_same mk_node = refl
head_same case_tree = refl

mutual
  pub rename_same : {X : Type 0} (e : Term X) → rename (λ x. x) e ≡ e
  rename_same (expr h ps qs) = expr_by (head_same h) (renames_same ps) (renames_same qs)

  renames_same : {X : Type 0} (es : Terms X) → renames (λ x. x) es ≡ es
  renames_same end = refl
  renames_same (e then es) = then_by (rename_same e) (renames_same es)
