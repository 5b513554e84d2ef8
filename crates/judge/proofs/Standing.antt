-- What stands in the nodes of a listing.
use Rattle.std.proofs.Common.{Bor, ◌≡◌, ℕ, zero, suc, ◌+◌, ◌-◌, ◌<◌, ◌≤◌, List, [], ◌∷◌, ◌++◌, map, length, get_or, take, replicate, sym, refl, ap, ◌∙◌, subst, le_of_suc-le-suc, not-suc-le-zero, arith, length-append, length-take}
use lib.ListN.{length-map}
use Rattle.std.proofs.Math.ListN.{get_or-map}
use Rattle.std.proofs.lemmas.List.{get_or-take, drop_more, drop_all}
use Rattle.lfpl.specs.Reading.{Names, shape}
use Rattle.lfpl.specs.Syntax.{Ty, Expr, Exprs, expr, end, ◌then◌, size, sizes, Fun}
use Rattle.tables.specs.Listed.{Stands, stands, AllStand, all_end, all_more, head_of, InRange}
use Rattle.tables.specs.declared.listing.Kind.TheVariants as Kind
use Rattle.tables.specs.declared.listing.Listing.{Listing}
use Rattle.tables.specs.declared.listing.Node.{Node}
use Rattle.judge.specs.Judging.{listed_nodes, arms_from, counted}
use Rattle.typing.specs.Codes.{slot_type, slot_types}
use Rattle.typing.specs.Rules.{names_of, Short, AllShort, bound}
use Rattle.typing.specs.declared.codes.Slot as S
use Rattle.typing.specs.declared.rules.Rule.{Rule}

-- an expression takes as many nodes as it has expressions, and ends within the nodes
mutual
  pub extent : (ns : Names) (nodes : List Node) {n i j : ℕ} {e : Expr} → Stands ns nodes n i e j → (j ≡ i + size e) × (i < j) × (j ≤ length nodes)
  extent ns nodes (stands n i j k x ps qs inside at small range s t) =
      let p = extent_all ns nodes s in
      let q = extent_all ns nodes t in
      (omega arith, omega arith, omega arith)

  pub extent_all : (ns : Names) (nodes : List Node) {scopes : List ℕ} {i j : ℕ} {es : Exprs} → AllStand ns nodes scopes i es j → (j ≡ i + sizes es) × (i ≤ j) × (j ≤ length nodes)
  extent_all ns nodes (all_end i h) = (omega arith, omega arith, h)
  extent_all ns nodes (all_more n scopes i j k e es s t) =
      let p = extent ns nodes s in
      let q = extent_all ns nodes t in
      (omega arith, omega arith, omega arith)

pub stand_count : (ns : Names) (nodes : List Node) {scopes : List ℕ} {i j : ℕ} {es : Exprs} → AllStand ns nodes scopes i es j → counted es ≡ length scopes
stand_count ns nodes (all_end i h) = refl
stand_count ns nodes (all_more n scopes i j k e es s t) = let p = stand_count ns nodes t in omega arith

-- what is read outside the nodes
abbrev pub no_node : Node
no_node = record { kind = Kind.Variable; number = 0 }

-- what stands at a node
pub record AtNode (ts : List Ty) (fs : List Fun) (nodes : List Node) (x : Node) (n i : ℕ) (e : Expr) (k : ℕ) : Type 0 where
  pub parts : Exprs
  pub arms : Exprs
  pub middle : ℕ
  pub is : e ≡ expr (head_of ts x) parts arms
  pub inside : i < length nodes
  pub small : n ≤ 32
  pub range : InRange x.kind (names_of ts fs) n x.number
  pub parts_stand : AllStand (names_of ts fs) nodes (replicate (shape (names_of ts fs).arities (head_of ts x)).parts n) (i + 1) parts middle
  pub arms_stand : AllStand (names_of ts fs) nodes (map (λ b. n + b) (shape (names_of ts fs).arities (head_of ts x)).arms) middle arms k

at_listed : (ts : List Ty) (fs : List Fun) (nodes : List Node) (d : Node) {n i k : ℕ} {e : Expr} → Stands (names_of ts fs) nodes n i e k → AtNode ts fs nodes (get_or nodes i d) n i e k
at_listed ts fs nodes d (stands n i j k x ps qs inside at small range s t) =
    subst (λ (y : Node). AtNode ts fs nodes y n i (expr (head_of ts x) ps qs) k) (sym (at d))
    (record { parts = ps; arms = qs; middle = j; is = refl; inside = inside; small = small; range = range; parts_stand = s; arms_stand = t })

pub at_node : (l : Listing) (ts : List Ty) (fs : List Fun) (d : Node) {n i k : ℕ} {e : Expr} → Stands (names_of ts fs) (listed_nodes l) n i e k
    → AtNode ts fs (listed_nodes l) (get_or l.nodes i d) n i e k
at_node l ts fs d {n} {i} {k} {e} s =
    let a = at_listed ts fs (listed_nodes l) d s in
    let h = a.inside in
    let m = length-take l.expressions l.nodes in
    subst (λ (y : Node). AtNode ts fs (listed_nodes l) y n i e k) (get_or-take l.expressions l.nodes i d (omega arith)) a

-- the first of several
pub record AtFirst (ns : Names) (nodes : List Node) (n : ℕ) (scopes : List ℕ) (i : ℕ) (es : Exprs) (k : ℕ) : Type 0 where
  pub first : Expr
  pub rest : Exprs
  pub middle : ℕ
  pub is : es ≡ first then rest
  pub first_stands : Stands ns nodes n i first middle
  pub rest_stand : AllStand ns nodes scopes middle rest k

pub at_first : (ns : Names) (nodes : List Node) (n : ℕ) (scopes all : List ℕ) {i k : ℕ} {es : Exprs} → all ≡ n ∷ scopes → AllStand ns nodes all i es k → AtFirst ns nodes n scopes i es k
at_first ns nodes n scopes all e (all_end i h) = absurd (let z : ◌≡◌ {A = ℕ} 0 1 = cc in omega arith)
at_first ns nodes n scopes all e (all_more m rest i j k x es s t) =
    let p : m ≡ n = cc in
    let q : rest ≡ scopes = cc in
    record {
      first = x;
      rest = es;
      middle = j;
      is = refl;
      first_stands = subst (λ (y : ℕ). Stands ns nodes y i x j) p s;
      rest_stand = subst (λ (y : List ℕ). AllStand ns nodes y j es k) q t;
    }

pub at_none : (ns : Names) (nodes : List Node) (all : List ℕ) {i k : ℕ} {es : Exprs} → all ≡ [] → AllStand ns nodes all i es k → (es ≡ end) × (k ≡ i)
at_none ns nodes all e (all_end i h) = (refl, refl)
at_none ns nodes all e (all_more m rest i j k x es s t) = absurd (let z : ◌≡◌ {A = ℕ} 0 1 = cc in omega arith)

-- the scopes of parts and of arms, the first and the rest
pub parts_first : (c n : ℕ) → (c ≡ 0 → ⊥) → replicate c n ≡ n ∷ replicate (c - 1) n
parts_first zero n h = absurd (h refl)
parts_first (suc c) n h = ap (λ (x : ℕ). n ∷ replicate x n) (omega arith)

pub parts_none : (c n : ℕ) → c ≡ 0 → replicate c n ≡ []
parts_none c n h = ap (λ (x : ℕ). replicate x n) h

module _ (r : Rule) (full : length r.binds ≡ 2) (few : r.arms ≤ 2) (a : ℕ) where
  pub arms_first : (d : Bor (List S.Slot)) → a < r.arms → arms_from r a ≡ (get_or r.binds a d).now ∷ arms_from r (a + 1)
  arms_first d h =
      let n = length-map r.binds (λ b. b.now) in
      let m = length-take r.arms (bound r) in
      drop_more (take r.arms (bound r)) a d.now (omega arith)
      ∙ ap (λ (x : List S.Slot). x ∷ arms_from r (a + 1)) (get_or-take r.arms (bound r) a d.now h ∙ get_or-map (λ b. b.now) r.binds a d)

  pub arms_none : r.arms ≤ a → arms_from r a ≡ []
  arms_none h = let n = length-map r.binds (λ b. b.now) in let m = length-take r.arms (bound r) in drop_all a (take r.arms (bound r)) (omega arith)

-- the same place under an equation
pub all_at : (ns : Names) (nodes : List Node) (scopes : List ℕ) (es : Exprs) {i i' k : ℕ} → i' ≡ i → AllStand ns nodes scopes i es k → AllStand ns nodes scopes i' es k
all_at ns nodes scopes es {i} {i'} {k} p s = subst (λ (x : ℕ). AllStand ns nodes scopes x es k) (sym p) s

-- what is read outside the arms
abbrev pub no_slots : Bor (List S.Slot)
no_slots = record { ref_ptr = (0, 0); now = [] }

pub short_at : (xs : List (Bor (List S.Slot))) (a : ℕ) (d : Bor (List S.Slot)) → AllShort (map (λ b. b.now) xs) → a < length xs → Short (get_or xs a d).now
short_at [] a d h l = absurd (not-suc-le-zero l)
short_at (x ∷ xs) zero d h l = h.0
short_at (x ∷ xs) (suc a) d h l = short_at xs a d h.1 (le_of_suc-le-suc l)

-- an arm has as many variables more as its slots
pub bound_length : (A : Ty) (s : List S.Slot) → length (slot_types A s) ≡ length s
bound_length A s = length-map s (slot_type A)

pub in_scope : {ns : Names} {nodes : List Node} {m i k : ℕ} {e : Expr} (Γ b : List Ty) → length b ≡ m → Stands ns nodes (length Γ + m) i e k → Stands ns nodes (length (Γ ++ b)) i e k
in_scope {ns} {nodes} {m} {i} {k} {e} Γ b h s =
    let p = length-append Γ b in
    let z : length Γ + m ≡ length (Γ ++ b) = omega arith in
    subst (λ (x : ℕ). Stands ns nodes x i e k) z s

pub stands_small : (ns : Names) (nodes : List Node) {n i j : ℕ} {e : Expr} → Stands ns nodes n i e j → n ≤ 32
stands_small ns nodes (stands n i j k x ps qs inside at small range s t) = small
