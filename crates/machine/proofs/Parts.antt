-- An expression begins, and its parts one after another.
use Rattle.std.proofs.Common.{◌≡◌, ℕ, suc, ◌+◌, ◌*◌, ◌<◌, ◌≤◌, Bool, true, false, ◌||◌, List, [], ◌∷◌, ◌++◌, length, get_or, refl, ap, ◌∙◌, subst, add-one, arith}
use mathlib.Core.Bool.{false≢true}
use Rattle.std.specs.List.{AllByRecursion}
use Rattle.std.proofs.lemmas.List.{length-append}
use Rattle.std.proofs.lemmas.Bool.{and_parts}
use Rattle.lfpl.specs.Judge.{count, parts_naming}
use Rattle.lfpl.specs.Syntax.{Ty, width, is_heap_free, Head, var, call, const, apply, guard, mk_pair, case_pair, mk_left, mk_right, case_sum, mk_nil, mk_cons, case_list, mk_leaf, mk_node, case_tree, Expr, Exprs, expr, end, ◌then◌, size, sizes, names, names_any, is_var, Fun}
use Rattle.lfpl.specs.Typing.{rule, type_at, fits}
use Rattle.lfpl.specs.Values.{Typed}
use Rattle.meaning.specs.Act.{types}
use Rattle.meaning.specs.Machine.{Frame, item}
use Rattle.meaning.specs.Mean.{Level, above, widths}
use Rattle.typing.specs.Scopes.{widths as type_widths}
use Rattle.pool.specs.Pools.{Meaning}
use Rattle.store.specs.Layout.{one, occ}
use Rattle.store.proofs.Moves.{occ_append}
use Rattle.code.specs.Nodes.{node_at}
use Rattle.code.specs.Standing.{Narrow, Sits, Stands, StandsAll, StandsArms}
use Rattle.code.specs.declared.Code.{Code}
use Rattle.acts.specs.Places.{cells_of, places, from, all, shift}
use Rattle.acts.proofs.Lying.{lies_less, lies_higher, Shared, cells_shared, widths_types}
use Rattle.machine.specs.Stepping.{onward}
use Rattle.machine.specs.Enacting.{nobody, Fixed, stage_cells, stack_cells, Going, Ready}
use Rattle.machine.specs.declared.Waiting.{Waiting}
use Rattle.machine.proofs.Framing.{stack_same}

-- an expression under way, of its parts
abbrev pub frame : ℕ → Head → List Typed → Level → List Typed → ℕ → Exprs → Exprs → Frame
frame n h env l vs c es qs = record { number = n; head = h; env = env; level = l; values = vs; coming = c; rest = es; arms = qs }

-- ---- widths

widths_of_append : (As Bs : List Ty) → type_widths (As ++ Bs) ≡ type_widths As + type_widths Bs
widths_of_append [] Bs = omega arith
widths_of_append (A ∷ As) Bs = omega (arith, widths_of_append As Bs)

narrow_widths : (As : List Ty) → AllByRecursion Narrow As → type_widths As ≤ 16 * length As
narrow_widths [] a = omega arith
narrow_widths (A ∷ As) (n, a) = omega (arith, n.low, narrow_widths As a)

-- parts done have no more than 96 words
pub done_widths : (vs : List Typed) (Bs : List Ty) → length (types vs ++ Bs) ≤ 6 → AllByRecursion Narrow (types vs ++ Bs) → widths vs ≤ 96
done_widths vs Bs few narrow = omega (arith, narrow_widths (types vs ++ Bs) narrow, widths_of_append (types vs) Bs, widths_types vs)

-- ---- who names what

pub or_left : (a b : Bool) → a ≡ true → a || b ≡ true
or_left a b e = rw e refl

pub or_right : (a b : Bool) → b ≡ true → a || b ≡ true
or_right true b e = refl
or_right false b e = e

one_count : (b : Bool) → one b ≡ count b
one_count true = refl
one_count false = refl

parts_name : (i : ℕ) (es : Exprs) → one (names_any i es) ≤ parts_naming i es
parts_name i end = omega arith
parts_name i (e then es) = or_one (names i e) (names_any i es) (parts_naming i es) (parts_name i es)
  where
    or_one : (a b : Bool) (n : ℕ) → one b ≤ n → one (a || b) ≤ count a + n
    or_one true b n l = omega arith
    or_one false b n l = omega arith

-- a variable that one part names, where no other may, is named by none to come
split_uses : (v e s q : Bool) (n : ℕ) → v ≡ false → one s ≤ n → (count e + n) + count q ≤ 1 → one e + one (v || (s || q)) ≤ one (v || ((e || s) || q))
split_uses v true true q n f l u = absurd (omega arith)
split_uses v true false true n f l u = absurd (omega arith)
split_uses v true false false n f l u = rw f (omega arith)
split_uses v false s q n f l u = omega arith

in_first : (v e s q : Bool) → e ≡ true → v || ((e || s) || q) ≡ true
in_first v e s q p = or_right v ((e || s) || q) (or_left (e || s) q (or_left e s p))

in_rest : (v e s q : Bool) → v || (s || q) ≡ true → v || ((e || s) || q) ≡ true
in_rest true e s q p = refl
in_rest false true s q p = refl
in_rest false false s q p = p

-- an expression with parts is no variable
no_var : (fs : List Fun) (Γ : List Ty) (h : Head) (As : List Ty) (i : ℕ) → fits (rule fs Γ h As) As ≡ true → 0 < length As → is_var i h ≡ false
no_var fs Γ (var j) [] i e l = absurd (omega arith)
no_var fs Γ (var j) (A ∷ As) i e l = absurd (false≢true (and_parts (rule fs Γ (var j) (A ∷ As)).test false e).1)
no_var fs Γ (call f) As i e l = refl
no_var fs Γ (const z) As i e l = refl
no_var fs Γ (apply o) As i e l = refl
no_var fs Γ guard As i e l = refl
no_var fs Γ (mk_pair A) As i e l = refl
no_var fs Γ case_pair As i e l = refl
no_var fs Γ (mk_left A) As i e l = refl
no_var fs Γ (mk_right A) As i e l = refl
no_var fs Γ case_sum As i e l = refl
no_var fs Γ (mk_nil A) As i e l = refl
no_var fs Γ mk_cons As i e l = refl
no_var fs Γ case_list As i e l = refl
no_var fs Γ (mk_leaf A) As i e l = refl
no_var fs Γ mk_node As i e l = refl
no_var fs Γ case_tree As i e l = refl

-- the variables' uses are shared out between a part and what comes after it
apart_shared : (env : List Typed) (need fst snd : ℕ → Bool) → ((i : ℕ) → i < length (types env) → is_heap_free (type_at (types env) i) ≡ false → one (fst i) + one (snd i) ≤ one (need i))
    → Shared need fst snd env
apart_shared [] need fst snd f = tt
apart_shared (x ∷ env) need fst snd f = (f 0 (omega arith), apart_shared env (shift need) (shift fst) (shift snd) (λ i l. f (suc i) (omega arith)))

-- ---- an expression begins

module _ (fs : List Fun) (code : Code) (R : Ty) (m : Meaning) (ws : List ℕ) (recs : List Waiting) (mine : List ℕ) where
  pub begin_ready : (r : Waiting) (n : ℕ) (h : Head) (es qs : Exprs) (env : List Typed) (l : Level) (K : List Frame) → l.words ≤ 8192 → l.height < 4096
      → r.number ≡ n → r.coming ≡ n + 1 → r.height ≡ l.height
      → Going fs code R m ws recs mine r.base r.dest (item n (expr h es qs) env l) K
      → Ready fs code R m ws recs mine r (frame n h env l [] (suc n) es qs) K
  begin_ready r n h es qs env l K low short rn rc rh g =
      let s = g.stands in
      let xs = cells_of m ws (λ j. names j (expr h es qs)) env (from r.base g.ps) in
      let ys = stack_cells fs code m ws recs K g.pss in
      record {
        ps = g.ps;
        pss = g.pss;
        type = g.type;
        stack = g.stack;
        owned = λ c. let o = g.owned c in omega (arith, occ_append c xs ys, occ_append c (xs ++ []) ys, occ_append c xs []);
        stage = record {
          variables = g.variables;
          values = tt;
          fixed = record {
            number = rn;
            coming = rc ∙ add-one n;
            height = rh;
            over = g.over;
            left = s.0;
            arm = s.1;
            low = low;
            short = short;
            based = g.based;
            down = g.down;
            long = g.long;
            sits = subst (λ a. Sits fs code n h (types env) g.ps g.over a s.0 s.1 g.type) (omega arith) s.2;
            apart = s.4;
            rest = subst (λ a. StandsAll fs code es a (types env) g.ps (g.over + 0 + 0) s.0) (add-one n) (subst (λ a. StandsAll fs code es (n + 1) (types env) g.ps a s.0) (omega arith) s.5);
            arms = subst (λ a. StandsArms fs code qs a (rule fs (types env) h s.0).arms (types env) g.ps g.over s.1) (omega arith) s.6;
          };
        };
      }

  -- the first of the parts to come
  pub first_part : (e : Expr) (es : Exprs) (n : ℕ) (Γ : List Ty) (ps : List ℕ) (o : ℕ) (l : List Ty) → StandsAll fs code (e then es) n Γ ps o l
      → (A : Ty) × (l' : List Ty) × (l ≡ A ∷ l') × Stands fs code e n Γ ps o A × StandsAll fs code es (n + size e) Γ ps (o + width A) l'
  first_part e es n Γ ps o [] s = absurd s
  first_part e es n Γ ps o (A ∷ l) s = (A, l, refl, s.0, s.1)

  -- what the code has at an expression's number
  pub stands_node : (e : Expr) (n : ℕ) (Γ : List Ty) (ps : List ℕ) (o : ℕ) (A : Ty) → Stands fs code e n Γ ps o A → ((node_at code n).over ≡ o) × ((node_at code n).end ≡ n + size e)
  stands_node (expr h es qs) n Γ ps o A s = (s.2.over, s.3)

  -- the next part begins
  pub part_going : (recs' : List Waiting) (r : Waiting) (n c : ℕ) (h : Head) (e : Expr) (es qs : Exprs) (env vs : List Typed) (l : Level) (K : List Frame)
      → get_or recs' (length K) nobody ≡ onward code r → ((i : ℕ) → i < length K → get_or recs' i nobody ≡ get_or recs i nobody)
      → Ready fs code R m ws recs mine r (frame n h env l vs c (e then es) qs) K
      → Going fs code R m ws recs' mine r.base (l.words + widths vs) (item c e env (above l vs)) (frame n h env l vs (c + size e) es qs ∷ K)
  part_going recs' r n c h e es qs env vs l K new old g =
      let f = g.stage.fixed in
      let o = f.over + widths vs + 0 in
      let z = first_part e es c (types env) g.ps o f.left f.rest in
      let A = z.0 in
      let node = stands_node e c (types env) g.ps o A z.3 in
      let nov : (i : ℕ) → is_var i h ≡ false = λ i. no_var fs (types env) h (types vs ++ f.left) i f.sits.fit (omega (arith, ap length z.2, length-append (types vs) f.left)) in
      let need : ℕ → Bool = λ i. names i (expr h (e then es) qs) in
      let here : ℕ → Bool = λ i. names i e in
      let later : ℕ → Bool = λ i. names i (expr h es qs) in
      let to_here : (i : ℕ) → here i ≡ true → need i ≡ true = λ i p. in_first (is_var i h) (names i e) (names_any i es) (names_any i qs) p in
      let to_later : (i : ℕ) → later i ≡ true → need i ≡ true = λ i p. in_rest (is_var i h) (names i e) (names_any i es) (names_any i qs) p in
      let ats = from r.base g.ps in
      let fixed' : Fixed fs code (onward code r) (frame n h env l vs (c + size e) es qs) g.ps (A ∷ []) g.type = record {
        number = f.number;
        coming = ap (λ i. (node_at code i).end) f.coming ∙ node.1;
        height = f.height;
        over = f.over;
        left = z.1;
        arm = f.arm;
        low = f.low;
        short = f.short;
        based = f.based;
        down = f.down;
        long = f.long;
        sits = subst (λ a. Sits fs code n h (types env) g.ps f.over a (types vs ++ (A ∷ z.1)) f.arm g.type) (omega arith)
            (subst (λ t. Sits fs code n h (types env) g.ps f.over (c + sizes (e then es)) (types vs ++ t) f.arm g.type) z.2 f.sits);
        apart = λ i p q. let a = f.apart i p q in omega arith;
        rest = subst (λ a. StandsAll fs code es (c + size e) (types env) g.ps a z.1) (omega arith) z.4;
        arms = subst (λ a. StandsArms fs code qs a (rule fs (types env) h (types vs ++ (A ∷ z.1))).arms (types env) g.ps f.over f.arm) (omega arith)
            (subst (λ t. StandsArms fs code qs (c + sizes (e then es)) (rule fs (types env) h (types vs ++ t)).arms (types env) g.ps f.over f.arm) z.2 f.arms);
      } in
      let st = stack_same fs code m m ws ws recs recs' K g.pss r.dest l.height g.type R (λ i p. refl) (λ d p. refl) old g.stack in
      record {
        ps = g.ps;
        pss = g.ps ∷ g.pss;
        over = o;
        type = A;
        stands = z.3;
        based = omega (arith, f.based);
        near = omega (arith, f.low, done_widths vs f.left f.sits.few f.sits.parts);
        high = omega (arith, f.short);
        down = omega arith;
        long = f.long;
        variables = lies_higher m ws l.words (l.words + widths vs) here env ats (omega arith) (lies_less m ws l.words need here env ats to_here g.stage.variables);
        stack = (g.type, rw new (record { fixed = fixed'; values = g.stage.values; variables = lies_less m ws l.words need later env ats to_later g.stage.variables }), refl, omega arith, rw new st.0);
        owned = λ d.
            let x = cells_of m ws need env ats in
            let x₁ = cells_of m ws here env ats in
            let x₂ = cells_of m ws later env ats in
            let y = cells_of m ws all vs (places l.words vs) in
            let w = stack_cells fs code m ws recs K g.pss in
            let w' = stack_cells fs code m ws recs' K g.pss in
            let sh = cells_shared m ws l.words d need here later env ats g.stage.variables to_here to_later
            (apart_shared env need here later (λ i p q. split_uses (is_var i h) (names i e) (names_any i es) (names_any i qs) (parts_naming i es) (nov i) (parts_name i es) (f.apart i p q))) in
            let k : stage_cells fs code m ws (get_or recs' (length K) nobody) (frame n h env l vs (c + size e) es qs) g.ps ≡ x₂ ++ y = rw new refl in
            rw k (omega (arith, g.owned d, occ_append d (x ++ y) w, occ_append d x y, occ_append d x₁ ((x₂ ++ y) ++ w'), occ_append d (x₂ ++ y) w', occ_append d x₂ y, ap (occ d) st.1));
      }
