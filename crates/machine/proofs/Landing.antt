-- A value comes back, and what an expression does once its parts are done keeps the relation.
use Rattle.std.proofs.Common.{◌≡◌, ℕ, zero, suc, ◌+◌, ◌<◌, ◌≤◌, Bool, true, false, ◌||◌, List, [], ◌∷◌, ◌++◌, length, get_or, sym, refl, ap, ◌∙◌, subst, add-zero, arith}
use Rattle.std.specs.List.{AllByRecursion}
use Rattle.std.proofs.lemmas.List.{length-append, append_assoc, append-nil}
use Rattle.std.proofs.lemmas.Bool.{leb-true}
use Rattle.lfpl.specs.Syntax.{Ty, int, diamond, list_of, tree_of, pair_of, sum_of, width, Head, var, call, const, apply, guard, mk_pair, case_pair, mk_left, mk_right, case_sum, mk_nil, mk_cons, case_list, mk_leaf, mk_node, case_tree, Expr, Exprs, expr, end, ◌then◌, size, sizes, names, names_any, is_var, Fun}
use Rattle.lfpl.specs.Typing.{rule, type_at, fun_at, opened}
use Rattle.lfpl.specs.Values.{Typed}
use Rattle.meaning.specs.Act.{types}
use Rattle.meaning.specs.Machine.{Frame, item, joined, arm_at, yields, body_number, body}
use Rattle.meaning.specs.Mean.{Level, above, body_level, widths}
use Rattle.typing.specs.Scopes.{widths as type_widths, offsets}
use Rattle.pool.specs.Pools.{Meaning}
use Rattle.store.specs.Layout.{occ, footprint}
use Rattle.store.proofs.Moves.{occ_append}
use Rattle.code.specs.Nodes.{node_at}
use Rattle.code.specs.Standing.{Narrow, Sits, Stands, StandsAll, StandsArms}
use Rattle.code.specs.declared.Code.{Code}
use Rattle.code.specs.declared.Next.{Next}
use Rattle.acts.specs.Places.{Lies, cells_of, places, from, all}
use Rattle.acts.specs.Settling.{Settles, Gave, Chose, Entered, value_cells}
use Rattle.acts.proofs.Lying.{lies_same, lies_less, lies_higher, lies_append, cells_append, cells_less, types_append, widths_append, widths_types, places_append, length_places, from_append, length_from, places_from, length_offsets}
use Rattle.machine.specs.Enacting.{nobody, named, Fixed, stage_cells, Stack, stack_cells, Going, Back, Ready}
use Rattle.machine.specs.declared.Waiting.{Waiting}
use Rattle.machine.proofs.Framing.{below_less, stack_same}
use Rattle.machine.proofs.Parts.{frame, stands_node, or_left, or_right, done_widths}

-- no part is to come
no_more : (fs : List Fun) (code : Code) (n : ℕ) (Γ : List Ty) (ps : List ℕ) (o : ℕ) (l : List Ty) → StandsAll fs code end n Γ ps o l → l ≡ []
no_more fs code n Γ ps o [] s = refl
no_more fs code n Γ ps o (A ∷ l) s = absurd s

-- ---- a value comes back

module _ (fs : List Fun) (code : Code) (R : Ty) (m : Meaning) (ws : List ℕ) (recs : List Waiting) (mine : List ℕ) where
  back_fixed : (r : Waiting) (k : Frame) (v : Typed) (ps : List ℕ) (W : Ty) → Fixed fs code r k ps (v.type ∷ []) W → Fixed fs code r (joined k v) ps [] W
  back_fixed r k v ps W f =
      let vs = k.values in
      let e : types vs ++ ((v.type ∷ []) ++ f.left) ≡ types (vs ++ (v ∷ [])) ++ f.left = sym (append_assoc (types vs) (v.type ∷ []) f.left) ∙ ap (λ l. l ++ f.left) (sym (types_append vs (v ∷ []))) in
      record {
        number = f.number;
        coming = f.coming;
        height = f.height;
        over = f.over;
        left = f.left;
        arm = f.arm;
        low = f.low;
        short = f.short;
        based = f.based;
        down = f.down;
        long = f.long;
        apart = f.apart;
        sits = subst (λ l. Sits fs code k.number k.head (types k.env) ps f.over (k.coming + sizes k.rest) l f.arm W) e f.sits;
        rest = subst (λ n. StandsAll fs code k.rest k.coming (types k.env) ps n f.left) (omega (arith, widths_append vs (v ∷ []))) f.rest;
        arms = subst (λ l. StandsArms fs code k.arms (k.coming + sizes k.rest) (rule fs (types k.env) k.head l).arms (types k.env) ps f.over f.arm) e f.arms;
      }

  -- the value is one more part done, where it lies
  pub back_ready : (v : Typed) (k : Frame) (K : List Frame) → Back fs code R m ws recs mine v (k ∷ K) → Ready fs code R m ws recs mine (get_or recs (length K) nobody) (joined k v) K
  back_ready v k K b = go b.pss b.stack b.owned
    where
      go : (pss : List (List ℕ)) → Stack fs code m ws recs (k ∷ K) pss b.top b.up v.type R
          → ((c : ℕ) → occ c (footprint m v.type v.value ws b.top ++ stack_cells fs code m ws recs (k ∷ K) pss) ≤ occ c mine)
          → Ready fs code R m ws recs mine (get_or recs (length K) nobody) (joined k v) K
      go [] s o = absurd s
      go (ps ∷ pss) s o =
          let r = get_or recs (length K) nobody in
          let vs = k.values in
          let l = k.level.words in
          let u = footprint m v.type v.value ws b.top in
          let x = cells_of m ws (named k) k.env (from r.base ps) in
          let y = cells_of m ws all vs (places l vs) in
          let z = stack_cells fs code m ws recs K pss in
          let pe = places_append l vs (v ∷ []) in
          let ev : cells_of m ws all (vs ++ (v ∷ [])) (places l (vs ++ (v ∷ []))) ≡ y ++ (u ++ []) =
          ap (λ t. cells_of m ws all (vs ++ (v ∷ [])) t) pe ∙ cells_append m ws all vs (v ∷ []) (places l vs) (places (l + widths vs) (v ∷ [])) (length_places l vs)
          ∙ ap (λ (t : ℕ). y ++ (footprint m v.type v.value ws t ++ [])) (sym s.2) in
          record {
            ps = ps;
            pss = pss;
            type = s.0;
            stack = s.4;
            owned = λ c. rw ev (omega (arith, o c, occ_append c u ((x ++ y) ++ z), occ_append c (x ++ y) z, occ_append c x y, occ_append c (x ++ (y ++ (u ++ []))) z, occ_append c x (y ++ (u ++ [])), occ_append c y (u ++ []), occ_append c u []));
            stage = record {
              fixed = back_fixed r k v ps s.0 s.1.fixed;
              variables = s.1.variables;
              values = subst (λ t. Lies m ws (l + widths (vs ++ (v ∷ []))) all (vs ++ (v ∷ [])) t) (sym pe)
                  (lies_append m ws (l + widths (vs ++ (v ∷ []))) all vs (v ∷ []) (places l vs) (places (l + widths vs) (v ∷ [])) (length_places l vs)
                  (lies_higher m ws (l + widths vs) (l + widths (vs ++ (v ∷ []))) all vs (places l vs) (omega (arith, widths_append vs (v ∷ []))) s.1.values)
                  (λ q. record { shows = rw (sym s.2) b.shows; below = omega (arith, widths_append vs (v ∷ [])) }, tt));
            };
          }

-- ---- what an arm binds

narrow_at : (As : List Ty) (i : ℕ) → AllByRecursion Narrow As → Narrow (type_at As i)
narrow_at [] i a = record { low = omega arith; element = refl }
narrow_at (A ∷ As) zero (n, a) = n
narrow_at (A ∷ As) (suc i) (n, a) = narrow_at As i a

opened_widths : (A : Ty) (i : ℕ) → Narrow A → type_widths (get_or (opened A) i []) ≤ 96
opened_widths int zero n = omega arith
opened_widths int (suc zero) n = omega arith
opened_widths int (suc (suc i)) n = omega arith
opened_widths diamond i n = omega arith
opened_widths (list_of A) zero n = omega arith
opened_widths (list_of A) (suc zero) n = omega (arith, leb-true (width A) 15 n.element)
opened_widths (list_of A) (suc (suc i)) n = omega arith
opened_widths (tree_of A) zero n = omega (arith, n.low)
opened_widths (tree_of A) (suc zero) n = omega (arith, n.low)
opened_widths (tree_of A) (suc (suc i)) n = omega arith
opened_widths (pair_of A B) zero n = omega (arith, n.low)
opened_widths (pair_of A B) (suc i) n = omega arith
opened_widths (sum_of A B) zero n = omega (arith, n.low)
opened_widths (sum_of A B) (suc zero) n = omega (arith, n.low)
opened_widths (sum_of A B) (suc (suc i)) n = omega arith

-- at most 96 words
arm_widths : (fs : List Fun) (Γ : List Ty) (h : Head) (As : List Ty) (i : ℕ) → AllByRecursion Narrow As → type_widths (get_or (rule fs Γ h As).arms i []) ≤ 96
arm_widths fs Γ (var j) As i a = omega arith
arm_widths fs Γ (call f) As i a = omega arith
arm_widths fs Γ (const z) As i a = omega arith
arm_widths fs Γ (apply o) As i a = omega arith
arm_widths fs Γ guard As i a = opened_widths int i (record { low = omega arith; element = refl })
arm_widths fs Γ (mk_pair A) As i a = omega arith
arm_widths fs Γ case_pair As i a = opened_widths (type_at As 0) i (narrow_at As 0 a)
arm_widths fs Γ (mk_left A) As i a = omega arith
arm_widths fs Γ (mk_right A) As i a = omega arith
arm_widths fs Γ case_sum As i a = opened_widths (type_at As 0) i (narrow_at As 0 a)
arm_widths fs Γ (mk_nil A) As i a = omega arith
arm_widths fs Γ mk_cons As i a = omega arith
arm_widths fs Γ case_list As i a = opened_widths (type_at As 0) i (narrow_at As 0 a)
arm_widths fs Γ (mk_leaf A) As i a = omega arith
arm_widths fs Γ mk_node As i a = omega arith
arm_widths fs Γ case_tree As i a = opened_widths (type_at As 0) i (narrow_at As 0 a)

-- the whole has the arms' type
whole_arm : (fs : List Fun) (Γ : List Ty) (h : Head) (As : List Ty) (j : ℕ) (B : Ty) → j < length (rule fs Γ h As).arms → (rule fs Γ h As).whole B ≡ B
whole_arm fs Γ (var i) As j B l = absurd (omega arith)
whole_arm fs Γ (call f) As j B l = absurd (omega arith)
whole_arm fs Γ (const z) As j B l = absurd (omega arith)
whole_arm fs Γ (apply o) As j B l = absurd (omega arith)
whole_arm fs Γ guard As j B l = refl
whole_arm fs Γ (mk_pair A) As j B l = absurd (omega arith)
whole_arm fs Γ case_pair As j B l = refl
whole_arm fs Γ (mk_left A) As j B l = absurd (omega arith)
whole_arm fs Γ (mk_right A) As j B l = absurd (omega arith)
whole_arm fs Γ case_sum As j B l = refl
whole_arm fs Γ (mk_nil A) As j B l = absurd (omega arith)
whole_arm fs Γ mk_cons As j B l = absurd (omega arith)
whole_arm fs Γ case_list As j B l = refl
whole_arm fs Γ (mk_leaf A) As j B l = absurd (omega arith)
whole_arm fs Γ mk_node As j B l = absurd (omega arith)
whole_arm fs Γ case_tree As j B l = refl

module _ (fs : List Fun) (code : Code) where
  -- every body stands in the code
  abbrev pub Bodies : Type 0
  Bodies = (f : ℕ) → f < length fs → Stands fs code (fun_at fs f).body (body_number fs f) (fun_at fs f).params (offsets 0 (fun_at fs f).params) (type_widths (fun_at fs f).params) (fun_at fs f).result

  -- the number of the arm at a place, from that of the first
  abbrev pub arm_number : ℕ → ℕ → ℕ
  arm_number c zero = c
  arm_number c (suc j) = arm_number (node_at code c).end j

  -- the arm at a place of arms that stand from c on
  pub record Arm (qs : Exprs) (j c : ℕ) (b : List Ty) (Γ : List Ty) (ps : List ℕ) (o : ℕ) (B : Ty) : Type 0 where
    pub term : Expr
    pub stands : Stands fs code term (arm_number c j) (Γ ++ b) (ps ++ offsets o b) (o + type_widths b) B
    pub among : (i : ℕ) → names i term ≡ true → names_any i qs ≡ true
    pub begins : (env : List Typed) (l : Level) → arm_at qs j c env l ≡ yields (item (arm_number c j) term env l)

  pub the_arm_at : (qs : Exprs) (j c : ℕ) (bs : List (List Ty)) (Γ : List Ty) (ps : List ℕ) (o : ℕ) (B : Ty) → j < length bs → StandsArms fs code qs c bs Γ ps o B → Arm qs j c (get_or bs j []) Γ ps o B
  the_arm_at end j c [] Γ ps o B l s = absurd (omega arith)
  the_arm_at end j c (b ∷ bs) Γ ps o B l s = absurd s
  the_arm_at (q then qs) j c [] Γ ps o B l s = absurd s
  the_arm_at (q then qs) zero c (b ∷ bs) Γ ps o B l s = record { term = q; stands = s.0; among = λ i p. or_left (names i q) (names_any i qs) p; begins = λ env l. refl }
  the_arm_at (q then qs) (suc j) c (b ∷ bs) Γ ps o B l s =
      let n = (stands_node fs code B (record { cells = []; free = 0 }) [] [] [] q c (Γ ++ b) (ps ++ offsets o b) (o + type_widths b) B s.0).1 in
      let t = the_arm_at qs j (c + size q) bs Γ ps o B (omega arith) s.1 in
      let e : arm_number (c + size q) j ≡ arm_number (node_at code c).end j = ap (λ x. arm_number x j) (sym n) in
      record {
        term = t.term;
        stands = subst (λ x. Stands fs code t.term x (Γ ++ get_or bs j []) (ps ++ offsets o (get_or bs j [])) (o + type_widths (get_or bs j [])) B) e t.stands;
        among = λ i p. or_right (names i q) (names_any i qs) (t.among i p);
        begins = λ env l. t.begins env l ∙ ap (λ x. yields (item x t.term env l)) e;
      }

-- ---- what comes of an expression whose parts are done

stack_over : (fs : List Fun) (code : Code) (m : Meaning) (ws : List ℕ) (recs : List Waiting) (K : List Frame) (pss : List (List ℕ)) (top up up' : ℕ) (T R : Ty) → up ≤ up'
    → Stack fs code m ws recs K pss top up T R → Stack fs code m ws recs K pss top up' T R
stack_over fs code m ws recs [] pss top up up' T R l s = s
stack_over fs code m ws recs (k ∷ K) [] top up up' T R l s = absurd s
stack_over fs code m ws recs (k ∷ K) (ps ∷ pss) top up up' T R l s = (s.0, s.1, s.2, omega (arith, s.3), s.4)

-- so many wait as are lower
pub stack_depth : (fs : List Fun) (code : Code) (m : Meaning) (ws : List ℕ) (recs : List Waiting) (K : List Frame) (pss : List (List ℕ)) (top up : ℕ) (T R : Ty)
    → Stack fs code m ws recs K pss top up T R → length K ≤ up
stack_depth fs code m ws recs [] pss top up T R s = omega arith
stack_depth fs code m ws recs (k ∷ K) [] top up T R s = absurd s
stack_depth fs code m ws recs (k ∷ K) (ps ∷ pss) top up T R s = omega (arith, s.3, stack_depth fs code m ws recs K pss (get_or recs (length K) nobody).dest k.level.height s.0 R s.4)

module _ (fs : List Fun) (code : Code) (R : Ty) (m : Meaning) (ws : List ℕ) (recs : List Waiting) (mine : List ℕ) (once : (c : ℕ) → occ c mine ≤ 1) (long : length ws ≡ 8288)
    (r : Waiting) (n c : ℕ) (h : Head) (qs : Exprs) (env vs : List Typed) (l : Level) (K : List Frame) (g : Ready fs code R m ws recs mine r (frame n h env l vs c end qs) K) where
  -- its types are those of the parts done
  all_done : types vs ++ g.stage.fixed.left ≡ types vs
  all_done =
      let f = g.stage.fixed in
      ap (λ t. types vs ++ t) (no_more fs code c (types env) g.ps (f.over + widths vs + 0) f.left f.rest) ∙ append-nil (types vs)

  pub sits : Sits fs code n h (types env) g.ps g.stage.fixed.over (c + 0) (types vs) g.stage.fixed.arm g.type
  sits = let f = g.stage.fixed in subst (λ t. Sits fs code n h (types env) g.ps f.over (c + 0) t f.arm g.type) all_done f.sits

  arms : StandsArms fs code qs c (rule fs (types env) h (types vs)).arms (types env) g.ps g.stage.fixed.over g.stage.fixed.arm
  arms =
      let f = g.stage.fixed in
      subst (λ a. StandsArms fs code qs a (rule fs (types env) h (types vs)).arms (types env) g.ps f.over f.arm) (add-zero c)
      (subst (λ t. StandsArms fs code qs (c + 0) (rule fs (types env) h t).arms (types env) g.ps f.over f.arm) all_done f.arms)

  abbrev pub at : ℕ
  at = l.words

  pub settles : Settles fs m ws r.base at r.dest h qs env vs g.ps g.stage.fixed.arm g.type
  settles =
      let f = g.stage.fixed in
      let x = stage_cells fs code m ws r (frame n h env l vs c end qs) g.ps in
      let z = stack_cells fs code m ws recs K g.pss in
      record {
        fit = sits.fit;
        whole = sits.whole;
        parts = sits.parts;
        narrow = sits.narrow;
        long = f.long;
        variables = g.stage.variables;
        values = g.stage.values;
        once = λ d. omega (arith, g.owned d, once d, occ_append d x z);
        high = omega (arith, f.low, long);
        low = omega (arith, long);
        down = f.down;
      }

  module _ (next : Next) (m' : Meaning) (ys : List ℕ) where
    -- it gives a value
    pub gave_back : (v : Typed) → Gave fs m ws r.base at r.dest h qs env vs g.ps g.type next m' ys v → Back fs code R m' ys recs mine v K
    gave_back v a =
        let x = stage_cells fs code m ws r (frame n h env l vs c end qs) g.ps in
        let z = stack_cells fs code m ws recs K g.pss in
        let u = footprint m' v.type v.value ys r.dest in
        let st = stack_same fs code m m' ws ys recs recs K g.pss r.dest l.height g.type R a.above.below (λ d q. a.still d (omega (arith, g.owned d, once d, occ_append d x z))) (λ i q. refl) g.stack in
        let z' = stack_cells fs code m' ys recs K g.pss in
        record {
          pss = g.pss;
          top = r.dest;
          up = l.height;
          shows = a.shows;
          stack = rw a.type st.0;
          owned = λ d. omega (arith, g.owned d, a.cells d, occ_append d x z, occ_append d u z', ap (occ d) st.1);
        }

    -- it chooses an arm
    pub chose_going : (j : ℕ) (xs : List Typed) → Chose fs m ws r.base at r.dest h qs env vs g.ps g.type next m' ys j xs
        → (q : Expr) × Going fs code R m ys recs mine r.base r.dest (item (arm_number fs code c j) q (env ++ xs) (above l xs)) K
        × (arm_at qs j c (env ++ xs) (above l xs) ≡ yields (item (arm_number fs code c j) q (env ++ xs) (above l xs)))
    chose_going j xs a =
        let f = g.stage.fixed in
        let bs = (rule fs (types env) h (types vs)).arms in
        let q = the_arm_at fs code qs j c bs (types env) g.ps f.over f.arm a.arm arms in
        let w : f.arm ≡ g.type = sym (whole_arm fs (types env) h (types vs) j f.arm a.arm) ∙ sits.whole in
        let b : get_or bs j [] ≡ types xs = sym a.binds in
        let need : ℕ → Bool = λ i. names i (expr h end qs) in
        let here : ℕ → Bool = λ i. names i q.term in
        let bound : ℕ → Bool = λ i. names (length env + i) q.term in
        let ats = from r.base g.ps in
        let low = lies_same m m ws ys at need env ats a.above.below (λ d p. refl) g.stage.variables in
        let st = stack_same fs code m m ws ys recs recs K g.pss r.dest l.height g.type R (below_less ws ys r.dest at f.down a.above.below) (λ d p. refl) (λ i p. refl) g.stack in
        let named_here : (i : ℕ) → here i ≡ true → need i ≡ true = λ i p. or_right (is_var i h) (false || names_any i qs) (or_right false (names_any i qs) (q.among i p)) in
        let la : length ats ≡ length env = length_from r.base g.ps ∙ f.long in
        let pe : from r.base (g.ps ++ offsets f.over (types xs)) ≡ ats ++ places at xs =
        from_append r.base g.ps (offsets f.over (types xs)) ∙ ap (λ t. ats ++ t) (sym (places_from r.base f.over xs) ∙ ap (λ t. places t xs) f.based) in
        let lie = lies_append m ys (at + widths xs) here env xs ats (places at xs) la
        (lies_higher m ys at (at + widths xs) here env ats (omega arith) (lies_less m ys at need here env ats named_here low.0))
        (lies_less m ys (at + widths xs) all bound xs (places at xs) (λ i p. refl) a.lie) in (
          q.term,
          record {
            ps = g.ps ++ offsets f.over (types xs);
            pss = g.pss;
            over = f.over + type_widths (types xs);
            type = g.type;
            stands = subst (λ E. Stands fs code q.term (arm_number fs code c j) E (g.ps ++ offsets f.over (types xs)) (f.over + type_widths (types xs)) g.type) (sym (types_append env xs))
                (subst (λ t. Stands fs code q.term (arm_number fs code c j) (types env ++ t) (g.ps ++ offsets f.over t) (f.over + type_widths t) g.type) b
                (subst (λ B. Stands fs code q.term (arm_number fs code c j) (types env ++ get_or bs j []) (g.ps ++ offsets f.over (get_or bs j [])) (f.over + type_widths (get_or bs j [])) B) w q.stands));
            based = omega (arith, f.based, widths_types xs);
            near = omega (arith, f.low, arm_widths fs (types env) h (types vs) j sits.parts, ap type_widths b, widths_types xs);
            high = omega (arith, f.short);
            down = omega (arith, f.down);
            long = omega (arith, length-append g.ps (offsets f.over (types xs)), length-append env xs, length_offsets f.over xs, f.long);
            variables = subst (λ t. Lies m ys (at + widths xs) here (env ++ xs) t) (sym pe) lie;
            stack = stack_over fs code m ys recs K g.pss r.dest l.height (suc l.height) g.type R (omega arith) st.0;
            owned = λ d.
                let x = cells_of m ws need env ats in
                let y = value_cells fs m ws r.base at r.dest h qs env vs g.ps in
                let z = stack_cells fs code m ws recs K g.pss in
                let z' = stack_cells fs code m ys recs K g.pss in
                let x₁ = cells_of m ys here env ats in
                let x₂ = cells_of m ys bound xs (places at xs) in
                let t = cells_of m ys here (env ++ xs) (from r.base (g.ps ++ offsets f.over (types xs))) in
                let te : t ≡ x₁ ++ x₂ = ap (λ t. cells_of m ys here (env ++ xs) t) pe ∙ cells_append m ys here env xs ats (places at xs) la in
                omega (
                  arith,
                  g.owned d,
                  occ_append d (x ++ y) z,
                  occ_append d x y,
                  occ_append d t z',
                  ap (occ d) te,
                  occ_append d x₁ x₂,
                  cells_less m ys d need here env ats named_here,
                  cells_less m ys d all bound xs (places at xs) (λ i p. refl),
                  ap (occ d) low.1,
                  ap (occ d) st.1,
                  a.cells d,
                );
          },
          q.begins (env ++ xs) (above l xs),
        )

    -- it enters a body
    pub entered_going : (p : ℕ) (xs : List Typed) → Bodies fs code → Entered fs m ws r.base at r.dest h qs env vs g.ps g.type next m' ys p xs
        → Going fs code R m ws recs mine at r.dest (body fs p xs (body_level l xs)) K
    entered_going p xs bodies a =
        let f = g.stage.fixed in
        let e = (fun_at fs p).body in
        let here : ℕ → Bool = λ i. names i e in
        let b = bodies p a.known in
        let tv = a.params in
        let pe : from at (offsets 0 (types vs)) ≡ places at vs = sym (places_from at 0 vs) ∙ ap (λ t. places t vs) (add-zero at) in
        subst (λ xs. Going fs code R m ws recs mine at r.dest (body fs p xs (body_level l xs)) K) (sym a.arguments) (record {
          ps = offsets 0 (types vs);
          pss = g.pss;
          over = type_widths (types vs);
          type = g.type;
          stands = subst (λ W. Stands fs code e (body_number fs p) (types vs) (offsets 0 (types vs)) (type_widths (types vs)) W) a.result
              (subst (λ t. Stands fs code e (body_number fs p) t (offsets 0 t) (type_widths t) (fun_at fs p).result) (sym tv) b);
          based = omega (arith, widths_types vs);
          near = omega (arith, f.low, done_widths vs f.left f.sits.few f.sits.parts);
          high = omega (arith, f.short);
          down = omega (arith, f.down);
          long = length_offsets 0 vs;
          variables = subst (λ t. Lies m ws (at + widths vs) here vs t) (sym pe) (lies_less m ws (at + widths vs) all here vs (places at vs) (λ i q. refl) g.stage.values);
          stack = stack_over fs code m ws recs K g.pss r.dest l.height (suc l.height) g.type R (omega arith) g.stack;
          owned = λ d.
              let x = cells_of m ws (λ i. names i (expr h end qs)) env (from r.base g.ps) in
              let y = value_cells fs m ws r.base at r.dest h qs env vs g.ps in
              let z = stack_cells fs code m ws recs K g.pss in
              let t = cells_of m ws here vs (from at (offsets 0 (types vs))) in
              omega (
                arith,
                g.owned d,
                occ_append d (x ++ y) z,
                occ_append d x y,
                occ_append d t z,
                ap (λ t. occ d (cells_of m ws here vs t)) pe,
                cells_less m ws d all here vs (places at vs) (λ i q. refl),
              );
        })
