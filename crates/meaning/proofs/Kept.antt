-- What every step keeps. Each expression of a run owes something to the one that waits for it: a value of a type, of at most some charge, and it stands no lower
-- than some level. `Begins` says that an expression to begin gives what is due, `Ready` that one under way does, `Waits` that it does once it has a value that is
-- due to it, and `Stood` that the waiting expressions hang together. One lemma, `proceed_kept`, covers all kinds of expressions.
use Rattle.std.proofs.Common.{◌≡◌, ℕ, zero, suc, ◌+◌, ◌<◌, ◌≤◌, Bool, true, false, ◌||◌, List, [], ◌∷◌, ◌++◌, length, sym, refl, ◌∙◌, subst, true≢false, append_assoc, append-nil, le_refl, arith}
use mathlib.Core.Option.{Option, none, some}
use mathlib.Core.Bool.{false≢true}
use mathlib.Core.Path.{subst⁻¹}
use Rattle.std.specs.List.{AllByRecursion}
use Rattle.std.proofs.lemmas.Bool.{and_parts, or_left, or_right}
use Rattle.std.proofs.ByRecursion.{All-append}
use Rattle.lfpl.specs.Syntax.{Ty, int, Head, var, call, const, apply, guard, mk_pair, case_pair, mk_left, mk_right, case_sum, mk_nil, mk_cons, case_list, mk_leaf, mk_node, case_tree, Expr, Exprs, expr, end, ◌then◌, names, names_any, is_var, size, Fun, Program}
use Rattle.lfpl.specs.Typing.{same_tys, fun_at, Rule, rule, fits}
use Rattle.lfpl.specs.Values.{charge, Typed}
use Rattle.lfpl.proofs.Typed.{Typ, TypArms, Under, Bodies}
use Rattle.meaning.specs.Act.{Act, give, choose, enter, stuck, act}
use Rattle.meaning.specs.Mean.{widths, Level, above, body_level, ground, Why, Limit}
use Rattle.meaning.specs.Machine.{Item, Frame, item, Outcome, hands, yields, waits, stops, fails, arm_at, body, begun, joined, State, going, done, halted, astray, landing, settle, proceed_with, proceed, begins_under, return, step, run, start}
use Rattle.meaning.specs.View.{charges}
use Rattle.meaning.specs.Sound.{Has, Fit}
use Rattle.meaning.specs.States.{heads, heads_all, flat, Stands, types_in, Passes, Closed}
use Rattle.meaning.proofs.Charges.{total_append, weight, weight_mono, weight_all, weight_append, split}
use Rattle.meaning.proofs.Acts.{fit_append, Chosen, Ok, act_ok}
use Rattle.meaning.proofs.Placing.{stands_left, stands_past, stands_head, body_stands}
use Rattle.meaning.proofs.Passing.{params_pass, rule_passes, noted_at}

-- what an expression owes: a value of a type, of at most some charge, from no lower than some level
pub record Due : Type 0 where
  pub type : Ty
  pub charge : ℕ
  pub level : Level

-- the level l is no lower than m, and over no fewer words
abbrev pub NoLower : Level → Level → Type 0
NoLower m l = (m.height ≤ l.height) × (m.words ≤ l.words)

lower_above : (m l : Level) (xs : List Typed) → NoLower m l → NoLower m (above l xs)
lower_above m l xs (a, b) = (omega arith, omega arith)

-- what waits for a part is no variable
no_var : (fs : List Fun) (h : Head) (Γ Vs : List Ty) (A : Ty) (As : List Ty)
    → fits (rule fs Γ h ((Vs ++ (A ∷ [])) ++ As)) ((Vs ++ (A ∷ [])) ++ As) ≡ true → (j : ℕ) → is_var j h ≡ false
no_var fs (var i) Γ Vs A As t j = absurd (never Vs (and_parts (rule fs Γ (var i) ((Vs ++ (A ∷ [])) ++ As)).test _ t).1)
  where
    never : (Vs : List Ty) → same_tys ((Vs ++ (A ∷ [])) ++ As) [] ≡ true → ⊥
    never [] h = false≢true h
    never (V ∷ Vs) h = false≢true h
no_var fs (call f) Γ Vs A As t j = refl
no_var fs (const z) Γ Vs A As t j = refl
no_var fs (apply o) Γ Vs A As t j = refl
no_var fs guard Γ Vs A As t j = refl
no_var fs (mk_pair S) Γ Vs A As t j = refl
no_var fs case_pair Γ Vs A As t j = refl
no_var fs (mk_left S) Γ Vs A As t j = refl
no_var fs (mk_right S) Γ Vs A As t j = refl
no_var fs case_sum Γ Vs A As t j = refl
no_var fs (mk_nil S) Γ Vs A As t j = refl
no_var fs mk_cons Γ Vs A As t j = refl
no_var fs case_list Γ Vs A As t j = refl
no_var fs (mk_leaf S) Γ Vs A As t j = refl
no_var fs mk_node Γ Vs A As t j = refl
no_var fs case_tree Γ Vs A As t j = refl

or_rest : (a b : Bool) → a ≡ false → (a || b) ≡ true → b ≡ true
or_rest true b e h = absurd (true≢false e)
or_rest false b e h = h

module _ (p : Program) (L : Limit) (G : Ty → Bool) where
  -- the value is one that is due
  pub record Gives (d : Due) (v : Typed) : Type 0 where
    pub has : Has v d.type
    pub charged : charge v.value ≤ d.charge
    pub passes : G v.type ≡ true

  -- an expression to begin gives what is due; `scope` has its variables' types
  pub record Begins (d : Due) (i : Item) : Type 0 where
    pub scope : List Ty
    pub env : Fit i.env scope
    pub passes : Passes G scope
    pub typed : Typ p.functions i.term scope d.type
    pub charged : weight (λ j. names j i.term) 0 i.env ≤ d.charge
    pub level : NoLower d.level i.level
    pub placed : Stands (flat p.functions) i.number (heads i.term)

  -- An expression under way gives what is due, if its parts done have the types Ws and the parts to come are ps, which have the types `coming`. `arms` is its
  -- arms' type.
  pub record Way (Ws : List Ty) (ps : Exprs) (d : Due) (k : Frame) : Type 0 where
    pub scope : List Ty
    pub coming : List Ty
    pub arms : Ty
    pub env : Fit k.env scope
    pub passes : Passes G scope
    pub typed : Under p.functions k.head scope Ws ps k.arms coming arms d.type
    pub level : NoLower d.level k.level
    pub begun : L k.level ≡ none
    pub head : Stands (flat p.functions) k.number (k.head ∷ [])
    pub rest : Stands (flat p.functions) k.coming (heads_all ps ++ heads_all k.arms)

  -- an expression under way, with the parts ps to come, can go on
  pub record Ready (ps : Exprs) (d : Due) (k : Frame) : Type 0 where
    pub types : List Ty
    pub values : Fit k.values types
    pub pass : Passes G types
    pub way : Way types ps d k
    pub charged : weight (λ j. is_var j k.head || (names_any j ps || names_any j k.arms)) 0 k.env + charges k.values ≤ d.charge

  -- an expression under way gives what d says once it is given what e says; its part under way stands above it
  pub record Waits (e d : Due) (k : Frame) : Type 0 where
    pub types : List Ty
    pub values : Fit k.values types
    pub pass : Passes G types
    pub way : Way (types ++ (e.type ∷ [])) k.rest d k
    pub charged : e.charge + (weight (λ j. names_any j k.rest || names_any j k.arms) 0 k.env + charges k.values) ≤ d.charge
    pub above : (k.level.height < e.level.height) × (k.level.words + widths k.values ≤ e.level.words)

  -- what is given to the waiting expressions ends in a value of the type R that charges at most N
  abbrev pub Stood : Ty → ℕ → Due → List Frame → Type 0
  Stood R N d [] = (d.type ≡ R) × (d.charge ≤ N)
  Stood R N d (k ∷ K) = (e : Due) × Waits d e k × Stood R N e K

  module _ (Halts : Why → Type 0) where
    -- the outcome gives what is due, or is one of these halts
    abbrev pub Outcomes : Due → Outcome → Type 0
    Outcomes d (hands v) = Gives d v
    Outcomes d (yields i) = Begins d i
    Outcomes d (waits i k) = (e : Due) × Begins e i × Waits e d k
    Outcomes d (stops y) = Halts y
    Outcomes d fails = ⊥

    -- a state on the way to a value of the type R that charges at most N, or one of these halts; it is never astray
    abbrev pub Sound : Ty → ℕ → State → Type 0
    Sound R N (going i K) = (d : Due) × Begins d i × Stood R N d K
    Sound R N (done v) = Has v R × (charge v.value ≤ N)
    Sound R N (halted y) = Halts y
    Sound R N astray = ⊥

  module _ (Halts : Why → Type 0) (closed : Closed G) (named : AllByRecursion (λ g. Passes G (types_in g)) p.functions) (bodies : Bodies p.functions p.functions) where
    -- a body that is entered
    pub body_kept : (d : Due) (f : ℕ) (xs : List Typed) (l : Level) → f < length p.functions → Fit xs (fun_at p.functions f).params
        → (fun_at p.functions f).result ≡ d.type → charges xs ≤ d.charge → NoLower d.level l → Begins d (body p.functions f xs l)
    body_kept d f xs l h g e c o = record {
      scope = (fun_at p.functions f).params;
      env = g;
      passes = params_pass G closed p.functions named p.functions f named;
      typed = subst (λ (S : Ty). Typ p.functions (fun_at p.functions f).body (fun_at p.functions f).params S) e (bodies f h);
      charged = let a = weight_all (λ j. names j (fun_at p.functions f).body) 0 xs in omega arith;
      level = o;
      placed = body_stands p.functions f h;
    }

    -- an arm that is chosen
    arm_kept : (d : Due) (qs : Exprs) (ls : List (List Ty)) (B : Ty) (i c : ℕ) (env xs : List Typed) (Γ : List Ty) (l : Level)
        → TypArms p.functions qs ls Γ B → Fit env Γ → Passes G Γ → Chosen ls i xs → AllByRecursion (λ b. Passes G b) ls → B ≡ d.type
        → weight (λ j. names_any j qs) 0 env + charges xs ≤ d.charge → NoLower d.level l → Stands (flat p.functions) c (heads_all qs)
        → Outcomes Halts d (arm_at qs i c (env ++ xs) l)
    arm_kept d end [] B i c env xs Γ l t f g o a e w v s = absurd o
    arm_kept d end (b ∷ ls) B i c env xs Γ l t f g o a e w v s = absurd t
    arm_kept d (q then qs) [] B i c env xs Γ l t f g o a e w v s = absurd o
    arm_kept d (q then qs) (b ∷ ls) B zero c env xs Γ l t f g o a e w v s = record {
      scope = Γ ++ b;
      env = fit_append env xs Γ b f o;
      passes = All-append _ Γ b g a.0;
      typed = subst (λ (S : Ty). Typ p.functions q (Γ ++ b) S) e t.0;
      charged =
          let x = weight_append (λ j. names j q) 0 env xs in
          let y = weight_mono (λ j. names j q) (λ j. names_any j (q then qs)) 0 env (λ j h. or_left (names j q) (names_any j qs) h) in
          omega arith;
      level = v;
      placed = stands_left (flat p.functions) c (heads q) (heads_all qs) s;
    }
    arm_kept d (q then qs) (b ∷ ls) B (suc i) c env xs Γ l t f g o a e w v s =
        arm_kept d qs ls B i (c + size q) env xs Γ l t.1 f g o a.1 e
        (let y = weight_mono (λ j. names_any j qs) (λ j. names_any j (q then qs)) 0 env (λ j h. or_right (names j q) (names_any j qs) h) in omega arith)
        v (stands_past (flat p.functions) c q (heads_all qs) s)

    -- an expression with no part to come, whose rule is R; `own` is the charge of the variable that it is
    settle_kept : (d : Due) (R : Rule) (own parts : ℕ) (B : Ty) (a : Act) (qs : Exprs) (c : ℕ) (env : List Typed) (Γ : List Ty) (l : Level)
        → Ok p.functions R own parts a → TypArms p.functions qs R.arms Γ B → R.whole B ≡ d.type → Fit env Γ → Passes G Γ
        → AllByRecursion (λ b. Passes G b) R.arms → G (R.whole int) ≡ true
        → own + parts ≤ d.charge → weight (λ j. names_any j qs) 0 env + parts ≤ d.charge → NoLower d.level l → Stands (flat p.functions) c (heads_all qs)
        → Outcomes Halts d (settle p.functions a qs c env l)
    settle_kept d R own parts B (give v) qs c env Γ l o t e f g m w x y u s = record {
      has = subst (λ (S : Ty). Has v S) e (o.0 B);
      charged = let o₁ = o.1 in omega arith;
      passes = subst⁻¹ (λ (S : Ty). G S ≡ true) (o.0 int).0 w;
    }
    settle_kept d R own parts B (choose i xs) qs c env Γ l o t e f g m w x y u s =
        arm_kept d qs R.arms B i c env xs Γ (above l xs) t f g o.0 m (sym (o.1 B) ∙ e) (let o₂ = o.2 in omega arith) (lower_above d.level l xs u) s
    settle_kept d R own parts B (enter h xs) qs c env Γ l o t e f g m w x y u s =
        body_kept d h xs (body_level l xs) o.0 o.1 (sym (o.2 B) ∙ e) (let o₃ = o.3 in omega arith) (lower_above d.level l xs u)
    settle_kept d R own parts B stuck qs c env Γ l o t e f g m w x y u s = absurd o

    -- the last part is done
    last_kept : (d : Due) (k : Frame) (Vs Γ As : List Ty) (B : Ty) → Fit k.values Vs → Passes G Vs → Fit k.env Γ → Passes G Γ
        → Under p.functions k.head Γ Vs end k.arms As B d.type
        → weight (λ j. is_var j k.head || (false || names_any j k.arms)) 0 k.env + charges k.values ≤ d.charge → NoLower d.level k.level
        → Stands (flat p.functions) k.number (k.head ∷ []) → Stands (flat p.functions) k.coming (heads_all k.arms)
        → Outcomes Halts d (proceed_with p.functions end k)
    last_kept d k Vs Γ [] B f g fe ge (t, e, a, u, s) w o hd st =
        let f' : Fit k.values (Vs ++ []) = subst⁻¹ (λ (S : List Ty). Fit k.values S) (append-nil Vs) f in
        let g' : Passes G (Vs ++ []) = subst⁻¹ (λ (S : List Ty). Passes G S) (append-nil Vs) g in
        let r = rule_passes G closed p.functions named k.head Γ (Vs ++ []) (noted_at G p.functions k.number k.head named hd) ge g' in
        let x = weight_mono (λ j. is_var j k.head) (λ j. is_var j k.head || (false || names_any j k.arms)) 0 k.env
        (λ j h. or_left (is_var j k.head) _ h) in
        let y = weight_mono (λ j. names_any j k.arms) (λ j. is_var j k.head || (false || names_any j k.arms)) 0 k.env
        (λ j h. or_right (is_var j k.head) _ h) in
        settle_kept d (rule p.functions Γ k.head (Vs ++ [])) (weight (λ j. is_var j k.head) 0 k.env) (charges k.values) B
        (act p.functions k.head k.env k.values) k.arms k.coming k.env Γ k.level
        (act_ok p.functions k.head k.env k.values Γ (Vs ++ []) fe f' e) a u fe ge r.0 r.1 (omega arith) (omega arith) o st
    last_kept d k Vs Γ (A ∷ As) B f g fe ge (t, e, a, u, s) w o hd st = absurd t

    -- the next part begins
    part_kept : (d : Due) (k : Frame) (x : Expr) (es : Exprs) (Vs Γ As : List Ty) (B : Ty) → Fit k.values Vs → Passes G Vs → Fit k.env Γ → Passes G Γ
        → Under p.functions k.head Γ Vs (x then es) k.arms As B d.type
        → weight (λ j. is_var j k.head || (names_any j (x then es) || names_any j k.arms)) 0 k.env + charges k.values ≤ d.charge
        → NoLower d.level k.level → L k.level ≡ none
        → Stands (flat p.functions) k.number (k.head ∷ []) → Stands (flat p.functions) k.coming (heads_all (x then es) ++ heads_all k.arms)
        → Outcomes Halts d (proceed_with p.functions (x then es) k)
    part_kept d k x es Vs Γ [] B f g fe ge (t, e, a, u, s) w o l hd st = absurd t
    part_kept d k x es Vs Γ (A ∷ As) B f g fe ge (t, e, a, u, s) w o l hd st =
        let y = split x es k.arms 0 k.env Γ fe s in
        let y₀ = y.0 in
        let z = weight_mono (λ j. names_any j (x then es) || names_any j k.arms) (λ j. is_var j k.head || (names_any j (x then es) || names_any j k.arms)) 0 k.env
        (λ j q. or_right (is_var j k.head) (names_any j (x then es) || names_any j k.arms) q) in
        let same = append_assoc Vs (A ∷ []) As in
        let st' : Stands (flat p.functions) k.coming (heads x ++ (heads_all es ++ heads_all k.arms)) =
        subst (λ (hs : List Head). Stands (flat p.functions) k.coming hs) (append_assoc (heads x) (heads_all es) (heads_all k.arms)) st in (
          record { type = A; charge = weight (λ j. names j x) 0 k.env; level = above k.level k.values },
          record {
            scope = Γ;
            env = fe;
            passes = ge;
            typed = t.0;
            charged = le_refl _;
            level = (le_refl _, le_refl _);
            placed = stands_left (flat p.functions) k.coming (heads x) (heads_all es ++ heads_all k.arms) st';
          },
          record {
            types = Vs;
            values = f;
            pass = g;
            way = record {
              scope = Γ;
              coming = As;
              arms = B;
              env = fe;
              passes = ge;
              typed = (
                t.1,
                subst⁻¹ (λ (S : List Ty). fits (rule p.functions Γ k.head S) S ≡ true) same e,
                subst⁻¹ (λ (S : List Ty). TypArms p.functions k.arms (rule p.functions Γ k.head S).arms Γ B) same a,
                subst⁻¹ (λ (S : List Ty). (rule p.functions Γ k.head S).whole B ≡ d.type) same u,
                y.1,
              );
              level = o;
              begun = l;
              head = hd;
              rest = stands_past (flat p.functions) k.coming x (heads_all es ++ heads_all k.arms) st';
            };
            charged = omega arith;
            above = (le_refl _, le_refl _);
          },
        )

    -- an expression under way goes on
    pub proceed_kept : (ps : Exprs) (d : Due) (k : Frame) → Ready ps d k → Outcomes Halts d (proceed_with p.functions ps k)
    proceed_kept end d k r =
        let w = r.way in
        last_kept d k r.types w.scope w.coming w.arms r.values r.pass w.env w.passes w.typed r.charged w.level w.head w.rest
    proceed_kept (x then es) d k r =
        let w = r.way in
        part_kept d k x es r.types w.scope w.coming w.arms r.values r.pass w.env w.passes w.typed r.charged w.level w.begun
        w.head w.rest

    -- it has begun
    begun_ready : (e : Expr) (n : ℕ) (env : List Typed) (l : Level) (d : Due) → L l ≡ none → Begins d (item n e env l) → Ready (begun e n env l).rest d (begun e n env l)
    begun_ready (expr h ps qs) n env l d o b =
        let t = b.typed in
        let s = stands_head (flat p.functions) n h (heads_all ps ++ heads_all qs) b.placed in
        let c = b.charged in
        record {
          types = [];
          values = tt;
          pass = tt;
          way = record {
            scope = b.scope;
            coming = t.0;
            arms = t.1;
            env = b.env;
            passes = b.passes;
            typed = (t.2, t.3, t.4, t.5, t.6);
            level = b.level;
            begun = o;
            head = s.0;
            rest = s.1;
          };
          charged = omega arith;
        }

    -- an expression begins where no limit forbids it
    begin_kept : (d : Due) (i : Item) → L i.level ≡ none → Begins d i → Outcomes Halts d (begins_under p.functions none i)
    begin_kept d i e b =
        proceed_kept (begun i.term i.number i.env i.level).rest d (begun i.term i.number i.env i.level)
        (begun_ready i.term i.number i.env i.level d e b)

    -- a value joins the parts done
    pub join_ready : (e d : Due) (k : Frame) (v : Typed) → Waits e d k → Gives e v → Ready k.rest d (joined k v)
    join_ready e d k v w g =
        let y = w.way in
        let c = w.charged in
        let c' = g.charged in
        let x = weight_mono (λ j. is_var j k.head || (names_any j k.rest || names_any j k.arms)) (λ j. names_any j k.rest || names_any j k.arms) 0 k.env
        (λ j q. or_rest (is_var j k.head) _ (no_var p.functions k.head y.scope w.types e.type y.coming y.typed.1 j) q) in
        let z = total_append (λ u. charge u.value) k.values (v ∷ []) in
        record {
          types = w.types ++ (e.type ∷ []);
          values = fit_append k.values (v ∷ []) w.types (e.type ∷ []) w.values (g.has, tt);
          pass = All-append _ w.types (e.type ∷ []) w.pass (subst (λ (S : Ty). G S ≡ true) g.has.0 g.passes, tt);
          way = record {
            scope = y.scope;
            coming = y.coming;
            arms = y.arms;
            env = y.env;
            passes = y.passes;
            typed = y.typed;
            level = y.level;
            begun = y.begun;
            head = y.head;
            rest = y.rest;
          };
          charged = omega arith;
        }

    module _ (R : Ty) (N : ℕ) where
      land_kept : (d : Due) (o : Outcome) (K : List Frame) (back : Typed → State) → Outcomes Halts d o → Stood R N d K → ((v : Typed) → Gives d v → Sound Halts R N (back v))
          → Sound Halts R N (landing o K back)
      land_kept d (hands v) K back g s b = b v g
      land_kept d (yields i) K back g s b = (d, g, s)
      land_kept d (waits i k) K back (e, g, w) s b = (e, g, (d, w, s))
      land_kept d (stops y) K back g s b = g
      land_kept d fails K back g s b = absurd g

      -- a value comes back to what waits for it
      pub return_kept : (K : List Frame) (d : Due) (v : Typed) → Stood R N d K → Gives d v → Sound Halts R N (return p.functions K v)
      return_kept [] d v s g = (subst (λ (S : Ty). Has v S) s.0 g.has, let a = s.1 in let b = g.charged in omega arith)
      return_kept (k ∷ K) d v (e, w, s) g =
          land_kept e (proceed p.functions (joined k v)) K (λ u. return p.functions K u) (proceed_kept k.rest e (joined k v) (join_ready d e k v w g)) s
          (λ u h. return_kept K e u s h)

      -- a step is taken where no limit forbids it
      pub begin_sound : (i : Item) (K : List Frame) → L i.level ≡ none → Sound Halts R N (going i K)
          → Sound Halts R N (landing (begins_under p.functions none i) K (λ u. return p.functions K u))
      begin_sound i K e (d, b, s) =
          land_kept d (begins_under p.functions none i) K (λ u. return p.functions K u) (begin_kept d i e b) s (λ u h. return_kept K d u s h)

      -- a step is taken, or halts
      pub step_kept : ((y : Why) → Halts y) → (i : Item) (K : List Frame) → Sound Halts R N (going i K) → Sound Halts R N (step p L i K)
      step_kept may i K h = by (L i.level) refl
        where
          by : (o : Option Why) → L i.level ≡ o → Sound Halts R N (landing (begins_under p.functions o i) K (λ u. return p.functions K u))
          by none e = begin_sound i K e h
          by (some y) e = may y

      pub run_kept : ((y : Why) → Halts y) → (n : ℕ) (s : State) → Sound Halts R N s → Sound Halts R N (run p L n s).0
      run_kept may zero s h = h
      run_kept may (suc n) (going i K) h = run_kept may n (step p L i K) (step_kept may i K h)
      run_kept may (suc n) (done v) h = h
      run_kept may (suc n) (halted y) h = h
      run_kept may (suc n) astray h = h

    -- a run begins with what it owes: its result's type, and the charge of its arguments
    pub start_kept : (f : ℕ) (xs : List Typed) → f < length p.functions → Fit xs (fun_at p.functions f).params
        → Sound Halts (fun_at p.functions f).result (charges xs) (start p f xs)
    start_kept f xs h g =
        let d : Due = record { type = (fun_at p.functions f).result; charge = charges xs; level = ground xs } in
        (d, body_kept d f xs (ground xs) h g refl (le_refl _) (le_refl _, le_refl _), (refl, le_refl _))
