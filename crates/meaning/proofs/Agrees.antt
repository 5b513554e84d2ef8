-- The machine agrees with the meaning: where the meaning of an expression has an end, the machine comes to it in as many steps, whatever waits for the expression.
-- The idea is one predicate, `Lands`, on the meaning found; each way of composing meanings carries it along.
use Rattle.std.proofs.Common.{◌≡◌, ℕ, zero, suc, ◌+◌, List, [], ◌∷◌, ◌++◌, sym, refl, ap, ◌∙◌, subst, add_assoc, suc-add, zero-add, one-add, arith}
use native.Mathlib.Nat.{suc_inj}
use mathlib.Core.Option.{Option, none, some}
use Rattle.lfpl.specs.Syntax.{Head, Expr, Exprs, expr, end, ◌then◌, size, Program}
use Rattle.lfpl.specs.Typing.{fun_at}
use Rattle.lfpl.specs.Values.{Typed}
use Rattle.meaning.specs.Act.{Act, give, choose, enter, stuck, act}
use Rattle.meaning.specs.Mean.{Level, above, body_level, ground, Why, Limit, gives, halts, wrong, Meaning, later, next, unless, Valuation, settled, mean, means, mean_arm, approx}
use Rattle.meaning.specs.Machine.{Item, Frame, item, Outcome, arm_at, body_number, body, begun, passing, joined, State, going, done, halted, astray, landing, after, settle, proceed_with, begins_under, return, step, run, start}

pub after_zero : (r : State × ℕ) → after 0 r ≡ r
after_zero (s, m) = ap {B = State × ℕ} (λ k. (s, k)) (zero-add m)

pub after_after : (n m : ℕ) (r : State × ℕ) → after n (after m r) ≡ after (n + m) r
after_after n m (s, k) = ap {B = State × ℕ} (λ j. (s, j)) (sym (add_assoc n m k))

after_count : (n : ℕ) (r : State × ℕ) → (after n r).1 ≡ n + r.1
after_count n (s, m) = refl

-- the number that comes after some expressions
abbrev passed : ℕ → Exprs → ℕ
passed c end = c
passed c (e then es) = passed (c + size e) es

module _ (p : Program) (L : Limit) where
  -- n steps, none of them the last, lead from s to t
  abbrev pub Leads : State → ℕ → State → Type 0
  Leads s n t = (m : ℕ) → run p L (n + m) s ≡ after n (run p L m t)

  -- k steps from s do not end the run
  abbrev pub Lasts : ℕ → State → Type 0
  Lasts k s = (run p L k s).1 ≡ k

  -- where a meaning has an end, the machine comes to it from s in as many steps; where it has none, k steps do not end the run
  abbrev pub Lands : {X : Type 0} → ℕ → State → (X → State) → Meaning X → Type 0
  Lands k s to none = Lasts k s
  Lands k s to (some (gives x, n)) = Leads s n (to x)
  Lands k s to (some (halts y, n)) = Leads s n (halted y)
  Lands k s to (some (wrong, n)) = Leads s n astray

  leads_zero : (s : State) → Leads s 0 s
  leads_zero s m = ap (λ (k : ℕ). run p L k s) (zero-add m) ∙ sym (after_zero (run p L m s))

  leads_one : (i : Item) (K : List Frame) → Leads (going i K) 1 (step p L i K)
  leads_one i K m = ap (λ (k : ℕ). run p L k (going i K)) (one-add m)

  leads_trans : (s t u : State) (n m : ℕ) → Leads s n t → Leads t m u → Leads s (n + m) u
  leads_trans s t u n m f g k =
      ap (λ (j : ℕ). run p L j s) (add_assoc n m k) ∙ (f (m + k) ∙ (ap (λ r. after n r) (g k) ∙ after_after n m (run p L k u)))

  lasts_leads : (s t : State) (n k : ℕ) → Leads s n t → Lasts k t → Lasts (n + k) s
  lasts_leads s t n k f h = ap (λ r. r.1) (f k) ∙ (after_count n (run p L k t) ∙ ap (λ j. n + j) h)

  lasts_one : (k : ℕ) (s : State) → Lasts (suc k) s → Lasts k s
  lasts_one zero s h = refl
  lasts_one (suc k) (going i K) h =
      one-add (run p L k (step p L i K)).1 ∙ ap suc (lasts_one k (step p L i K) (suc_inj (sym (one-add (run p L (suc k) (step p L i K)).1) ∙ h)))
  lasts_one (suc k) (done v) h = let e : 0 ≡ suc (suc k) = h in omega arith
  lasts_one (suc k) (halted y) h = let e : 0 ≡ suc (suc k) = h in omega arith
  lasts_one (suc k) astray h = let e : 0 ≡ suc (suc k) = h in omega arith

  pub lasts_less : (n k : ℕ) (s : State) → Lasts (n + k) s → Lasts k s
  lasts_less zero k s h = subst (λ (j : ℕ). Lasts j s) (zero-add k) h
  lasts_less (suc n) k s h = lasts_less n k s (lasts_one (n + k) s (subst (λ (j : ℕ). Lasts j s) (suc-add n k) h))

  lands_later : {X : Type 0} (k n : ℕ) (s t : State) (to : X → State) (m : Meaning X) → Leads s n t → Lands k t to m → Lands (n + k) s to (later n m)
  lands_later k n s t to none f h = lasts_leads s t n k f h
  lands_later k n s t to (some (gives x, m)) f h = leads_trans s t (to x) n m f h
  lands_later k n s t to (some (halts y, m)) f h = leads_trans s t (halted y) n m f h
  lands_later k n s t to (some (wrong, m)) f h = leads_trans s t astray n m f h

  lands_below : {X : Type 0} (n k : ℕ) (s : State) (to : X → State) (m : Meaning X) → Lands (n + k) s to m → Lands k s to m
  lands_below n k s to none h = lasts_less n k s h
  lands_below n k s to (some (gives x, j)) h = h
  lands_below n k s to (some (halts y, j)) h = h
  lands_below n k s to (some (wrong, j)) h = h

  lands_less : {X : Type 0} (k : ℕ) (s : State) (to : X → State) (m : Meaning X) → Lands (suc k) s to m → Lands k s to m
  lands_less k s to m h = lands_below 1 k s to m (subst (λ (j : ℕ). Lands j s to m) (sym (one-add k)) h)

  lands_next : {X Y : Type 0} (k : ℕ) (s : State) (to : X → State) (at : Y → State) (m : Meaning X) (g : X → Meaning Y)
      → Lands k s to m → ((x : X) → Lands k (to x) at (g x)) → Lands k s at (next m g)
  lands_next k s to at none g h f = h
  lands_next k s to at (some (gives x, n)) g h f = lands_below n k s at (later n (g x)) (lands_later k n s (to x) at (g x) h (f x))
  lands_next k s to at (some (halts y, n)) g h f = h
  lands_next k s to at (some (wrong, n)) g h f = h

  -- the state after an outcome over the waiting expressions K
  abbrev land : Outcome → List Frame → State
  land o K = landing o K (λ u. return p.functions K u)

  lands_begin : {X : Type 0} (k : ℕ) (s : State) (to : X → State) (o : Option Why) (i : Item) (K : List Frame) (g : Unit {0} → Meaning X)
      → Leads s 1 (land (begins_under p.functions o i) K) → Lands k (land (begins_under p.functions none i) K) to (g tt) → Lands (suc k) s to (unless o g)
  lands_begin k s to none i K g h l =
      subst (λ (j : ℕ). Lands j s to (later 1 (g tt))) (one-add k) (lands_later k 1 s (land (begins_under p.functions none i) K) to (g tt) h l)
  lands_begin k s to (some y) i K g h l = h

  -- what a value comes back to
  abbrev back : List Frame → Typed → State
  back K v = return p.functions K v

  -- the valuation is as the machine finds it, for calls that k steps reach
  abbrev Valued : ℕ → Valuation → Type 0
  Valued k ρ = (f : ℕ) (xs : List Typed) (l : Level) (K : List Frame) → Lands k (going (body p.functions f xs l) K) (back K) (ρ f xs l)

  module _ (k : ℕ) (ρ : Valuation) (known : Valued k ρ) where
    -- what is left of an expression, once its parts have the values vs: as the meaning has it, and as the machine does
    abbrev left : Head → Exprs → List Typed → Level → List Typed → Meaning Typed
    left h qs env l vs =
        settled (act p.functions h env vs) (λ i xs. mean_arm p.functions L ρ qs i (env ++ xs) (above l xs)) (λ f xs. ρ f xs (body_level l xs))

    abbrev settling : Head → Exprs → ℕ → List Typed → Level → List Frame → List Typed → State
    settling h qs c env l K vs = land (settle p.functions (act p.functions h env vs) qs c env l) K

    lands_settle : (a : Act) (qs : Exprs) (c : ℕ) (env : List Typed) (l : Level) (K : List Frame)
        → ((i : ℕ) (xs : List Typed) → Lands k (land (arm_at qs i c (env ++ xs) (above l xs)) K) (back K) (mean_arm p.functions L ρ qs i (env ++ xs) (above l xs)))
        → Lands k (land (settle p.functions a qs c env l) K) (back K)
        (settled a (λ i xs. mean_arm p.functions L ρ qs i (env ++ xs) (above l xs)) (λ f xs. ρ f xs (body_level l xs)))
    lands_settle (give v) qs c env l K arms = leads_zero (return p.functions K v)
    lands_settle (choose i xs) qs c env l K arms = arms i xs
    lands_settle (enter f xs) qs c env l K arms = known f xs (body_level l xs) K
    lands_settle stuck qs c env l K arms = leads_zero astray

    mutual
      law : (e : Expr) (n : ℕ) (env : List Typed) (l : Level) (K : List Frame)
          → Lands (suc k) (going (item n e env l) K) (back K) (mean p.functions L ρ e env l)
      law (expr h ps qs) n env l K =
          lands_begin k (going (item n (expr h ps qs) env l) K) (back K) (L l) (item n (expr h ps qs) env l) K
          (λ u. next (means p.functions L ρ ps env [] l) (left h qs env l))
          (leads_one (item n (expr h ps qs) env l) K)
          (lands_next k (land (proceed_with p.functions ps (begun (expr h ps qs) n env l)) K) (settling h qs (passed (suc n) ps) env l K) (back K)
          (means p.functions L ρ ps env [] l) (left h qs env l)
          (law_parts ps (begun (expr h ps qs) n env l) K)
          (λ vs. lands_settle (act p.functions h env vs) qs (passed (suc n) ps) env l K
          (λ i xs. law_arm qs i (passed (suc n) ps) (env ++ xs) (above l xs) K)))

      law_parts : (ps : Exprs) (j : Frame) (K : List Frame)
          → Lands k (land (proceed_with p.functions ps j) K) (settling j.head j.arms (passed j.coming ps) j.env j.level K)
          (means p.functions L ρ ps j.env j.values j.level)
      law_parts end j K = leads_zero (land (proceed_with p.functions end j) K)
      law_parts (e then es) j K =
          lands_next k (going (item j.coming e j.env (above j.level j.values)) (passing j e es ∷ K)) (back (passing j e es ∷ K))
          (settling j.head j.arms (passed (j.coming + size e) es) j.env j.level K)
          (mean p.functions L ρ e j.env (above j.level j.values))
          (λ v. means p.functions L ρ es j.env (j.values ++ (v ∷ [])) j.level)
          (lands_less k (going (item j.coming e j.env (above j.level j.values)) (passing j e es ∷ K)) (back (passing j e es ∷ K))
          (mean p.functions L ρ e j.env (above j.level j.values))
          (law e j.coming j.env (above j.level j.values) (passing j e es ∷ K)))
          (λ v. law_parts es (joined (passing j e es) v) K)

      law_arm : (qs : Exprs) (i c : ℕ) (env : List Typed) (l : Level) (K : List Frame)
          → Lands k (land (arm_at qs i c env l) K) (back K) (mean_arm p.functions L ρ qs i env l)
      law_arm end i c env l K = leads_zero astray
      law_arm (q then qs) zero c env l K = lands_less k (going (item c q env l) K) (back K) (mean p.functions L ρ q env l) (law q c env l K)
      law_arm (q then qs) (suc i) c env l K = law_arm qs i (c + size q) env l K

  valued : (k : ℕ) → Valued k (λ f xs l. approx p L k f xs l)
  valued zero f xs l K = refl
  valued (suc k) f xs l K =
      law k (λ g ys m. approx p L k g ys m) (valued k) (fun_at p.functions f).body (body_number p.functions f) xs l K

  -- a run of a function comes to its meaning
  pub lands : (k f : ℕ) (xs : List Typed) → Lands k (start p f xs) (λ v. done v) (approx p L k f xs (ground xs))
  lands k f xs = valued k f xs (ground xs) []
