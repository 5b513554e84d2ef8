-- The steps of reading expressions.
use Rattle.std.proofs.Common.{◌≡◌, ℕ, zero, suc, ◌+◌, ◌-◌, ◌<◌, ◌≤◌, Bool, true, false, cond, ltb, leb, List, [], ◌∷◌, ◌++◌, map, length, get_or, drop, take, replicate, reverse, Bor, IfOk, Ok, Err, Result, sym, refl, ap, ◌∙◌, subst, ap₂, arith}
use lib.ListN.{length-map}
use Rattle.std.proofs.lemmas.List.{get_or-reverse, length-reverse, map-append, reverse-append, take_all}
use Rattle.std.proofs.lemmas.Bool.{lt-ltb, le-ltb, le-leb, lt-leb}
use Rattle.codec.specs.Reading.{Scan, done, refused, then as followed, within_at, Takes}
use Rattle.codec.specs.declared.cursor.Cursor.{Cursor}
use Rattle.codec.specs.declared.fault.Fault.{Fault}
use Rattle.codec.specs.declared.fault.Refusal.TheVariants.{TooManyExpressions, TooManyVariables}
use Rattle.codec.proofs.Takings.{takes_as, takes_done, takes_fault}
use Rattle.lfpl.specs.Syntax.{Ty, Head, guard}
use Rattle.lfpl.specs.Reading.{Reader, ◌>>=◌, pure, below, demand, Names, shape, heads, head_at}
use Rattle.lfpl.specs.Typing.{type_at}
use Rattle.tables.specs.Inner.{Few, Gives, operand_of, arms_of, Named, operand_at, Ranges, kind_at, Begins, inner, to_come, waiting}
use Rattle.tables.specs.Listed.{head_by, head_of, InRange}
use Rattle.tables.specs.declared.expressions.Open.{Open}
use Rattle.tables.specs.declared.expressions.Operand as O
use Rattle.tables.specs.declared.expressions.Operand.TheVariants as Operand
use Rattle.tables.specs.declared.listing.Kind as K
use Rattle.tables.specs.declared.listing.Kind.TheVariants as Kind
use Rattle.tables.specs.declared.listing.Node.{Node}
use Rattle.tables.specs.declared.listing.Signature.{Signature}
use Rattle.tables.proofs.Givings.{then_assoc, on, break, gives_as}

-- ---- the number of an expression

-- the kind with the number k
abbrev pub kind_numbered : ℕ → K.Kind
kind_numbered k =
    get_or (Kind.Variable ∷ Kind.Call ∷ Kind.Constant ∷ Kind.Infix ∷ Kind.Guard ∷ Kind.MakePair ∷ Kind.SplitPair ∷ Kind.MakeLeft ∷ Kind.MakeRight ∷ Kind.CaseSum ∷ Kind.EmptyList ∷ Kind.MakeCons ∷ Kind.CaseList ∷ Kind.MakeLeaf ∷ Kind.MakeNode ∷ Kind.CaseTree ∷ []) k Kind.Variable

-- the head of an expression of the kind, from its number
abbrev pub numbered : Names → K.Kind → ℕ → Reader Head
numbered ns k v = pure (head_by k ns.types v)

module _ (ns : Names) (scope : ℕ) (bs : List ℕ) (p : ℕ) where
  typed_is : (f : Ty → Head) → followed (followed (below (length ns.types) bs p) (λ j q. done (type_at ns.types j) q)) (λ A q. done (f A) q) ≡ followed (below (length ns.types) bs p) (λ j q. done (f (type_at ns.types j)) q)
  typed_is f = then_assoc (below (length ns.types) bs p) (λ j q. done (type_at ns.types j) q) (λ A q. done (f A) q)

  -- what each kind reads is what its description says
  heads_are : (k : ℕ) → k < 16 → get_or (heads ns scope) k (pure guard) bs p ≡ followed (operand_at ns scope (operand_of (kind_numbered k)) bs p) (λ v q. numbered ns (kind_numbered k) v bs q)
  heads_are zero h = refl
  heads_are (suc zero) h = refl
  heads_are (suc (suc zero)) h = refl
  heads_are (suc (suc (suc zero))) h = refl
  heads_are (suc (suc (suc (suc zero)))) h = refl
  heads_are (suc (suc (suc (suc (suc zero))))) h = typed_is _
  heads_are (suc (suc (suc (suc (suc (suc zero)))))) h = refl
  heads_are (suc (suc (suc (suc (suc (suc (suc zero))))))) h = typed_is _
  heads_are (suc (suc (suc (suc (suc (suc (suc (suc zero)))))))) h = typed_is _
  heads_are (suc (suc (suc (suc (suc (suc (suc (suc (suc zero))))))))) h = refl
  heads_are (suc (suc (suc (suc (suc (suc (suc (suc (suc (suc zero)))))))))) h = typed_is _
  heads_are (suc (suc (suc (suc (suc (suc (suc (suc (suc (suc (suc zero))))))))))) h = refl
  heads_are (suc (suc (suc (suc (suc (suc (suc (suc (suc (suc (suc (suc zero)))))))))))) h = refl
  heads_are (suc (suc (suc (suc (suc (suc (suc (suc (suc (suc (suc (suc (suc zero))))))))))))) h = typed_is _
  heads_are (suc (suc (suc (suc (suc (suc (suc (suc (suc (suc (suc (suc (suc (suc zero)))))))))))))) h = refl
  heads_are (suc (suc (suc (suc (suc (suc (suc (suc (suc (suc (suc (suc (suc (suc (suc zero))))))))))))))) h = refl
  heads_are (suc (suc (suc (suc (suc (suc (suc (suc (suc (suc (suc (suc (suc (suc (suc (suc k)))))))))))))))) h = absurd (omega arith)

ranges_in_range : (k : K.Kind) (ns : Names) (scope v : ℕ) → Ranges ns scope (operand_of k) v → InRange k ns scope v
ranges_in_range k ns scope v h = grind arith

module _ (ns : Names) (scope k : ℕ) (o : O.Operand) {c c₁ : Cursor} (t : Takes (within_at 0 16) c (Ok k) c₁) (h : k < 16) (d : o ≡ operand_of (kind_numbered k)) where
  after_kind : (c₂ : Cursor) (r : Result Head Fault) → Takes (operand_at ns scope o >>= numbered ns (kind_numbered k)) c₁ r c₂ → Takes (kind_at ns scope) c r c₂
  after_kind c₂ r u =
      on (below 16) (λ k. get_or (heads ns scope) k (pure guard)) k t c₂ r
      (takes_as (operand_at ns scope o >>= numbered ns (kind_numbered k)) (get_or (heads ns scope) k (pure guard))
      (heads_are ns scope c₁.bytes.now c₁.at k h ∙ ap (λ o. (operand_at ns scope o >>= numbered ns (kind_numbered k)) c₁.bytes.now c₁.at) (sym d)) u)

  pub node_breaks : (c₂ : Cursor) (e : Fault) → Takes (operand_at ns scope o) c₁ (Err e) c₂ → Takes (kind_at ns scope) c (Err e) c₂
  node_breaks c₂ e u = after_kind c₂ (Err e) (break (operand_at ns scope o) (numbered ns (kind_numbered k)) e u)

  pub node_read : (c₂ : Cursor) (v : ℕ) → Gives (operand_at ns scope o) (λ v w. (v ≡ w) × Ranges ns scope o v) c₁ (Ok v) c₂ → Gives (kind_at ns scope) (Begins ns scope) c (Ok (record { kind = kind_numbered k; number = v })) c₂
  node_read c₂ v g =
      let x = head_by (kind_numbered k) ns.types g.0 in (
        x,
        after_kind c₂ (Ok x) (on (operand_at ns scope o) (numbered ns (kind_numbered k)) g.0 g.1 c₂ (Ok x) (takes_done (numbered ns (kind_numbered k) g.0) c₂ x refl)),
        record { head = ap (head_by (kind_numbered k) ns.types) (sym g.2.0); range = ranges_in_range (kind_numbered k) ns scope v (subst (λ o. Ranges ns scope o v) d g.2.1) },
      )

-- ---- how an expression begins

module _ (ns : Names) (left scope : ℕ) (bs : List ℕ) (p : ℕ) where
  begin_is : (a b : Bool) → leb scope 32 ≡ a → ltb 0 left ≡ b → head_at ns left scope bs p ≡ cond a (cond b (kind_at ns scope bs p) (refused TooManyExpressions p)) (refused TooManyVariables p)
  unfolding head_at
  begin_is a b d e =
      ap₂ (λ a b. followed (demand a TooManyVariables p bs p) (λ _ q. followed (demand b TooManyExpressions p bs q) (λ _ q. kind_at ns scope bs q))) d e ∙ cases a b
    where
      cases : (a b : Bool) → followed (demand a TooManyVariables p bs p) (λ _ q. followed (demand b TooManyExpressions p bs q) (λ _ q. kind_at ns scope bs q))
          ≡ cond a (cond b (kind_at ns scope bs p) (refused TooManyExpressions p)) (refused TooManyVariables p)
      cases true true = refl
      cases true false = refl
      cases false b = refl

  begin_scope : 32 < scope → head_at ns left scope bs p ≡ refused TooManyVariables p
  begin_scope h = begin_is false (ltb 0 left) (lt-leb scope 32 h) refl

  begin_crowded : scope ≤ 32 → left ≡ 0 → head_at ns left scope bs p ≡ refused TooManyExpressions p
  begin_crowded h e = begin_is true false (le-leb scope 32 h) (le-ltb 0 left (omega arith))

  begin_node : scope ≤ 32 → 0 < left → head_at ns left scope bs p ≡ kind_at ns scope bs p
  begin_node h e = begin_is true true (le-leb scope 32 h) (lt-ltb 0 left e)

pub begins_wide : (ns : Names) (scope left : ℕ) (c : Cursor) (f : Fault) → 32 < scope → f ≡ record { refusal = TooManyVariables; place = c.at; part = c.part } → Takes (head_at ns left scope) c (Err f) c
begins_wide ns scope left c f h e = takes_fault (head_at ns left scope) c f TooManyVariables c.at (begin_scope ns left scope c.bytes.now c.at h) e

pub begins_crowded : (ns : Names) (scope count : ℕ) (c : Cursor) (f : Fault) → scope ≤ 32 → 512 ≤ count → f ≡ record { refusal = TooManyExpressions; place = c.at; part = c.part }
    → Takes (head_at ns (512 - count) scope) c (Err f) c
begins_crowded ns scope count c f h l e = takes_fault (head_at ns (512 - count) scope) c f TooManyExpressions c.at (begin_crowded ns (512 - count) scope c.bytes.now c.at h (omega arith)) e

pub begins_on : (ns : Names) (scope count : ℕ) (c c' : Cursor) (r : Result Node Fault) → scope ≤ 32 → count < 512 → Gives (kind_at ns scope) (Begins ns scope) c r c' → Gives (head_at ns (512 - count) scope) (Begins ns scope) c r c'
begins_on ns scope count c c' r h l g = gives_as (kind_at ns scope) (head_at ns (512 - count) scope) (Begins ns scope) c c' r (λ bs p. begin_node ns (512 - count) scope bs p h (omega arith)) g

-- where no expression is allowed, none begins
pub never_begins : {Y : Type 0} (ns : Names) (n : ℕ) (bs : List ℕ) (p : ℕ) (f g : Head → ℕ → Scan Y) → followed (head_at ns 0 n bs p) f ≡ followed (head_at ns 0 n bs p) g
never_begins ns n bs p f g = ap (λ s. followed s f) z ∙ go (leb n 32) ∙ sym (ap (λ s. followed s g) z)
  where
    z : head_at ns 0 n bs p ≡ cond (leb n 32) (refused TooManyExpressions p) (refused TooManyVariables p)
    z = begin_is ns 0 n bs p (leb n 32) false refl (le-ltb 0 0 (omega arith))

    go : (b : Bool) → followed (cond b (refused TooManyExpressions p) (refused TooManyVariables p)) f ≡ followed (cond b (refused TooManyExpressions p) (refused TooManyVariables p)) g
    go true = refl
    go false = refl

-- ---- shapes

-- what the arms bind depends on the kind alone
arms_are : (k : K.Kind) (arities : List ℕ) (ts : List Ty) (v : ℕ) → (shape arities (head_by k ts v)).arms ≡ arms_of k
arms_are k arities ts v = grind arith

-- ---- what is to come

pub opens : (arities : List ℕ) (ts : List Ty) (x : Node) (o : Open) → o.parts ≡ (shape arities (head_of ts x)).parts → o.arms.now ≡ arms_of x.kind → to_come o ≡ inner arities (head_of ts x) o.scope
unfolding to_come
opens arities ts x o e a = ap₂ (λ n l. replicate n o.scope ++ map (λ b. o.scope + b) l) e (a ∙ sym (arms_are x.kind arities ts x.number))

pub next_part : (o p : Open) → p.scope ≡ o.scope → p.arms.now ≡ o.arms.now → o.parts ≡ p.parts + 1 → to_come o ≡ o.scope ∷ to_come p
unfolding to_come
next_part o p s a e =
    let z : o.parts ≡ suc p.parts = omega arith in
    ap (λ n. replicate n o.scope ++ map (λ b. o.scope + b) o.arms.now) z ∙ ap₂ (λ s l. o.scope ∷ replicate p.parts s ++ map (λ b. s + b) l) (sym s) (sym a)

-- the code takes the arms apart as the first and those after it
first_and_rest : (l : List ℕ) → 1 ≤ length l → l ≡ get_or l 0 0 ∷ take (length l - 1) (drop 1 l)
first_and_rest [] h = absurd (omega arith)
first_and_rest (b ∷ l) h = ap (λ l. b ∷ l) (sym (take_all (suc (length l) - 1) l (omega arith)))

pub next_arm : (o p : Open) → p.scope ≡ o.scope → p.parts ≡ o.parts → o.parts ≤ 0 → 1 ≤ length o.arms.now → p.arms.now ≡ take (length o.arms.now - 1) (drop 1 o.arms.now)
    → to_come o ≡ (o.scope + get_or o.arms.now 0 0) ∷ to_come p
unfolding to_come
next_arm o p s e d h a =
    let z : o.parts ≡ 0 = omega arith in
    let y : 0 ≡ p.parts = omega arith in
    ap₂ (λ n l. replicate n o.scope ++ map (λ b. o.scope + b) l) z (first_and_rest o.arms.now h ∙ ap (λ l. get_or o.arms.now 0 0 ∷ l) (sym a))
    ∙ ap₂ (λ n s. (o.scope + get_or o.arms.now 0 0) ∷ replicate n s ++ map (λ b. s + b) p.arms.now) y (sym s)

pub next_none : (o : Open) → o.parts ≤ 0 → length o.arms.now < 1 → to_come o ≡ []
unfolding to_come
next_none o e h =
    let z : o.parts ≡ 0 = omega arith in
    ap₂ (λ n l. replicate n o.scope ++ map (λ b. o.scope + b) l) z (none o.arms.now h)
  where
    none : (l : List ℕ) → length l < 1 → l ≡ []
    none [] h = refl
    none (b ∷ l) h = absurd (omega arith)

pub body_comes : (o : Open) → o.parts ≡ 1 → o.arms.now ≡ [] → to_come o ≡ o.scope ∷ []
unfolding to_come
body_comes o e a = ap₂ (λ n l. replicate n o.scope ++ map (λ b. o.scope + b) l) e a

pub waiting_more : (o : Open) (os : List Open) → waiting (o ∷ os) ≡ to_come o ++ waiting os
unfolding waiting
waiting_more o os = refl

pub waiting_none : (os : List Open) → os ≡ [] → waiting os ≡ []
unfolding waiting
waiting_none os e = ap waiting e

-- ---- a call's number

pub function_read : (ns : Names) (n : ℕ) (fs : List Signature) (scope : ℕ) (what : O.Operand) (c c' : Cursor) (r : Result ℕ Fault) → Named n fs ns → what ≡ Operand.Function
    → Takes (within_at 0 (length fs)) c r c' → IfOk r (λ n. (0 ≤ n) × (n < length fs)) → Gives (operand_at ns scope what) (λ v w. (v ≡ w) × Ranges ns scope what v) c r c'
function_read ns n fs scope what c c' r k e t b =
    let l : length ns.arities ≡ length fs = ap length k.arities ∙ length-map fs (λ (f : Signature). f.arity) in
    subst (λ o. Gives (operand_at ns scope o) (λ v w. (v ≡ w) × Ranges ns scope o v) c r c') (sym e) (go r (subst (λ n. Takes (within_at 0 n) c r c') (sym l) t) (subst (λ n. IfOk r (λ m. (0 ≤ m) × (m < n))) (sym l) b))
  where
    go : (r : Result ℕ Fault) → Takes (within_at 0 (length ns.arities)) c r c' → IfOk r (λ n. (0 ≤ n) × (n < length ns.arities)) → Gives (below (length ns.arities)) (λ v w. (v ≡ w) × (v < length ns.arities)) c r c'
    go (Ok v) t b = (v, t, (refl, b.1))
    go (Err e) t b = t

-- ---- the pile

few_at : (fs : List Signature) (i : ℕ) (d : Signature) → Few fs → i < length fs → (get_or fs i d).arity ≤ 6
few_at [] i d s h = absurd (omega arith)
few_at (g ∷ fs) zero d s h = s.0
few_at (g ∷ fs) (suc i) d s h = few_at fs i d s.1 (omega arith)

-- a function that is met at i from the last on
pub few_met : (fs : List Signature) (i : ℕ) (f : Signature) → Few fs → (i < length (reverse fs)) × (f ≡ get_or (reverse fs) i f) → f.arity ≤ 6
few_met fs i f s t =
    let h : i < length fs = omega (arith, t.0, length-reverse fs) in
    let e : f ≡ get_or fs (length fs - 1 - i) f = t.1 ∙ get_or-reverse fs i f h in
    subst (λ (g : Signature). g.arity ≤ 6) (sym e) (few_at fs (length fs - 1 - i) f s (omega arith))

-- what is pushed where there is room
pub pushed_one : (os h : List Open) (x : Open) (n : ℕ) (r : Bool) → r ≡ ltb (length os) n → h ≡ cond r (x ∷ os) os → length os < n → h ≡ x ∷ os
pushed_one os h x n r f e l = e ∙ ap (λ b. cond b (x ∷ os) os) (f ∙ lt-ltb (length os) n l)

-- the body on top of those that are piled up
pub body_before : (met : List (Bor Signature)) (f : Bor Signature) (o : Open) (os held : List Open) → held ≡ o ∷ os → to_come o ≡ f.now.arity ∷ []
    → waiting os ≡ map (λ (f : Signature). f.arity) (reverse (map (λ (f : Bor Signature). f.now) met))
    → waiting held ≡ map (λ (f : Signature). f.arity) (reverse (map (λ (f : Bor Signature). f.now) (met ++ f ∷ [])))
body_before met f o os held e t w =
    ap waiting e ∙ waiting_more o os ∙ ap₂ (λ (x y : List ℕ). x ++ y) t w
    ∙ ap (map (λ (f : Signature). f.arity))
    (sym (ap reverse (map-append (λ (f : Bor Signature). f.now) met (f ∷ [])) ∙ reverse-append (map (λ (f : Bor Signature). f.now) met) (f.now ∷ [])))

-- what waits after the next expression
pub comes_next : (held : List Open) (o rest : Open) (os : List Open) (n : ℕ) → held ≡ o ∷ os → to_come o ≡ n ∷ to_come rest → waiting held ≡ n ∷ waiting (rest ∷ os)
comes_next held o rest os n e t = ap waiting e ∙ waiting_more o os ∙ ap (λ w. w ++ waiting os) t ∙ ap (λ w. n ∷ w) (sym (waiting_more rest os))

pub nothing_comes : (held : List Open) (o : Open) (os : List Open) → held ≡ o ∷ os → to_come o ≡ [] → waiting held ≡ waiting os
nothing_comes held o os e t = ap waiting e ∙ waiting_more o os ∙ ap (λ w. w ++ waiting os) t

pub opened_waits : (arities : List ℕ) (h : Head) (n : ℕ) (held : List Open) (fresh rest : Open) (os : List Open) → held ≡ fresh ∷ rest ∷ os → to_come fresh ≡ inner arities h n
    → inner arities h n ++ waiting (rest ∷ os) ≡ waiting held
opened_waits arities h n held fresh rest os e t = sym (ap waiting e ∙ waiting_more fresh (rest ∷ os) ∙ ap (λ w. w ++ waiting (rest ∷ os)) t)
