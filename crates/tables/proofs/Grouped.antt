-- Expressions that are read one after another, grouped into trees.
use Rattle.std.proofs.Common.{◌≡◌, ℕ, zero, suc, ◌+◌, ◌-◌, ◌<◌, ◌≤◌, List, [], ◌∷◌, ◌++◌, map, length, get_or, take, set, replicate, Ok, Err, sym, refl, ap, ◌∙◌, subst, ap₂, append_assoc, append-nil, arith, length-append, length-take}
use Rattle.std.proofs.lemmas.List.{get_or_at, take_more_set}
use Rattle.codec.specs.Reading.{Scan, done, then as followed, Takes, Answered}
use Rattle.codec.specs.declared.cursor.Cursor.{Cursor}
use Rattle.codec.specs.declared.fault.Fault.{Fault}
use Rattle.codec.proofs.Takings.{is_done, is_refused, refused_answers}
use Rattle.lfpl.specs.Syntax.{Head, Expr, Exprs, expr, end, ◌then◌, size, sizes}
use Rattle.lfpl.specs.Reading.{Reader, Names, shape, head_at, each_at, expr_at}
use Rattle.tables.specs.Inner.{Gives, Begins, inner}
use Rattle.tables.specs.Listed.{head_of, stands, AllStand, all_end, all_more}
use Rattle.tables.specs.declared.listing.Node.{Node}
use Rattle.tables.proofs.Givings.{then_assoc, then_eq, then_pure}
use Rattle.tables.proofs.Expressed.{never_begins}

-- of expressions in a row, those in the scopes that the list begins with, and those after them
abbrev pub firsts : List ℕ → Exprs → Exprs
firsts [] es = end
firsts (n ∷ ns) end = end
firsts (n ∷ ns) (e then es) = e then firsts ns es

abbrev pub rests : List ℕ → Exprs → Exprs
rests [] es = es
rests (n ∷ ns) end = end
rests (n ∷ ns) (e then es) = rests ns es

-- the scopes of the parts and of the arms under a head
abbrev parts : Names → Head → ℕ → List ℕ
parts ns h n = replicate (shape ns.arities h).parts n

abbrev arms : Names → Head → ℕ → List ℕ
arms ns h n = map (λ b. n + b) (shape ns.arities h).arms

-- the first expressions become the parts and the arms of one with the head h in a scope of n variables
abbrev pub regroup : Names → Head → ℕ → Exprs → Exprs
regroup ns h n es = expr h (firsts (parts ns h n) es) (firsts (arms ns h n) (rests (parts ns h n) es)) then rests (arms ns h n) (rests (parts ns h n) es)

-- ---- how they are read

module _ (ns : Names) (bs : List ℕ) where
  each_split : {Y : Type 0} (r : ℕ → ℕ → Reader Expr) (ms w : List ℕ) (left p : ℕ) (K : Exprs → Exprs → ℕ → Scan Y)
      → followed (each_at ns r left (ms ++ w) bs p) (λ es q. K (firsts ms es) (rests ms es) q)
      ≡ followed (each_at ns r left ms bs p) (λ ps q. followed (each_at ns r (left - sizes ps) w bs q) (λ qs q'. K ps qs q'))
  unfolding each_at
  each_split r [] w left p K = let z : left ≡ left - 0 = omega arith in ap (λ m. followed (each_at ns r m w bs p) (λ es q. K end es q)) z
  each_split r (m ∷ ms) w left p K =
      then_assoc (r left m bs p) _ _
      ∙ then_eq (r left m bs p) _ _ (λ e q.
      then_assoc (each_at ns r (left - size e) (ms ++ w) bs q) _ _
      ∙ each_split r ms w (left - size e) q (λ ps qs. K (e then ps) qs)
      ∙ then_eq (each_at ns r (left - size e) ms bs q) _ _ (λ ps q'.
      let z : left - size e - sizes ps ≡ left - (size e + sizes ps) = omega arith in
      ap (λ l. followed (each_at ns r l w bs q') (λ qs q''. K (e then ps) qs q'')) z)
      ∙ sym (then_assoc (each_at ns r (left - size e) ms bs q) _ _))
      ∙ sym (then_assoc (r left m bs p) _ _)

  each_same : (r s : ℕ → ℕ → Reader Expr) (k : ℕ) → ((left n p : ℕ) → left < k → r left n bs p ≡ s left n bs p) → (ms : List ℕ) (left p : ℕ) → left < k
      → each_at ns r left ms bs p ≡ each_at ns s left ms bs p
  unfolding each_at
  each_same r s k h [] left p l = refl
  each_same r s k h (m ∷ ms) left p l =
      ap (λ x. followed x (λ e q. followed (each_at ns r (left - size e) ms bs q) (λ es q'. done (e then es) q'))) (h left m p l)
      ∙ then_eq (s left m bs p) _ _ (λ e q. ap (λ x. followed x (λ es q'. done (e then es) q')) (each_same r s k h ms (left - size e) q (omega arith)))

  -- past the count of expressions that are allowed, the depth does not matter
  depth : (j k left n p : ℕ) → left < j → left < k → expr_at ns j left n bs p ≡ expr_at ns k left n bs p
  unfolding expr_at
  depth zero k left n p a b = absurd (omega arith)
  depth (suc j) zero left n p a b = absurd (omega arith)
  depth (suc j) (suc k) zero n p a b = never_begins ns n bs p _ _
  depth (suc j) (suc k) (suc left) n p a b =
      let same : (l n p : ℕ) → l < suc left → expr_at ns j l n bs p ≡ expr_at ns k l n bs p = λ l n p h. depth j k l n p (omega arith) (omega arith) in
      then_eq (head_at ns (suc left) n bs p) _ _ (λ h q.
      ap (λ x. followed x (λ ps q'. followed (each_at ns (expr_at ns j) (suc left - 1 - sizes ps) (arms ns h n) bs q') (λ qs q''. done (expr h ps qs) q'')))
      (each_same (expr_at ns j) (expr_at ns k) (suc left) same (parts ns h n) (suc left - 1) q (omega arith))
      ∙ then_eq (each_at ns (expr_at ns k) (suc left - 1) (parts ns h n) bs q) _ _ (λ ps q'.
      ap (λ x. followed x (λ qs q''. done (expr h ps qs) q'')) (each_same (expr_at ns j) (expr_at ns k) (suc left) same (arms ns h n) (suc left - 1 - sizes ps) q' (omega arith))))

  -- an expression and those after it, as the reading of one unfolds
  abbrev unfolded : ℕ → ℕ → ℕ → List ℕ → Head → ℕ → Scan Exprs
  unfolded k left n w h q = followed (each_at ns (expr_at ns k) (left - 1) (parts ns h n) bs q) (λ ps q₁.
      followed (each_at ns (expr_at ns k) (left - 1 - sizes ps) (arms ns h n) bs q₁) (λ qs q₂.
      followed (each_at ns (expr_at ns (suc k)) (left - size (expr h ps qs)) w bs q₂) (λ fs q₃. done (expr h ps qs then fs) q₃)))

  unfolds : (k left n : ℕ) (w : List ℕ) (p : ℕ) → each_at ns (expr_at ns (suc k)) left (n ∷ w) bs p ≡ followed (head_at ns left n bs p) (unfolded k left n w)
  unfolding each_at expr_at
  unfolds k left n w p =
      then_assoc (head_at ns left n bs p) _ _
      ∙ then_eq (head_at ns left n bs p) _ _ (λ h q.
      then_assoc (each_at ns (expr_at ns k) (left - 1) (parts ns h n) bs q) _ _
      ∙ then_eq (each_at ns (expr_at ns k) (left - 1) (parts ns h n) bs q) _ _ (λ ps q₁. then_assoc (each_at ns (expr_at ns k) (left - 1 - sizes ps) (arms ns h n) bs q₁) _ _))

  -- the same, read in a row and grouped afterwards
  abbrev row : ℕ → ℕ → ℕ → List ℕ → Head → ℕ → Scan Exprs
  row k left n w h q = followed (each_at ns (expr_at ns (suc k)) (left - 1) (inner ns.arities h n ++ w) bs q) (λ es q'. done (regroup ns h n es) q')

  in_a_row : (k left n : ℕ) (w : List ℕ) (h : Head) (q : ℕ) → suc left < suc k → unfolded k (suc left) n w h q ≡ row k (suc left) n w h q
  in_a_row k left n w h q l =
      let same : (l n p : ℕ) → l < suc left → expr_at ns k l n bs p ≡ expr_at ns (suc k) l n bs p = λ m n p h. depth k (suc k) m n p (omega arith) (omega arith) in
      ap (λ x. followed x (λ ps q₁.
      followed (each_at ns (expr_at ns k) (suc left - 1 - sizes ps) (arms ns h n) bs q₁) (λ qs q₂.
      followed (each_at ns (expr_at ns (suc k)) (suc left - size (expr h ps qs)) w bs q₂) (λ fs q₃. done (expr h ps qs then fs) q₃))))
      (each_same (expr_at ns k) (expr_at ns (suc k)) (suc left) same (parts ns h n) (suc left - 1) q (omega arith))
      ∙ then_eq (each_at ns (expr_at ns (suc k)) (suc left - 1) (parts ns h n) bs q) _ _ (λ ps q₁.
      ap (λ x. followed x (λ qs q₂. followed (each_at ns (expr_at ns (suc k)) (suc left - size (expr h ps qs)) w bs q₂) (λ fs q₃. done (expr h ps qs then fs) q₃)))
      (each_same (expr_at ns k) (expr_at ns (suc k)) (suc left) same (arms ns h n) (suc left - 1 - sizes ps) q₁ (omega arith))
      ∙ then_eq (each_at ns (expr_at ns (suc k)) (suc left - 1 - sizes ps) (arms ns h n) bs q₁) _ _ (λ qs q₂.
      let z : suc left - size (expr h ps qs) ≡ suc left - 1 - sizes ps - sizes qs = omega arith in
      ap (λ m. followed (each_at ns (expr_at ns (suc k)) m w bs q₂) (λ fs q₃. done (expr h ps qs then fs) q₃)) z)
      ∙ sym (each_split (expr_at ns (suc k)) (arms ns h n) w (suc left - 1 - sizes ps) q₁ (λ qs fs q₃. done (expr h ps qs then fs) q₃)))
      ∙ sym (each_split (expr_at ns (suc k)) (parts ns h n) (arms ns h n ++ w) (suc left - 1) q (λ ps fs q₃. done (expr h ps (firsts (arms ns h n) fs) then rests (arms ns h n) fs) q₃))
      ∙ ap (λ m. followed (each_at ns (expr_at ns (suc k)) (suc left - 1) m bs q) (λ es q'. done (regroup ns h n es) q')) (sym (append_assoc (parts ns h n) (arms ns h n) w))

  -- an expression and those after it: its head, and then its parts, its arms and those after it in a row
  pub unroll : (k left n : ℕ) (w : List ℕ) (p : ℕ) → left < suc k
      → each_at ns (expr_at ns (suc k)) left (n ∷ w) bs p
      ≡ followed (head_at ns left n bs p) (λ h q. followed (each_at ns (expr_at ns (suc k)) (left - 1) (inner ns.arities h n ++ w) bs q) (λ es q'. done (regroup ns h n es) q'))
  unroll k zero n w p l = unfolds k zero n w p ∙ never_begins ns n bs p (unfolded k zero n w) (row k zero n w)
  unroll k (suc left) n w p l = unfolds k (suc left) n w p ∙ then_eq (head_at ns (suc left) n bs p) (unfolded k (suc left) n w) (row k (suc left) n w) (λ h q. in_a_row k left n w h q l)

-- ---- how they stand

module _ (ns : Names) (xs : List Node) where
  starts : (scopes : List ℕ) (i : ℕ) (es : Exprs) (k : ℕ) → AllStand ns xs scopes i es k → i ≤ length xs
  starts scopes i es k (all_end j h) = h
  starts scopes i es k (all_more n w j l m e fs (stands a b c d x ps qs h g t r u v) s) = omega arith

  split : (ms w : List ℕ) (i : ℕ) (es : Exprs) (k : ℕ) → AllStand ns xs (ms ++ w) i es k → ((j : ℕ) × AllStand ns xs ms i (firsts ms es) j × AllStand ns xs w j (rests ms es) k)
  split [] w i es k s = (i, all_end i (starts w i es k s), s)
  split (m ∷ ms) w i es k (all_more n v j l o e fs t s) = let r = split ms w l fs o s in (r.0, all_more m ms j l r.0 e (firsts ms fs) t r.1, r.2)

  pub regroup_stands : (n : ℕ) (w : List ℕ) (i : ℕ) (x : Node) (h : Head) (es : Exprs) (k : ℕ) → i < length xs → ((d : Node) → get_or xs i d ≡ x) → n ≤ 32 → Begins ns n x h
      → AllStand ns xs (inner ns.arities h n ++ w) (i + 1) es k → AllStand ns xs (n ∷ w) i (regroup ns h n es) k
  regroup_stands n w i x h es k l g m b s = subst (λ h. AllStand ns xs (inner ns.arities h n ++ w) (i + 1) es k → AllStand ns xs (n ∷ w) i (regroup ns h n es) k) (sym b.head) go s
    where
      go : AllStand ns xs (inner ns.arities (head_of ns.types x) n ++ w) (i + 1) es k → AllStand ns xs (n ∷ w) i (regroup ns (head_of ns.types x) n es) k
      go s =
          let h = head_of ns.types x in
          let a = split (parts ns h n) (arms ns h n ++ w) (i + 1) es k (subst (λ v. AllStand ns xs v (i + 1) es k) (append_assoc (parts ns h n) (arms ns h n) w) s) in
          let c = split (arms ns h n) w a.0 (rests (parts ns h n) es) k a.2 in
          all_more n w i c.0 k _ _ (stands n i a.0 c.0 x (firsts (parts ns h n) es) (firsts (arms ns h n) (rests (parts ns h n) es)) l g m b.range a.1 c.1) c.2

-- ---- the loop

-- So many expressions stand in the nodes, and those in the scopes are to come; then all stand. The reading began at the cursor b.
pub record Underway (ns : Names) (b : Cursor) (count : ℕ) (nodes : List Node) (scopes : List ℕ) (c : Cursor) : Type 0 where
  pub build : Exprs → Exprs
  pub same : each_at ns (expr_at ns 513) 512 ns.arities b.bytes.now b.at ≡ followed (each_at ns (expr_at ns 513) (512 - count) scopes c.bytes.now c.at) (λ es q. done (build es) q)
  pub stand : (ys : List Node) (es : Exprs) (k : ℕ) → AllStand ns (take count nodes ++ ys) scopes count es k → AllStand ns (take count nodes ++ ys) ns.arities 0 (build es) k
  pub bytes : c.bytes ≡ b.bytes
  pub part : c.part ≡ b.part

pub underway_begins : (ns : Names) (b : Cursor) (nodes : List Node) → Underway ns b 0 nodes ns.arities b
underway_begins ns b nodes = record { build = λ es. es; same = sym (then_pure (each_at ns (expr_at ns 513) 512 ns.arities b.bytes.now b.at)); stand = λ ys es k s. s; bytes = refl; part = refl }

module _ (ns : Names) (b : Cursor) (count : ℕ) (nodes : List Node) (n : ℕ) (w : List ℕ) (c : Cursor) (u : Underway ns b count nodes (n ∷ w) c) where
  next : Head → ℕ → Scan Exprs
  next h q = followed (each_at ns (expr_at ns 513) (512 - count - 1) (inner ns.arities h n ++ w) c.bytes.now q) (λ es q'. done (u.build (regroup ns h n es)) q')

  step : each_at ns (expr_at ns 513) 512 ns.arities b.bytes.now b.at ≡ followed (head_at ns (512 - count) n c.bytes.now c.at) next
  unfolding next
  step =
      u.same ∙ ap (λ s. followed s (λ es q. done (u.build es) q)) (unroll ns c.bytes.now 512 (512 - count) n w c.at (omega arith))
      ∙ then_assoc (head_at ns (512 - count) n c.bytes.now c.at) _ _
      ∙ then_eq (head_at ns (512 - count) n c.bytes.now c.at) _ _ (λ h q. then_assoc (each_at ns (expr_at ns 513) (512 - count - 1) (inner ns.arities h n ++ w) c.bytes.now q) _ _)

  -- the next expression is refused
  pub underway_breaks : (f : Fault) (c' : Cursor) → Takes (head_at ns (512 - count) n) c (Err f) c' → Takes (each_at ns (expr_at ns 513) 512 ns.arities) b (Err f) c'
  underway_breaks f c' t =
      let r = is_refused (head_at ns (512 - count) n c.bytes.now c.at) c.part f c'.at t.answer in
      record {
        bytes = t.bytes ∙ u.bytes;
        part = t.part ∙ u.part;
        answer = refused_answers (each_at ns (expr_at ns 513) 512 ns.arities b.bytes.now b.at) b.part f c'.at (step ∙ ap (λ s. followed s next) r.0) (r.1 ∙ u.part);
      }

  -- the next expression is x
  pub underway_opens : (x : Node) (c' : Cursor) → Gives (head_at ns (512 - count) n) (Begins ns n) c (Ok x) c' → length nodes ≡ 512 → count < 512 → n ≤ 32
      → Underway ns b (count + 1) (set nodes count x) (inner ns.arities (head_of ns.types x) n ++ w) c'
  unfolding next
  underway_opens x c' g long l m =
      let h = g.0 in
      let d = is_done (head_at ns (512 - count) n c.bytes.now c.at) c.part h c'.at g.1.answer in
      let z : 512 - count - 1 ≡ 512 - (count + 1) = omega arith in
      record {
        build = λ es. u.build (regroup ns h n es);
        same =
            step ∙ ap (λ s. followed s next) d
            ∙ ap₂ (λ m b. followed (each_at ns (expr_at ns 513) m (inner ns.arities h n ++ w) b.now c'.at) (λ es q'. done (u.build (regroup ns h n es)) q')) z (sym g.1.bytes)
            ∙ ap (λ k. followed (each_at ns (expr_at ns 513) (512 - (count + 1)) (inner ns.arities k n ++ w) c'.bytes.now c'.at) (λ es q'. done (u.build (regroup ns h n es)) q')) g.2.head;
        stand = λ ys es k s.
            let e : take (count + 1) (set nodes count x) ++ ys ≡ take count nodes ++ x ∷ ys = ap (λ l. l ++ ys) (take_more_set nodes count x (omega (arith, long))) ∙ append_assoc (take count nodes) (x ∷ []) ys in
            let t : count ≡ length (take count nodes) = omega (arith, length-take count nodes) in
            let a = length-append (take count nodes) (x ∷ ys) in
            subst (λ xs. AllStand ns xs ns.arities 0 (u.build (regroup ns h n es)) k) (sym e)
            (u.stand (x ∷ ys) (regroup ns h n es) k
            (regroup_stands ns (take count nodes ++ x ∷ ys) n w count x h es k (omega (arith, a, t)) (λ y. get_or_at (take count nodes) x ys y count (sym t)) m g.2
            (subst (λ k'. AllStand ns (take count nodes ++ x ∷ ys) (inner ns.arities k' n ++ w) (count + 1) es k) (sym g.2.head) (subst (λ xs. AllStand ns xs (inner ns.arities (head_of ns.types x) n ++ w) (count + 1) es k) e s))));
        bytes = g.1.bytes ∙ u.bytes;
        part = g.1.part ∙ u.part;
      }

-- nothing is to come
pub underway_ends : (ns : Names) (b : Cursor) (count : ℕ) (nodes : List Node) (c : Cursor) → Underway ns b count nodes [] c → length nodes ≡ 512 → count ≤ 512
    → Gives (each_at ns (expr_at ns 513) 512 ns.arities) (λ n es. AllStand ns (take n nodes) ns.arities 0 es n) b (Ok count) c
unfolding each_at
underway_ends ns b count nodes c u long few = (
  u.build end,
  record { bytes = u.bytes; part = u.part; answer = subst (λ s. Answered s b.part (Ok (u.build end)) c.at) (sym u.same) (refl, refl) },
  subst (λ xs. AllStand ns xs ns.arities 0 (u.build end) count) (append-nil (take count nodes))
      (u.stand [] end count (all_end count (omega (arith, length-append (take count nodes) (nothing Node), length-take count nodes)))),
)
  where
    nothing : (X : Type 0) → List X
    nothing X = []
