-- What is decoded is spelled by the bytes and is in the set of its type; and what is spelled is decoded.
use Rattle.std.proofs.Common.{◌≡◌, ℕ, zero, suc, ◌+◌, ◌-◌, ◌/◌, ◌%◌, ◌^◌, ◌<◌, ◌≤◌, Bool, true, false, cond, ◌&&◌, eqb, ltb, leb, List, length, drop, pos, negsuc, sym, refl, ap, ◌∙◌, subst, ap₂, arith, w32, SFits}
use Rattle.std.proofs.lemmas.Bool.{eqb-true, eqb-false, ltb-true, leb-true, le-leb, and_parts}
use Rattle.codec.proofs.Forms.{right as numeral_right}
use Rattle.codec.specs.Integer.{unzigzag}
use Rattle.codec.specs.Number.{Numeral, got, ended, overlong, number, Right}
use Rattle.codec.specs.Reading.{Scan, done, refused, then, begun, number_at, within_at, mark_at}
use Rattle.codec.specs.declared.fault.Refusal.TheVariants.{OutOfRange, BytesOver, CellsLacking}
use Rattle.lfpl.specs.Syntax.{Ty, int, diamond, list_of, tree_of, pair_of, sum_of, first, second}
use Rattle.lfpl.specs.Values.{Val, num, dia, nil, cons, leaf, node, pair, left, right, charge, In}
use Rattle.store.specs.Decoding.{Decoder, decode, list_at, marked, spend, tree_at, value_at}
use Rattle.store.specs.Laws.{IsDecoded}
use Rattle.store.specs.Spelling.{Number, Spells}
use Rattle.store.proofs.Readings.{When, then_when, cond_when, value_list, value_tree}

-- ---- what is decoded is spelled

abbrev pub Decoded : List ℕ → Ty → ℕ → ℕ → Val × ℕ → ℕ → Type 0
Decoded bs A s p r q = Spells bs A r.0 p q × (charge r.0 + r.1 ≡ s)

number_when' : (bs : List ℕ) (p : ℕ) (n : Numeral) → number (drop p bs) ≡ n → When (Number bs p) (begun n p)
number_when' bs p (got c n) e = (n, e, refl)
number_when' bs p ended e = tt
number_when' bs p overlong e = tt

number_when : (bs : List ℕ) (p : ℕ) → When (Number bs p) (number_at bs p)
unfolding number_at
number_when bs p = number_when' bs p (number (drop p bs)) refl

-- the number that a mark is
abbrev pub digit : Bool → ℕ
digit b = cond b 1 0

mark_digit : (c : ℕ) → c < 2 → (b : Bool) → eqb c 1 ≡ b → c ≡ digit b
mark_digit c h true e = eqb-true c 1 e
mark_digit c h false e = omega (arith, λ (k : c ≡ 1). eqb-false c 1 e k)

mark_when : (bs : List ℕ) (p : ℕ) → When (λ b q. Number bs p (digit b) q) (mark_at bs p)
unfolding mark_at within_at
mark_when bs p =
    let P : ℕ → ℕ → Type 0 = λ c q. Number bs p c q × (c < 2) in
    then_when P _ (within_at 0 2 bs p) _
    (then_when (Number bs p) P (number_at bs p) _ (number_when bs p) (λ c q h.
    cond_when P (leb 0 c && ltb c 2) (done c q) (refused OutOfRange p) (λ e. (h, ltb-true c 2 (and_parts (leb 0 c) (ltb c 2) e).1)) (λ e. tt)))
    (λ c q h. subst (λ x. Number bs p x q) (mark_digit c h.1 (eqb c 1) refl) h.0)

abbrev MarkRead : List ℕ → ℕ → ℕ → ℕ → Bool × ℕ → ℕ → Type 0
MarkRead bs n s p r q = Number bs p (digit r.0) q × (r.1 + cond r.0 n 0 ≡ s)

marked_when : (n s : ℕ) (bs : List ℕ) (p : ℕ) → When (MarkRead bs n s p) (marked n s bs p)
marked_when n s bs p =
    then_when (λ b q. Number bs p (digit b) q) (MarkRead bs n s p) (mark_at bs p) _ (mark_when bs p) (λ b q h. go b q h)
  where
    go : (b : Bool) (q : ℕ) → Number bs p (digit b) q → When (MarkRead bs n s p) (cond b (spend n p true s q) (done (false, s) q))
    go true q h = cond_when (MarkRead bs n s p) (leb n s) (done (true, s - n) q) (refused CellsLacking p) (λ e. (h, omega (arith, leb-true n s e))) (λ e. tt)
    go false q h = (h, omega arith)

list_when : (bs : List ℕ) (A : Ty) (d : Decoder Val) → ((s p : ℕ) → When (Decoded bs A s p) (d s bs p)) → (k s p : ℕ) → When (Decoded bs (list_of A) s p) (list_at d k s bs p)
unfolding list_at Spells
list_when bs A d h zero s p = tt
list_when bs A d h (suc k) s p =
    let Q = Decoded bs (list_of A) s p in
    then_when (MarkRead bs 1 s p) Q (marked 1 s bs p) _ (marked_when 1 s bs p) (λ r q a.
    cond_when Q r.0 _ _
    (λ e. then_when (Decoded bs A r.1 q) Q (d r.1 bs q) _ (h r.1 q) (λ x q₂ c.
    then_when (Decoded bs (list_of A) x.1 q₂) Q (list_at d k x.1 bs q₂) _ (list_when bs A d h k x.1 q₂) (λ y q₃ u.
    ((refl, (q, q₂, subst (λ b. Number bs p (digit b) q) e a.0, c.0, u.0)), omega (arith, ap (λ b. digit b) e, a.1, c.1, u.1)))))
    (λ e. ((refl, subst (λ b. Number bs p (digit b) q) e a.0), omega (arith, ap (λ b. digit b) e, a.1))))

tree_when : (bs : List ℕ) (A : Ty) (d : Decoder Val) → ((s p : ℕ) → When (Decoded bs A s p) (d s bs p)) → (k s p : ℕ) → When (Decoded bs (tree_of A) s p) (tree_at d k s bs p)
unfolding tree_at Spells
tree_when bs A d h zero s p = tt
tree_when bs A d h (suc k) s p =
    let Q = Decoded bs (tree_of A) s p in
    then_when (MarkRead bs 2 s p) Q (marked 2 s bs p) _ (marked_when 2 s bs p) (λ r q a.
    then_when (Decoded bs A r.1 q) Q (d r.1 bs q) _ (h r.1 q) (λ x q₂ c.
    cond_when Q r.0 _ _
    (λ e. then_when (Decoded bs (tree_of A) x.1 q₂) Q (tree_at d k x.1 bs q₂) _ (tree_when bs A d h k x.1 q₂) (λ l q₃ u.
    then_when (Decoded bs (tree_of A) l.1 q₃) Q (tree_at d k l.1 bs q₃) _ (tree_when bs A d h k l.1 q₃) (λ y q₄ w.
    ((refl, (q, q₂, q₃, subst (λ b. Number bs p (digit b) q) e a.0, c.0, u.0, w.0)), omega (arith, ap {B = ℕ} (λ b. cond b 2 0) e, a.1, c.1, u.1, w.1)))))
    (λ e. ((refl, (q, subst (λ b. Number bs p (digit b) q) e a.0, c.0)), omega (arith, ap {B = ℕ} (λ b. cond b 2 0) e, a.1, c.1)))))

pub decoded : (bs : List ℕ) (A : Ty) (s p : ℕ) → When (Decoded bs A s p) (value_at A s bs p)
unfolding value_at Spells
decoded bs int s p = then_when (Number bs p) (Decoded bs int s p) (number_at bs p) _ (number_when bs p) (λ c q h. ((refl, (c, h, refl)), omega arith))
decoded bs diamond s p = cond_when (Decoded bs diamond s p) (leb 1 s) (done (dia, s - 1) p) (refused CellsLacking p) (λ e. ((refl, refl), omega (arith, leb-true 1 s e))) (λ e. tt)
decoded bs (list_of A) s p = list_when bs A (value_at A) (decoded bs A) (length bs) s p
decoded bs (tree_of A) s p = tree_when bs A (value_at A) (decoded bs A) (length bs) s p
decoded bs (pair_of A B) s p =
    let Q = Decoded bs (pair_of A B) s p in
    then_when (Decoded bs A s p) Q (value_at A s bs p) _ (decoded bs A s p) (λ x q a.
    then_when (Decoded bs B x.1 q) Q (value_at B x.1 bs q) _ (decoded bs B x.1 q) (λ y q₂ b. ((refl, (q, a.0, b.0)), omega (arith, a.1, b.1))))
decoded bs (sum_of A B) s p =
    let Q = Decoded bs (sum_of A B) s p in
    then_when (MarkRead bs 0 s p) Q (marked 0 s bs p) _ (marked_when 0 s bs p) (λ r q a.
    cond_when Q r.0 _ _
    (λ e. then_when (Decoded bs B r.1 q) Q (value_at B r.1 bs q) _ (decoded bs B r.1 q) (λ x q₂ b.
    ((refl, (q, subst (λ b. Number bs p (digit b) q) e a.0, b.0)), omega (arith, ap {B = ℕ} (λ b. cond b 0 0) e, a.1, b.1))))
    (λ e. then_when (Decoded bs A r.1 q) Q (value_at A r.1 bs q) _ (decoded bs A r.1 q) (λ x q₂ b.
    ((refl, (q, subst (λ b. Number bs p (digit b) q) e a.0, b.0)), omega (arith, ap {B = ℕ} (λ b. cond b 0 0) e, a.1, b.1)))))

-- ---- what is spelled is in the set of its type

code_fits : (c : ℕ) (b : Bool) → c < 2 ^ 32 → SFits w32 (cond b (pos (c / 2)) (negsuc (c / 2)))
code_fits c true h = record { sfits = omega arith }
code_fits c false h = record { sfits = omega arith }

pub unzigzag_fits : (c : ℕ) → c < 2 ^ 32 → SFits w32 (unzigzag c)
unzigzag_fits c h = code_fits c (eqb (c % 2) 0) h

number_fits : (bs : List ℕ) (p c q : ℕ) → Number bs p c q → c < 2 ^ 32
number_fits bs p c q n =
    let w : Right 4 (drop p bs) (got c n.0) = subst (Right 4 (drop p bs)) n.1 (numeral_right 4 (drop p bs)) in
    omega (arith, w.1)

spelled_in : (bs : List ℕ) (A : Ty) (v : Val) (p q : ℕ) → Spells bs A v p q → In A v
unfolding Spells
spelled_in bs A (num z) p q s = (s.0, subst (SFits w32) (sym s.1.2) (unzigzag_fits s.1.0 (number_fits bs p s.1.0 q s.1.1)))
spelled_in bs A dia p q s = s.0
spelled_in bs A nil p q s = s.0
spelled_in bs A (cons a b) p q s = (s.0, spelled_in bs (first A) a _ _ s.1.3, spelled_in bs A b _ _ s.1.4)
spelled_in bs A (leaf a) p q s = (s.0, spelled_in bs (first A) a _ _ s.1.2)
spelled_in bs A (node a l r) p q s = (s.0, spelled_in bs (first A) a _ _ s.1.4, spelled_in bs A l _ _ s.1.5, spelled_in bs A r _ _ s.1.6)
spelled_in bs A (pair a b) p q s = (s.0, spelled_in bs (first A) a _ _ s.1.1, spelled_in bs (second A) b _ _ s.1.2)
spelled_in bs A (left a) p q s = (s.0, spelled_in bs (first A) a _ _ s.1.2)
spelled_in bs A (right a) p q s = (s.0, spelled_in bs (second A) a _ _ s.1.2)

pub whole_decoded : (bs : List ℕ) (A : Ty) (s : ℕ) → When (Decoded bs A s 0) (decode bs A s)
whole_decoded bs A s = then_when (Decoded bs A s 0) (Decoded bs A s 0) (value_at A s bs 0) _ (decoded bs A s 0) (λ r q h.
    cond_when (Decoded bs A s 0) (ltb q (length bs)) (refused BytesOver q) (done r q) (λ e. tt) (λ e. h))

pub is_decoded : (bs : List ℕ) (A : Ty) (s : ℕ) → IsDecoded A s (decode bs A s)
is_decoded bs A s = go (decode bs A s) (whole_decoded bs A s)
  where
    go : (r : Scan (Val × ℕ)) → When (Decoded bs A s 0) r → IsDecoded A s r
    go (done r q) h = (spelled_in bs A r.0 0 q h.0, h.1)
    go (refused why q) h = tt

-- ---- what is spelled is decoded

number_reads : (bs : List ℕ) (p c q : ℕ) → Number bs p c q → number_at bs p ≡ done c q
unfolding number_at
number_reads bs p c q n = ap (λ r. begun r p) n.1 ∙ ap (done c) (sym n.2)

mark_reads : (bs : List ℕ) (p q : ℕ) (b : Bool) → Number bs p (digit b) q → mark_at bs p ≡ done b q
unfolding mark_at within_at
mark_reads bs p q true n = ap (λ r. then (then r (λ v p'. cond (leb 0 v && ltb v 2) (done v p') (refused OutOfRange p))) (λ v p'. done (eqb v 1) p')) (number_reads bs p 1 q n)
mark_reads bs p q false n = ap (λ r. then (then r (λ v p'. cond (leb 0 v && ltb v 2) (done v p') (refused OutOfRange p))) (λ v p'. done (eqb v 1) p')) (number_reads bs p 0 q n)

spend_reads : {X : Type 0} (n q : ℕ) (x : X) (s p : ℕ) → n ≤ s → spend n q x s p ≡ done (x, s - n) p
spend_reads {X} n q x s p h = ap {B = Scan (X × ℕ)} (λ b. cond b (done (x, s - n) p) (refused CellsLacking q)) (le-leb n s h)

marked_reads : (n s : ℕ) (bs : List ℕ) (p q : ℕ) (b : Bool) (s' : ℕ) → Number bs p (digit b) q → s' + cond b n 0 ≡ s → marked n s bs p ≡ done (b, s') q
marked_reads n s bs p q true s' h e = ap (λ r. then r (λ more q. cond more (spend n p true s q) (done (false, s) q))) (mark_reads bs p q true h) ∙ spend_reads n p true s q (omega arith) ∙ ap (λ i. done (true, i) q) (omega arith)
marked_reads n s bs p q false s' h e = ap (λ r. then r (λ more q. cond more (spend n p true s q) (done (false, s) q))) (mark_reads bs p q false h) ∙ ap (λ i. done (false, i) q) (omega arith)

step : {X Y : Type 0} (r : Scan (X × ℕ)) (x : X) (s p : ℕ) (k : X × ℕ → ℕ → Scan Y) (y : Scan Y) → r ≡ done (x, s) p → k (x, s) p ≡ y → then r k ≡ y
step r x s p k y e f = ap (λ r. then r k) e ∙ f

pub reads : (bs : List ℕ) (A : Ty) (v : Val) (p q s s' : ℕ) → Spells bs A v p q → charge v + s' ≡ s → value_at A s bs p ≡ done (v, s') q
unfolding Spells value_at list_at tree_at
reads bs A (num z) p q s s' h k = subst (λ X. value_at X s bs p ≡ done (num z, s') q) (sym h.0)
    (ap (λ r. then r (λ c q. done (num (unzigzag c), s) q)) (number_reads bs p h.1.0 q h.1.1) ∙ ap₂ (λ y i. done (num y, i) q) (sym h.1.2) (omega (arith, k)))
reads bs A dia p q s s' h k = subst (λ X. value_at X s bs p ≡ done (dia, s') q) (sym h.0)
    (spend_reads 1 p dia s p (omega (arith, k)) ∙ ap₂ (λ i j. done (dia, i) j) (omega (arith, k)) (sym h.1))
reads bs A nil p q s s' h k = subst (λ X. value_at X s bs p ≡ done (nil, s') q) (sym h.0) (value_list bs (first A) s p
    ∙ step (marked 1 s bs p) false s' q _ _ (marked_reads 1 s bs p q false s' h.1 (omega (arith, k))) refl)
reads bs A (cons a b) p q s s' h k =
    let i = h.1.0 in
    let j = h.1.1 in
    let s₁ = charge b + s' in
    let tail = subst (λ X. value_at X s₁ bs j ≡ done (b, s') q) h.0 (reads bs A b j q s₁ s' h.1.4 refl) in
    subst (λ X. value_at X s bs p ≡ done (cons a b, s') q) (sym h.0) (value_list bs (first A) s p
    ∙ step (marked 1 s bs p) true (charge a + s₁) i _ _ (marked_reads 1 s bs p i true (charge a + s₁) h.1.2 (omega (arith, k)))
    (step (value_at (first A) (charge a + s₁) bs i) a s₁ j _ _ (reads bs (first A) a i j (charge a + s₁) s₁ h.1.3 refl)
    (step (value_at (list_of (first A)) s₁ bs j) b s' q _ _ tail refl)))
reads bs A (leaf a) p q s s' h k =
    let i = h.1.0 in
    subst (λ X. value_at X s bs p ≡ done (leaf a, s') q) (sym h.0) (value_tree bs (first A) s p
    ∙ step (marked 2 s bs p) false s i _ _ (marked_reads 2 s bs p i false s h.1.1 (omega arith))
    (step (value_at (first A) s bs i) a s' q _ _ (reads bs (first A) a i q s s' h.1.2 k) refl))
reads bs A (node a l r) p q s s' h k =
    let i = h.1.0 in
    let j = h.1.1 in
    let n = h.1.2 in
    let s₂ = charge r + s' in
    let s₁ = charge l + s₂ in
    let tl = subst (λ X. value_at X s₁ bs j ≡ done (l, s₂) n) h.0 (reads bs A l j n s₁ s₂ h.1.5 refl) in
    let tr = subst (λ X. value_at X s₂ bs n ≡ done (r, s') q) h.0 (reads bs A r n q s₂ s' h.1.6 refl) in
    subst (λ X. value_at X s bs p ≡ done (node a l r, s') q) (sym h.0) (value_tree bs (first A) s p
    ∙ step (marked 2 s bs p) true (charge a + s₁) i _ _ (marked_reads 2 s bs p i true (charge a + s₁) h.1.3 (omega (arith, k)))
    (step (value_at (first A) (charge a + s₁) bs i) a s₁ j _ _ (reads bs (first A) a i j (charge a + s₁) s₁ h.1.4 refl)
    (step (value_at (tree_of (first A)) s₁ bs j) l s₂ n _ _ tl
    (step (value_at (tree_of (first A)) s₂ bs n) r s' q _ _ tr refl))))
reads bs A (pair a b) p q s s' h k =
    let i = h.1.0 in
    subst (λ X. value_at X s bs p ≡ done (pair a b, s') q) (sym h.0)
    (step (value_at (first A) s bs p) a (charge b + s') i _ _ (reads bs (first A) a p i s (charge b + s') h.1.1 (omega (arith, k)))
    (step (value_at (second A) (charge b + s') bs i) b s' q _ _ (reads bs (second A) b i q (charge b + s') s' h.1.2 refl) refl))
reads bs A (left a) p q s s' h k =
    let i = h.1.0 in
    subst (λ X. value_at X s bs p ≡ done (left a, s') q) (sym h.0)
    (step (marked 0 s bs p) false s i _ _ (marked_reads 0 s bs p i false s h.1.1 (omega arith))
    (step (value_at (first A) s bs i) a s' q _ _ (reads bs (first A) a i q s s' h.1.2 k) refl))
reads bs A (right a) p q s s' h k =
    let i = h.1.0 in
    subst (λ X. value_at X s bs p ≡ done (right a, s') q) (sym h.0)
    (step (marked 0 s bs p) true s i _ _ (marked_reads 0 s bs p i true s h.1.1 (omega arith))
    (step (value_at (second A) s bs i) a s' q _ _ (reads bs (second A) a i q s s' h.1.2 k) refl))
