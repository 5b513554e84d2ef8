-- The pair of two pools: what a call on one of them does to the pair.
use Rattle.std.proofs.Common.{◌≡◌, ℕ, zero, suc, ◌+◌, ◌-◌, ◌<◌, ◌≤◌, Bool, true, false, cond, ◌&&◌, ltb, leb, [], ◌++◌, get_or, set, is_some, Some, None, unwrap_or, sym, refl, ap, ◌∙◌, subst, arith}
use Rattle.std.proofs.lemmas.List.{length-set, get_or_append_left, get_or-append_right, set-append_left, set-append_right}
use Rattle.std.proofs.lemmas.Bool.{and_parts}
use Rattle.pool.specs.Pools.{Cell, Meaning, limit, held, is_taken, zeros, placed, Takes, Gives, word_at, Writes, fit, both, paired}
use Rattle.pool.specs.Sides.{Inside}
use Rattle.pool.specs.Lawfulness.{limit_both, by_fit}
use Rattle.pool.proofs.Laws.{held_is, held_past, same_meaning, taken_low, takes_cell, gives, writes}

-- A pool m as part of a whole W m: the cell k of the one is the cell n of the other, so that a change of it is a change of the whole, in which the count moves alike.
record Part (W : Meaning → Meaning) (m : Meaning) (k n : ℕ) : Type 0 where
  pub same : held (W m) n ≡ held m k
  pub low : 1 ≤ k → 1 ≤ n
  pub high : k ≤ limit m → n ≤ limit (W m)
  pub over : m.free ≤ (W m).free
  pub moved : (c : Cell) (f g : ℕ) → 1 ≤ k → g + m.free ≡ f + (W m).free → W (record { cells = placed m k c; free = f }) ≡ record { cells = placed (W m) n c; free = g }

take_part : (W : Meaning → Meaning) (m m' : Meaning) (k n : ℕ) → Part W m k n → Takes m (Some k) m' → Takes (W m) (Some n) (W m')
take_part W m m' k n i t =
    let u = t.cases in
    let more = u.spare in
    takes_cell (W m) (W m') n (record {
      spare = omega (arith, i.over);
      low = i.low u.low;
      high = i.high u.high;
      fresh = i.same ∙ u.fresh;
      after = ap W u.after ∙ i.moved (Some zeros) (m.free - 1) ((W m).free - 1) u.low (omega (arith, i.over));
    })

give_part : (W : Meaning → Meaning) (m m' : Meaning) (k n : ℕ) (b : Bool) → Part W m k n → Gives m k b m' → Gives (W m) n b (W m')
give_part W m m' k n true i v =
    gives (W m) (W m') n true (v.answer ∙ ap is_some (sym i.same))
    (ap W v.after ∙ i.moved None (m.free + 1) ((W m).free + 1) (taken_low m k (sym v.answer)) (omega arith))
give_part W m m' k n false i v = gives (W m) (W m') n false (v.answer ∙ ap is_some (sym i.same)) (ap W v.after)

read_part : (W : Meaning → Meaning) (m : Meaning) (k n w : ℕ) → Part W m k n → word_at m k w ≡ word_at (W m) n w
read_part W m k n w i = ap (λ c. cond (is_some c && ltb w 16) (Some (get_or (unwrap_or c []) w 0)) None) (sym i.same)

write_part : (W : Meaning → Meaning) (m m' : Meaning) (k n w v : ℕ) (b : Bool) → Part W m k n → Writes m k w v b m' → Writes (W m) n w v b (W m')
write_part W m m' k n w v true i d =
    let same : held m k ≡ held (W m) n = sym i.same in
    writes (W m) (W m') n w v true (d.answer ∙ ap (λ c. is_some c && ltb w 16) same)
    (ap W d.after ∙ i.moved (Some (set (unwrap_or (held m k) []) w v)) m.free (W m).free (taken_low m k (and_parts (is_taken m k) (ltb w 16) (sym d.answer)).0) (omega arith)
    ∙ ap (λ c. record { cells = placed (W m) n (Some (set (unwrap_or c []) w v)); free = (W m).free }) same)
write_part W m m' k n w v false i d = writes (W m) (W m') n w v false (d.answer ∙ ap (λ c. is_some c && ltb w 16) (sym i.same)) (ap W d.after)

-- so it stands for the cell of the whole
inside : (W : Meaning → Meaning) (m : Meaning) (k n : ℕ) → Part W m k n → Inside W m k n
inside W m k n p = record {
  gives = λ b m' v. give_part W m m' k n b p v;
  reads = λ w. read_part W m k n w p;
  writes = λ w v b m' d. write_part W m m' k n w v b p d;
}

-- the pair, where the pools can be joined and where not
paired_fit : (l r : Meaning) → fit l r ≡ true → paired l r ≡ both l r
paired_fit l r e = rw e refl

paired_not : (l r : Meaning) → fit l r ≡ false → paired l r ≡ l
paired_not l r e = rw e refl

-- cells of the left pool
both_left : (l r : Meaning) (n : ℕ) → n ≤ limit l → held (both l r) n ≡ held l n
both_left l r zero h = refl
both_left l r (suc n) h = get_or_append_left l.cells r.cells None n (omega arith)

-- cells of the right pool
both_right : (l r : Meaning) (k : ℕ) → 1 ≤ k → held (both l r) (limit l + k) ≡ held r k
both_right l r k h =
    held_is (both l r) (limit l + k) (omega arith)
    ∙ get_or-append_right l.cells r.cells (limit l) (limit l + k - 1) None refl (omega arith)
    ∙ ap (λ i. get_or r.cells i None) (let e : limit l + k - 1 - limit l ≡ k - 1 = omega arith in e)
    ∙ sym (held_is r k h)

-- the left pool within the pair
part_left : (l r : Meaning) (n : ℕ) → n ≤ limit l → Part (λ x. paired x r) l n n
part_left l r n h = record {
  same = by_fit (λ x. held x n ≡ held l n) l r (λ _. both_left l r n h) (λ _. refl);
  low = λ p. p;
  high = λ _. by_fit (λ x. n ≤ limit x) l r (λ _. omega (arith, limit_both l r)) (λ _. h);
  over = by_fit (λ x. l.free ≤ x.free) l r (λ _. omega arith) (λ _. omega arith);
  moved = λ c f g p.
      let l' : Meaning = record { cells = placed l n c; free = f } in
      let kept : fit l' r ≡ fit l r = ap (λ k. leb (k + limit r) 65535) (length-set l.cells (n - 1) c) in
      by_fit (λ x. g + l.free ≡ f + x.free → paired l' r ≡ record { cells = placed x n c; free = g }) l r
      (λ e q. paired_fit l' r (kept ∙ e) ∙ same_meaning _ _ _ _ (sym (set-append_left l.cells r.cells (n - 1) c (omega arith))) (omega arith))
      (λ e q. paired_not l' r (kept ∙ e) ∙ same_meaning _ _ _ _ refl (omega arith));
}

-- the right pool within the pair
part_right : (l r : Meaning) (k : ℕ) → fit l r ≡ true → 1 ≤ k → Part (λ x. paired l x) r k (limit l + k)
part_right l r k e p =
    let is = sym (paired_fit l r e) in record {
      same = subst (λ x. held x (limit l + k) ≡ held r k) is (both_right l r k p);
      low = λ _. omega arith;
      high = λ h. subst (λ x. limit l + k ≤ limit x) is (omega (arith, limit_both l r));
      over = subst (λ x. r.free ≤ x.free) is (omega arith);
      moved = λ c f g _.
          let r' : Meaning = record { cells = placed r k c; free = f } in
          let kept : fit l r' ≡ fit l r = ap (λ i. leb (limit l + i) 65535) (length-set r.cells (k - 1) c) in
          let at : limit l + k - 1 - limit l ≡ k - 1 = omega arith in
          subst (λ x. g + r.free ≡ f + x.free → paired l r' ≡ record { cells = placed x (limit l + k) c; free = g }) is
          (λ q. paired_fit l r' (kept ∙ e) ∙ same_meaning _ _ _ _
          (ap (λ i. l.cells ++ set r.cells i c) (sym at) ∙ sym (set-append_right l.cells r.cells (limit l) (limit l + k - 1) c refl (omega arith))) (omega arith));
    }

-- the bound, once the pools are joined
pub bound_both : (l r : Meaning) (a b : ℕ) → a ≡ limit l → b ≡ limit r → true ≡ fit l r → a + b ≡ limit (paired l r)
bound_both l r a b p q e = subst (λ x. a + b ≡ limit x) (sym (paired_fit l r (sym e))) (omega (arith, limit_both l r))

-- `take` and `side` as the code has them, where base is the left pool's bound
pub take_left : (l l' r : Meaning) (n : ℕ) → Takes l (Some n) l' → Takes (paired l r) (Some n) (paired l' r)
take_left l l' r n t = take_part (λ x. paired x r) l l' n n (part_left l r n t.cases.high) t

module _ (l r : Meaning) (base : ℕ) (is : base ≡ limit l) where
  pub take_right : (m r' : Meaning) (k : ℕ) → Takes m None l → true ≡ fit l r → Takes r (Some k) r' → Takes (paired m r) (Some (base + k)) (paired l r')
  take_right m r' k s e t =
      subst (λ x. Takes (paired x r) (Some (base + k)) (paired l r')) s.cases.1
      (rw is (take_part (λ x. paired l x) r r' k (limit l + k) (part_right l r k (sym e) t.cases.low) t))

  pub side_left : (n : ℕ) → n ≤ base → Inside (λ x. paired x r) l n n
  side_left n h = inside (λ x. paired x r) l n n (part_left l r n (omega arith))

  pub side_right : (n : ℕ) → base < n → true ≡ fit l r → Inside (λ x. paired l x) r (n - base) n
  side_right n h e =
      subst (λ i. Inside (λ x. paired l x) r (n - base) i) (let q : limit l + (n - base) ≡ n = omega arith in q)
      (inside (λ x. paired l x) r (n - base) (limit l + (n - base)) (part_right l r (n - base) (sym e) (omega arith)))

  pub side_neither : (n : ℕ) → base < n → false ≡ fit l r → held (paired l r) n ≡ None
  side_neither n h e = subst (λ x. held x n ≡ None) (sym (paired_not l r (sym e))) (held_past l n (omega arith))
