-- Laws of a pool's meaning, for code above any pool.
use Rattle.std.proofs.Common.{◌≡◌, ℕ, zero, suc, ◌+◌, ◌-◌, ◌<◌, ◌≤◌, Bool, true, false, cond, ◌&&◌, ltb, ◌≢◌, List, [], length, get_or, set, is_some, Some, None, Option, unwrap_or, sym, refl, ap, ◌∙◌, subst, ⊎_elim, sub-one, arith}
use Rattle.std.proofs.lemmas.List.{get_or-set_same, get_or-set_other, set-set, set-get_or, length-set, get_or_past, length-replicate, replicate-append-replicate}
use Rattle.std.proofs.ByRecursion.{All-get_or}
use Rattle.std.proofs.lemmas.Bool.{lt-ltb, le-leb, true≢false, cases_lt}
use Rattle.pool.specs.Pools.{Cell, Meaning, limit, held, is_taken, zeros, placed, Sixteen, Lawful, after_give, after_write, TakesCell, Takes, Gives, word_at, has_word, Writes, all_free, fit, paired}

-- equal parts make equal meanings
pub same_meaning : (a b : List Cell) (f g : ℕ) → a ≡ b → f ≡ g → ◌≡◌ {A = Meaning} (record { cells = a; free = f }) (record { cells = b; free = g })
same_meaning a b f g p q = rw (p, q) refl

-- where a cell stands in the list
pub held_is : (m : Meaning) (n : ℕ) → 1 ≤ n → held m n ≡ get_or m.cells (n - 1) None
held_is m zero h = absurd (omega arith)
held_is m (suc k) h = rw sub-one refl

-- past the bound there is no cell
pub held_past : (m : Meaning) (n : ℕ) → limit m < n → held m n ≡ None
held_past m n h = held_is m n (omega arith) ∙ get_or_past m.cells (n - 1) None (omega arith)

-- a taken cell has a number from 1
pub taken_low : (m : Meaning) (n : ℕ) → is_taken m n ≡ true → 1 ≤ n
taken_low m zero e = absurd (true≢false (sym e))
taken_low m (suc n) e = omega arith

-- .. up to the bound
pub taken_high : (m : Meaning) (n : ℕ) → is_taken m n ≡ true → n ≤ limit m
taken_high m n t = ⊎_elim (λ l. absurd (true≢false (sym t ∙ ap is_some (held_past m n l)))) (λ h. h) (cases_lt (limit m) n)

-- the cell that is changed
pub held_same : (m : Meaning) (n f : ℕ) (c : Cell) → 1 ≤ n → n ≤ limit m → held (record { cells = placed m n c; free = f }) n ≡ c
held_same m n f c h l =
    held_is (record { cells = placed m n c; free = f }) n h ∙ get_or-set_same m.cells (n - 1) c None (omega arith)

-- the others
pub held_other : (m : Meaning) (n k f : ℕ) (c : Cell) → 1 ≤ n → k ≢ n → held (record { cells = placed m n c; free = f }) k ≡ held m k
held_other m n zero f c h ne = refl
held_other m n (suc k) f c h ne =
    let apart : k ≢ n - 1 = λ e. ne (omega arith) in
    get_or-set_other m.cells (n - 1) k c None apart

-- a taken cell's words are sixteen
sixteen_long : (c : Cell) → is_some c ≡ true → Sixteen c → length (unwrap_or c []) ≡ 16
sixteen_long None t s = absurd (true≢false (sym t))
sixteen_long (Some ws) t s = s

pub held_long : (m : Meaning) (n : ℕ) → Lawful m → is_taken m n ≡ true → length (unwrap_or (held m n) []) ≡ 16
held_long m n l t =
    let low = taken_low m n t in
    let high = taken_high m n t in
    let P : Cell → Type 0 = Sixteen in
    sixteen_long (held m n) t (subst P (sym (held_is m n low)) (All-get_or Sixteen m.cells (n - 1) None (omega arith) l.wide))

-- The calls, from what they do: the bound stays by itself.
pub takes_none : (m m' : Meaning) → m.free ≡ 0 → m' ≡ m → Takes m None m'
takes_none m m' z e = record { cases = (z, e); bound = ap limit e }

pub takes_cell : (m m' : Meaning) (n : ℕ) → TakesCell m n m' → Takes m (Some n) m'
takes_cell m m' n t = record { cases = t; bound = ap limit t.after ∙ length-set m.cells (n - 1) (Some zeros) }

pub gives : (m m' : Meaning) (n : ℕ) (r : Bool) → r ≡ is_taken m n → m' ≡ cond r (after_give m n) m → Gives m n r m'
gives m m' n true a e = record { answer = a; after = e; bound = ap limit e ∙ length-set m.cells (n - 1) None }
gives m m' n false a e = record { answer = a; after = e; bound = ap limit e }

pub writes : (m m' : Meaning) (n k w : ℕ) (r : Bool) → r ≡ has_word m n k → m' ≡ cond r (after_write m n k w) m → Writes m n k w r m'
writes m m' n k w true a e = record { answer = a; after = e; bound = ap limit e ∙ length-set m.cells (n - 1) (Some (set (unwrap_or (held m n) []) k w)) }
writes m m' n k w false a e = record { answer = a; after = e; bound = ap limit e }

-- a cell that is not taken is neither given, read nor written
pub give_none : (m : Meaning) (n : ℕ) → held m n ≡ None → Gives m n false m
give_none m n e = gives m m n false (sym (ap is_some e)) refl

pub read_none : (m : Meaning) (n k : ℕ) → held m n ≡ None → word_at m n k ≡ None
read_none m n k e = ap (λ c. cond (is_some c && ltb k 16) (Some (get_or (unwrap_or c []) k 0)) None) e

pub write_none : (m : Meaning) (n k w : ℕ) → held m n ≡ None → Writes m n k w false m
write_none m n k w e = writes m m n k w false (sym (ap (λ c. is_some c && ltb k 16) e)) refl

-- a cell that was free, taken and given back, whatever was written in between
pub given_back : (m : Meaning) (n f : ℕ) (c : Cell) → 1 ≤ n → held m n ≡ None → f + 1 ≡ m.free → after_give (record { cells = placed m n c; free = f }) n ≡ m
given_back m n f c h e q =
    same_meaning _ _ _ _
    (set-set m.cells (n - 1) c None ∙ ap (λ x. set m.cells (n - 1) x) (sym e ∙ held_is m n h) ∙ set-get_or m.cells (n - 1) None)
    q

-- the cell that take answers holds zeros
pub took : (m m' : Meaning) (n : ℕ) → Takes m (Some n) m' → held m' n ≡ Some zeros
took m m' n t = let u = t.cases in ap (λ x. held x n) u.after ∙ held_same m n (m.free - 1) (Some zeros) u.low u.high

-- a cell taken and given back at once
pub take_give : (m m' m'' : Meaning) (n : ℕ) (r : Bool) → Takes m (Some n) m' → Gives m' n r m'' → (r ≡ true) × (m'' ≡ m)
take_give m m' m'' n r t v =
    let u = t.cases in
    let b : r ≡ true = v.answer ∙ ap is_some (took m m' n t) in
    (b, v.after ∙ ap (λ x. cond x (after_give m' n) m') b ∙ ap (λ x. after_give x n) u.after ∙ given_back m n (m.free - 1) (Some zeros) u.low u.fresh (omega (arith, u.spare)))

-- a taken cell is written
pub write_taken : (m m' : Meaning) (n k w : ℕ) (r : Bool) (ws : List ℕ) → held m n ≡ Some ws → k < 16 → Writes m n k w r m'
    → (r ≡ true) × (m' ≡ record { cells = placed m n (Some (set ws k w)); free = m.free })
write_taken m m' n k w r ws e l v =
    let b : r ≡ true = v.answer ∙ rw (e, lt-ltb k 16 l) refl in
    (b, v.after ∙ rw (b, e) refl)

-- a word of a taken cell is read
pub word_taken : (m : Meaning) (n k : ℕ) (ws : List ℕ) → held m n ≡ Some ws → k < 16 → word_at m n k ≡ Some (get_or ws k 0)
word_taken m n k ws e l = rw (e, lt-ltb k 16 l) refl

-- a word that is there is not read as none
pub never_none : {A : Type 0} (o : Option A) (x : A) → None ≡ o → o ≡ Some x → ⊥
never_none o x p q = let z : ◌≡◌ {A = ℕ} 0 1 = cc in omega arith

-- two pools all of whose cells are free, joined, are such a pool
pub paired_free : (a b : ℕ) → a + b ≤ 65535 → paired (all_free a) (all_free b) ≡ all_free (a + b)
paired_free a b h =
    let fits : fit (all_free a) (all_free b) ≡ true = le-leb _ _ (omega (arith, length-replicate {A = Cell} a None, length-replicate {A = Cell} b None)) in
    rw fits (same_meaning _ _ (a + b) (a + b) (replicate-append-replicate a b None) refl)
