-- Steps one after another.
use Rattle.std.proofs.Common.{◌≡◌, ℕ, zero, suc, ◌+◌, ◌-◌, ◌<◌, ◌≤◌, true, ◌⊎◌, sym, refl, ap, ◌∙◌, subst, inl, inr, add-zero, add_assoc, zero-add, arith}
use mathlib.Core.Bool.{false≢true}
use Rattle.lfpl.specs.Syntax.{Ty, Program}
use Rattle.meaning.specs.Machine.{State, run, after}
use Rattle.meaning.specs.Mean.{limited}
use Rattle.pool.specs.Pools.{Meaning}
use Rattle.code.specs.declared.Code.{Code}
use Rattle.machine.specs.Enacting.{Shape, Enacts}
use Rattle.machine.specs.Stepping.{Rest, Returning, Takes, turned, Says, Carried, goes, progress_of}
use Rattle.machine.specs.declared.Limit.TheVariants as Limit
use Rattle.machine.specs.declared.Machine.{Machine}
use Rattle.machine.specs.declared.Mode.{Mode}
use Rattle.machine.specs.declared.Mode.TheVariants.{Begin, Return, Done, Halted}
use Rattle.machine.proofs.Beginning.{rest_then}
use Rattle.machine.proofs.Turning.{rest_same}

-- So many of at most n steps from the state s are taken: what is left of them is to be taken from the state that is enacted now.
pub record Midway (p : Program) (R : Ty) (code : Code) (m : Meaning) (x : Machine) (s : State) (n count : ℕ) (m' : Meaning) (x' : Machine) : Type 0 where
  pub state : State
  pub enacts : Enacts p R code m' x' state
  pub settled : Returning x'.mode → ⊥
  pub left : run p limited n s ≡ after count (run p limited (n - count) state)
  pub rest : Rest m x m' x'

after_zero : (r : State × ℕ) → after 0 r ≡ r
after_zero (s, k) = rw zero-add refl

after_after : (a b : ℕ) (r : State × ℕ) → after a (after b r) ≡ after (a + b) r
after_after a b (s, k) = rw add_assoc refl

-- no other mode goes on
pub only_begins : (d : Mode) → goes d ≡ true → ((i b e u : ℕ) → d ≡ Begin i b e u → ⊥) → ⊥
only_begins (Begin i b e u) q other = other i b e u refl
only_begins Return q other = false≢true q
only_begins Done q other = false≢true q
only_begins (Halted y) q other = false≢true q

module _ (p : Program) (R : Ty) (code : Code) (m : Meaning) (x : Machine) (s : State) (n : ℕ) where
  pub midway_none : Enacts p R code m x s → (Returning x.mode → ⊥) → Midway p R code m x s n 0 m x
  midway_none f q = record {
    state = s;
    enacts = f;
    settled = q;
    left = sym (after_zero (run p limited n s)) ∙ ap (λ (k : ℕ). after 0 (run p limited k s)) (omega arith);
    rest = rest_same m x x refl;
  }

  module _ (count : ℕ) (m' m'' : Meaning) (x' x'' : Machine) where
    run_on : (d : Mode) (t : State) → goes d ≡ true → Shape p R code m' x' d t → (k : ℕ) → run p limited (suc k) t ≡ after 1 (run p limited k (turned d p t))
    run_on (Begin i b e u) t q h k = rw h.2 refl
    run_on Return t q h k = absurd (false≢true q)
    run_on Done t q h k = absurd (false≢true q)
    run_on (Halted y) t q h k = absurd (false≢true q)

    -- one more
    pub midway_more : count < n → goes x'.mode ≡ true → (c : Midway p R code m x s n count m' x') → Enacts p R code m'' x'' (turned x'.mode p c.state) × Rest m' x' m'' x'' → (Returning x''.mode → ⊥)
        → Midway p R code m x s n (count + 1) m'' x''
    midway_more l e c f q =
        let one_off : n - count ≡ suc (n - (count + 1)) = omega arith in
        record {
          state = turned x'.mode p c.state;
          enacts = f.0;
          settled = q;
          left = c.left ∙ ap (λ (k : ℕ). after count (run p limited k c.state)) one_off
              ∙ ap (after count) (run_on x'.mode c.state e c.enacts.shape (n - (count + 1))) ∙ after_after count 1 (run p limited (n - (count + 1)) (turned x'.mode p c.state));
          rest = rest_then m m' m'' x x' x'' c.rest f.1;
        }

    run_stop : (d : Mode) (t : State) (k : ℕ) → (Returning d → ⊥) → (goes d ≡ true → k ≡ 0) → Shape p R code m' x' d t → run p limited k t ≡ (t, 0)
    run_stop d t zero q e h = refl
    run_stop (Begin i b d u) t (suc k) q e h = absurd (let z = e refl in omega arith)
    run_stop Return t (suc k) q e h = absurd (q tt)
    run_stop Done t (suc k) q e h = rw h.1 refl
    run_stop (Halted y) t (suc k) q e h = rw h refl

    says : (d : Mode) (t : State) → (Returning d → ⊥) → Shape p R code m' x' d t → Says (progress_of d) t
    says (Begin i b e u) t q h = rw h.2 refl
    says Return t q h = absurd (q tt)
    says Done t q h = rw h.1 refl
    says (Halted Limit.Height) t q h = rw h refl
    says (Halted Limit.Words) t q h = rw h refl

    -- no more
    pub midway_last : (goes x'.mode ≡ true → n ≤ count) → Midway p R code m x s n count m' x' → Carried p R code m x s n (record { steps = count; progress = progress_of x'.mode }) m' x'
    midway_last e c =
        let t = c.state in
        let k = run_stop x'.mode t (n - count) c.settled (λ b. let z = e b in omega arith) c.enacts.shape in
        let r : run p limited n s ≡ (t, count + 0) = c.left ∙ ap (after count) k in
        let r0 : (run p limited n s).0 ≡ t = ap (λ y. y.0) r in
        record {
          enacts = subst (λ y. Enacts p R code m' x' y) (sym r0) c.enacts;
          counts = sym (ap (λ y. y.1) r ∙ add-zero count);
          says = subst (λ y. Says (progress_of x'.mode) y) (sym r0) (says x'.mode t c.settled c.enacts.shape);
          settled = c.settled;
          stands = refl;
          rest = c.rest;
        }

-- ---- turns of one step

-- no turn is taken yet, or a value is on its way back in the state after the step
abbrev pub Underway : Code → Meaning → Machine → Meaning → Machine → Type 0
Underway code m x m' x' = ((m' ≡ m) × (x' ≡ x)) ⊎ (Returning x'.mode × Takes (turned x.mode) code m x m' x')

still_turned : (d : Mode) (p : Program) (s : State) → Returning d → turned d p s ≡ s
still_turned (Begin n b e h) p s q = absurd q
still_turned Return p s q = refl
still_turned Done p s q = absurd q
still_turned (Halted y) p s q = absurd q

-- one more turn
pub turned_on : (code : Code) (m m' m'' : Meaning) (x x' x'' : Machine) → Underway code m x m' x' → Takes (turned x'.mode) code m' x' m'' x'' → Takes (turned x.mode) code m x m'' x''
turned_on code m m' m'' x x' x'' (inl (em, ex)) t =
    subst (λ y. Takes (turned y.mode) code m y m'' x'') ex (subst (λ y. Takes (turned x'.mode) code y x' m'' x'') em t)
turned_on code m m' m'' x x' x'' (inr (q, u)) t = λ p R s f.
    let a = u p R s f in
    let b = t p R (turned x.mode p s) a.0 in
    (subst (λ y. Enacts p R code m'' x'' y) (still_turned x'.mode p (turned x.mode p s) q) b.0, rest_then m m' m'' x x' x'' a.1 b.1)
