-- A run ends as its meaning says, and only so; and within the limits as without them.
use Rattle.std.proofs.Common.{◌≡◌, ℕ, zero, suc, ◌+◌, ◌-◌, ◌<◌, ◌≤◌, ◌⊎◌, List, sym, refl, ap, ◌∙◌, subst, inl, inr, ⊎_elim, le_refl, add-zero, suc-add, zero-add, one-add, arith}
use native.Mathlib.Nat.{suc_inj}
use native.Mathlib.Decide.{dec_le}
use mathlib.Core.Option.{Option, none, some, some-injective, none-ne-some}
use Rattle.lfpl.specs.Syntax.{Program}
use Rattle.lfpl.specs.Values.{Typed}
use Rattle.meaning.specs.Mean.{ground, Why, Limit, limited, unlimited, End, gives, halts, wrong, Meaning, approx}
use Rattle.meaning.specs.Machine.{Item, Frame, State, going, done, halted, astray, ended, landing, after, begins_under, return, step, run, start}
use Rattle.meaning.specs.Laws.{EndsLaw, GoingLaw, PiecesLaw, LimitsLaw}
use Rattle.meaning.proofs.Agrees.{after_zero, after_after, Leads, Lasts, Lands, lasts_less, lands}

no_suc : {X : Type 0} (n : ℕ) → 0 ≡ suc n → X
no_suc n h = absurd (omega arith)

-- the end that a state is, if it is one
abbrev end_of : State → Option (End Typed)
end_of (going i K) = none
end_of (done v) = some (gives v)
end_of (halted y) = some (halts y)
end_of astray = some wrong

end_of_ended : (x : End Typed) → end_of (ended x) ≡ some x
end_of_ended (gives v) = refl
end_of_ended (halts y) = refl
end_of_ended wrong = refl

-- a state is one end at most
pub ended_inj : (x y : End Typed) → ended x ≡ ended y → x ≡ y
ended_inj x y e = some-injective x y (sym (end_of_ended x) ∙ (ap end_of e ∙ end_of_ended y))

pub going_not : (i : Item) (K : List Frame) (x : End Typed) → ¬ (going i K ≡ ended x)
going_not i K x e = none-ne-some x (ap end_of e ∙ end_of_ended x)

module _ (p : Program) (L : Limit) where
  pub run_ended : (m : ℕ) (x : End Typed) → run p L m (ended x) ≡ (ended x, 0)
  run_ended zero x = refl
  run_ended (suc m) (gives v) = refl
  run_ended (suc m) (halts y) = refl
  run_ended (suc m) wrong = refl

  -- a run with no end after m steps has taken them all
  open_count : (m : ℕ) (s : State) → end_of (run p L m s).0 ≡ none → (run p L m s).1 ≡ m
  open_count zero s h = refl
  open_count (suc m) (going i K) h = one-add (run p L m (step p L i K)).1 ∙ ap suc (open_count m (step p L i K) h)
  open_count (suc m) (done v) h = absurd (none-ne-some (gives v) (sym h))
  open_count (suc m) (halted y) h = absurd (none-ne-some (halts y) (sym h))
  open_count (suc m) astray h = absurd (none-ne-some wrong (sym h))

  -- one step more is taken only where there is no end yet
  count_open : (m : ℕ) (s : State) → Lasts p L (suc m) s → end_of (run p L m s).0 ≡ none
  count_open zero (going i K) h = refl
  count_open zero (done v) h = no_suc 0 h
  count_open zero (halted y) h = no_suc 0 h
  count_open zero astray h = no_suc 0 h
  count_open (suc m) (going i K) h = count_open m (step p L i K) (suc_inj (sym (one-add (run p L (suc m) (step p L i K)).1) ∙ h))
  count_open (suc m) (done v) h = no_suc (suc m) h
  count_open (suc m) (halted y) h = no_suc (suc m) h
  count_open (suc m) astray h = no_suc (suc m) h

  leads_ended : (s : State) (n m : ℕ) (x : End Typed) → Leads p L s n (ended x) → n ≤ m → run p L m s ≡ (ended x, n)
  leads_ended s n m x f h =
      ap (λ (j : ℕ). run p L j s) (split n m h) ∙ (f (m - n) ∙ (ap (λ r. after n r) (run_ended (m - n) x) ∙ ap {B = State × ℕ} (λ j. (ended x, j)) (add-zero n)))
    where
      split : (n m : ℕ) → n ≤ m → m ≡ n + (m - n)
      split n m h = omega arith

  -- where n steps lead to an end, fewer do not
  leads_open : (s : State) (n m : ℕ) (x : End Typed) → Leads p L s n (ended x) → m < n → end_of (run p L m s).0 ≡ none
  leads_open s n m x f h =
      count_open m s (lasts_less p L (n - suc m) (suc m) s
      (ap (λ (j : ℕ). (run p L j s).1) (join n m h) ∙ (ap (λ r. r.1) (leads_ended s n n x f (le_refl n)) ∙ sym (join n m h))))
    where
      join : (n m : ℕ) → m < n → (n - suc m) + suc m ≡ n
      join n m h = omega arith

  at_end : (s : State) (m : ℕ) (y : End Typed) (k : ℕ) (x : End Typed) (n : ℕ) → Leads p L s k (ended y) → run p L m s ≡ (ended x, n) → Dec (k ≤ m)
      → (◌≡◌ {A = Meaning Typed} (some (y, k)) (some (x, n))) × (n ≤ m)
  at_end s m y k x n h e (yes c) =
      let q : ◌≡◌ {A = State × ℕ} (ended y, k) (ended x, n) = sym (leads_ended s k m y h c) ∙ e in
      let q₀ : y ≡ x = ended_inj y x (ap (λ r. r.0) q) in
      let q₁ : k ≡ n = ap (λ r. r.1) q in
      ((λ i. some (q₀ i, q₁ i)), omega arith)
  at_end s m y k x n h e (no c) =
      absurd (none-ne-some x (sym (leads_open s k m y h (omega arith)) ∙ (ap (λ r. end_of r.0) e ∙ end_of_ended x)))

  -- an end that m steps come to is what an approximation past m gives
  lands_ended : (s : State) (m : ℕ) (M : Meaning Typed) (x : End Typed) (n : ℕ)
      → Lands p L (suc m) s (λ v. done v) M → run p L m s ≡ (ended x, n) → (M ≡ some (x, n)) × (n ≤ m)
  lands_ended s m none x n h e = absurd (none-ne-some x (sym (count_open m s h) ∙ (ap (λ r. end_of r.0) e ∙ end_of_ended x)))
  lands_ended s m (some (gives a, k)) x n h e = at_end s m (gives a) k x n h e (dec_le k m)
  lands_ended s m (some (halts y, k)) x n h e = at_end s m (halts y) k x n h e (dec_le k m)
  lands_ended s m (some (wrong, k)) x n h e = at_end s m wrong k x n h e (dec_le k m)

  lands_leads : (k : ℕ) (s : State) (x : End Typed) (n : ℕ) → Lands p L k s (λ v. done v) (some (x, n)) → Leads p L s n (ended x)
  lands_leads k s (gives v) n h = h
  lands_leads k s (halts y) n h = h
  lands_leads k s wrong n h = h

  open_not : (s : State) → ((x : End Typed) → ¬ (s ≡ ended x)) → end_of s ≡ none
  open_not (going i K) h = refl
  open_not (done v) h = absurd (h (gives v) refl)
  open_not (halted y) h = absurd (h (halts y) refl)
  open_not astray h = absurd (h wrong refl)

pub ends_law : EndsLaw
ends_law p L f xs x n m = (
  (λ c. let s : State = start p f xs in
      leads_ended p L s n m x
      (lands_leads p L c.0.0 s x n (subst (λ (M : Meaning Typed). Lands p L c.0.0 s (λ v. done v) M) c.0.1 (lands p L c.0.0 f xs)))
      c.1),
  (λ e. let r = lands_ended p L (start p f xs) m (approx p L (suc m) f xs (ground xs)) x n (lands p L (suc m) f xs) e in
      ((suc m, r.0), r.1)),
)

pub going_law : GoingLaw
going_law p L f xs m h = open_count p L m (start p f xs) (open_not p L (run p L m (start p f xs)).0 h)

-- an ended run takes no more steps
still : (p : Program) (L : Limit) (n m : ℕ) (x : End Typed) → run p L (suc n + m) (ended x) ≡ after 0 (run p L m (ended x))
still p L n m x = run_ended p L (suc n + m) x ∙ sym (ap (λ r. after 0 r) (run_ended p L m x))

pub pieces_law : PiecesLaw
pieces_law p L zero m s = ap (λ (k : ℕ). run p L k s) (zero-add m) ∙ sym (after_zero (run p L m s))
pieces_law p L (suc n) m (going i K) =
    ap (λ (k : ℕ). run p L k (going i K)) (suc-add n m)
    ∙ (ap (λ r. after 1 r) (pieces_law p L n m (step p L i K)) ∙ after_after 1 (run p L n (step p L i K)).1 (run p L m (run p L n (step p L i K)).0))
pieces_law p L (suc n) m (done v) = still p L n m (gives v)
pieces_law p L (suc n) m (halted y) = still p L n m (halts y)
pieces_law p L (suc n) m astray = still p L n m wrong

-- ---- limits

-- the limited run is the unlimited one, or it halts
module _ (p : Program) (L : Limit) where
  abbrev Alike : ℕ → State → Type 0
  Alike n s = (run p L n s ≡ run p unlimited n s) ⊎ ((y : Why) × (m : ℕ) × (m ≤ n) × (run p L n s ≡ (halted y, m)))

  -- one step, by what the limit says; u is the step without a limit
  alike_step : (n : ℕ) (u : State) (o : Option Why) (i : Item) (K : List Frame) → Alike n u → u ≡ landing (begins_under p.functions none i) K (λ v. return p.functions K v)
      → (after 1 (run p L n (landing (begins_under p.functions o i) K (λ v. return p.functions K v))) ≡ after 1 (run p unlimited n u))
      ⊎ ((y : Why) × (m : ℕ) × (m ≤ suc n) × (after 1 (run p L n (landing (begins_under p.functions o i) K (λ v. return p.functions K v))) ≡ (halted y, m)))
  alike_step n u none i K (inl e) q = inl (ap (λ t. after 1 (run p L n t)) (sym q) ∙ ap (λ r. after 1 r) e)
  alike_step n u none i K (inr (y, m, h, e)) q = inr (y, 1 + m, omega arith, ap (λ t. after 1 (run p L n t)) (sym q) ∙ ap (λ r. after 1 r) e)
  alike_step n u (some y) i K h q = inr (y, 1, omega arith, ap (λ r. after 1 r) (run_ended p L n (halts y)))

  alike : (n : ℕ) (s : State) → Alike n s
  alike zero s = inl refl
  alike (suc n) (going i K) = alike_step n (step p unlimited i K) (L i.level) i K (alike n (step p unlimited i K)) refl
  alike (suc n) (done v) = inl refl
  alike (suc n) (halted y) = inl refl
  alike (suc n) astray = inl refl

abbrev IsHalted : State → Type 0
IsHalted (going i K) = ⊥
IsHalted (done v) = ⊥
IsHalted (halted y) = Unit {0}
IsHalted astray = ⊥

pub limits_law : LimitsLaw
limits_law p f xs v n = (
  (λ m. let e = (ends_law p limited f xs (gives v) n n).0 (m, le_refl n) in
      ⊎_elim (λ q. ((ends_law p unlimited f xs (gives v) n n).1 (sym q ∙ e)).0)
      (λ c. absurd (subst IsHalted (sym (ap (λ r. r.0) c.3) ∙ ap (λ r. r.0) e) tt))
      (alike p limited n (start p f xs))),
  (λ m. let e = (ends_law p unlimited f xs (gives v) n n).0 (m, le_refl n) in
      ⊎_elim (λ q. inl ((ends_law p limited f xs (gives v) n n).1 (q ∙ e)).0)
      (λ c. inr (c.0, c.1, c.2, ((ends_law p limited f xs (halts c.0) c.1 n).1 c.3).0))
      (alike p limited n (start p f xs))),
)
