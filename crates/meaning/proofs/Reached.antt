-- The laws of judged programs, read off from what every step keeps.
use Rattle.std.proofs.Common.{◌≡◌, ℕ, suc, ◌<◌, ◌≤◌, Bool, true, false, cond, ltb, leb, List, [], ◌∷◌, length, sym, refl, ap, ◌∙◌, subst, le_refl, add-one, arith}
use mathlib.Core.Option.{Option, none, some}
use Rattle.std.specs.List.{AllByRecursion}
use Rattle.std.proofs.lemmas.Bool.{leb-true, leb-false, ltb-true, ltb-false, le-leb, lt-leb, lt-ltb}
use Rattle.lfpl.specs.Syntax.{Ty, Fun, Program}
use Rattle.lfpl.specs.Typing.{fun_at}
use Rattle.lfpl.specs.Values.{Typed}
use Rattle.lfpl.proofs.Judged.{program_law}
use Rattle.meaning.specs.Mean.{Level, Why, height, words, Limit, limited, End, gives, halts, wrong, Means}
use Rattle.meaning.specs.Machine.{Item, Frame, State, going, done, halted, astray, ended, after, landing, begins_under, return, step, run, start}
use Rattle.meaning.specs.View.{Seen, seen_item, seen_frame, seen_frames, charges, charges_seen}
use Rattle.meaning.specs.Sound.{Apt, held, SoundLaw, LinearLaw}
use Rattle.meaning.specs.States.{flat, Placed, words_done, types_in, Passes, Closed, Pass, PlacesLaw, BoundsLaw, TypesLaw}
use Rattle.meaning.specs.Laws.{Over, HaltsLaw}
use Rattle.meaning.proofs.Ends.{ended_inj, ends_law, pieces_law}
use Rattle.meaning.proofs.Passing.{fit_pass}
use Rattle.meaning.proofs.Kept.{Due, Stood, Sound, begin_sound, run_kept, start_kept}

-- a halt of whatever kind
abbrev any_halt : Why → Type 0
any_halt y = Unit {0}

-- a run from its start, for any test that passes what the program writes
reached : (G : Ty → Bool) (p : Program) (L : Limit) (f : ℕ) (xs : List Typed) (n : ℕ) → Closed G → AllByRecursion (λ g. Passes G (types_in g)) p.functions → Apt p f xs
    → Sound p L G any_halt (fun_at p.functions f).result (charges xs) (run p L n (start p f xs)).0
reached G p L f xs n c w (j, l, g) =
    let b = (program_law p).0 j in
    run_kept p L G any_halt c w b (fun_at p.functions f).result (charges xs) (λ y. tt) n (start p f xs) (start_kept p L G any_halt c w b f xs l g)

-- ---- where the test is of no matter

abbrev any : Ty → Bool
any A = true

any_closed : Closed any
any_closed = (refl, refl, λ A h. (refl, refl))

any_written : (fs : List Fun) → AllByRecursion (λ g. Passes any (types_in g)) fs
any_written [] = tt
any_written (g ∷ fs) = (each (types_in g), any_written fs)
  where
    each : (As : List Ty) → Passes any As
    each [] = tt
    each (A ∷ As) = (refl, each As)

abbrev Reached : Program → Limit → ℕ → List Typed → State → Type 0
Reached p L f xs s = Sound p L any any_halt (fun_at p.functions f).result (charges xs) s

reach : (p : Program) (L : Limit) (f : ℕ) (xs : List Typed) (n : ℕ) → Apt p f xs → Reached p L f xs (run p L n (start p f xs)).0
reach p L f xs n a = reached any p L f xs n any_closed (any_written p.functions) a

reach_going : (p : Program) (L : Limit) (f : ℕ) (xs : List Typed) (n : ℕ) (i : Item) (K : List Frame) → Apt p f xs → (run p L n (start p f xs)).0 ≡ going i K
    → Reached p L f xs (going i K)
reach_going p L f xs n i K a e = subst (λ (s : State). Reached p L f xs s) e (reach p L f xs n a)

reach_end : (p : Program) (L : Limit) (f : ℕ) (xs : List Typed) (x : End Typed) (n : ℕ) → Apt p f xs → Means p L f xs x n → Reached p L f xs (ended x)
reach_end p L f xs x n a m = subst (λ (s : State). Reached p L f xs s) (ap (λ r. r.0) ((ends_law p L f xs x n n).0 (m, le_refl n))) (reach p L f xs n a)

pub sound_law : SoundLaw
sound_law p L f xs n a = ((λ m. reach_end p L f xs wrong n a m), (λ v m. (reach_end p L f xs (gives v) n a m).0))

-- ---- charges

seen_charge : (p : Program) (L : Limit) (R : Ty) (N : ℕ) (K : List Frame) (d : Due) (seen : List Seen) → Stood p L any R N d K → charges_seen seen ≤ d.charge
    → charges_seen (seen_frames K seen) ≤ N
seen_charge p L R N [] d seen s h = let a = s.1 in omega arith
seen_charge p L R N (k ∷ K) d seen (e, w, s) h = seen_charge p L R N K e (seen_frame k ∷ seen) s (let c = w.charged in omega arith)

held_charge : (p : Program) (L : Limit) (R : Ty) (N : ℕ) (s : State) → Sound p L any any_halt R N s → held s ≤ N
held_charge p L R N (going i K) (d, b, s) = seen_charge p L R N K d (seen_item i ∷ []) s (let c = b.charged in omega arith)
held_charge p L R N (done v) h = h.1
held_charge p L R N (halted y) h = omega arith
held_charge p L R N astray h = absurd h

pub linear_law : LinearLaw
linear_law p L f xs n a = held_charge p L (fun_at p.functions f).result (charges xs) (run p L n (start p f xs)).0 (reach p L f xs n a)

-- ---- numbers

stood_placed : (p : Program) (L : Limit) (R : Ty) (N : ℕ) (d : Due) (K : List Frame) → Stood p L any R N d K → AllByRecursion (λ k. Placed (flat p.functions) k) K
stood_placed p L R N d [] s = tt
stood_placed p L R N d (k ∷ K) (e, w, s) = ((w.way.head, w.way.rest), stood_placed p L R N e K s)

pub places_law : PlacesLaw
places_law p L f xs n i K a e =
    let r = reach_going p L f xs n i K a e in
    (r.1.placed, stood_placed p L (fun_at p.functions f).result (charges xs) r.0 K r.2)

-- ---- bounds

-- what a limit's answer says of a level
abbrev Says : Option Why → Level → Type 0
Says none l = (l.height < 4096) × (l.words ≤ 8192)
Says (some y) l = Over y l

limited_says : (l : Level) → Says (limited l) l
limited_says l = by (leb 4096 l.height) refl (ltb 8192 l.words) refl
  where
    by : (a : Bool) → leb 4096 l.height ≡ a → (b : Bool) → ltb 8192 l.words ≡ b → Says (cond a (some height) (cond b (some words) none)) l
    by true p b q = leb-true 4096 l.height p
    by false p true q = (leb-false 4096 l.height p, ltb-true 8192 l.words q)
    by false p false q = (leb-false 4096 l.height p, ltb-false 8192 l.words q)

stood_bounds : (p : Program) (R : Ty) (N : ℕ) (d : Due) (K : List Frame) → Stood p limited any R N d K
    → (length K ≤ 4096) × (length K ≤ d.level.height) × (words_done K ≤ d.level.words) × AllByRecursion (λ k. (k.level.height < 4096) × (k.level.words ≤ 8192)) K
stood_bounds p R N d [] s = (omega arith, omega arith, omega arith, tt)
stood_bounds p R N d (k ∷ K) (e, w, s) =
    let r = stood_bounds p R N e K s in
    let r₁ = r.1 in
    let r₂ = r.2 in
    let l : Says none k.level = subst (λ (o : Option Why). Says o k.level) w.way.begun (limited_says k.level) in
    let l₀ = l.0 in
    let o = w.way.level in
    let o₀ = o.0 in
    let o₁ = o.1 in
    let a₀ = w.above.0 in
    let a₁ = w.above.1 in
    (omega arith, omega arith, omega arith, (l, r.3))

pub bounds_law : BoundsLaw
bounds_law p f xs n i K a e =
    let r = reach_going p limited f xs n i K a e in
    let b = stood_bounds p (fun_at p.functions f).result (charges xs) r.0 K r.2 in
    let b₁ = b.1 in
    let b₂ = b.2 in
    let o = r.1.level in
    let o₀ = o.0 in
    let o₁ = o.1 in
    (b.0, omega arith, omega arith, b.3)

-- ---- types

stood_pass : (p : Program) (L : Limit) (G : Ty → Bool) (R : Ty) (N : ℕ) (d : Due) (K : List Frame) → Stood p L G R N d K
    → AllByRecursion (λ k. Pass G k.env × Pass G k.values) K
stood_pass p L G R N d [] s = tt
stood_pass p L G R N d (k ∷ K) (e, w, s) =
    ((fit_pass G k.env w.way.scope w.way.env w.way.passes, fit_pass G k.values w.types w.values w.pass), stood_pass p L G R N e K s)

pub types_law : TypesLaw
types_law G p L f xs n i K c w a e =
    let r : Sound p L G any_halt (fun_at p.functions f).result (charges xs) (going i K) =
    subst (λ (s : State). Sound p L G any_halt (fun_at p.functions f).result (charges xs) s) e (reached G p L f xs n c w a) in (
      fit_pass G i.env r.1.scope r.1.env r.1.passes,
      stood_pass p L G (fun_at p.functions f).result (charges xs) r.0 K r.2,
    )

-- ---- halts

limited_over : (y : Why) (l : Level) → Over y l → limited l ≡ some y
limited_over height l h = ap (λ b. cond b (some height) (cond (ltb 8192 l.words) (some words) none)) (le-leb 4096 l.height h)
limited_over words l (h, w) =
    ap (λ b. cond b (some height) (cond (ltb 8192 l.words) (some words) none)) (lt-leb 4096 l.height h)
    ∙ ap (λ b. cond b (some words) none) (lt-ltb 8192 l.words w)

-- a step halts only at a limit: where none forbids it, it does not halt
step_halts : (p : Program) (f : ℕ) (xs : List Typed) (i : Item) (K : List Frame) (y : Why) (o : Option Why) → Apt p f xs → limited i.level ≡ o
    → Reached p limited f xs (going i K) → landing (begins_under p.functions o i) K (λ u. return p.functions K u) ≡ halted y → o ≡ some y
step_halts p f xs i K y none (j, l, g) n r e =
    absurd (subst (λ (s : State). Sound p limited any (λ z. ⊥) (fun_at p.functions f).result (charges xs) s) e
    (begin_sound p limited any (λ z. ⊥) any_closed (any_written p.functions) ((program_law p).0 j) (fun_at p.functions f).result (charges xs) i K n r))
step_halts p f xs i K y (some z) a n r e = ap why_of (ended_inj (halts z) (halts y) e)
  where
    why_of : End Typed → Option Why
    why_of (gives v) = none
    why_of (halts y) = some y
    why_of wrong = none

-- one step more
run_more : (p : Program) (L : Limit) (n : ℕ) (s : State) (i : Item) (K : List Frame) → run p L n s ≡ (going i K, n) → run p L (suc n) s ≡ (step p L i K, suc n)
run_more p L n s i K e =
    sym (ap (λ (k : ℕ). run p L k s) (add-one n)) ∙ (pieces_law p L n 1 s ∙ (ap (λ r. after r.1 (run p L 1 r.0)) e
    ∙ ap {B = State × ℕ} (λ k. (step p L i K, k)) (add-one n)))

pub halts_law : HaltsLaw
halts_law p f xs n i K y a e =
    let more = run_more p limited n (start p f xs) i K e in (
      (λ m. let q = (ends_law p limited f xs (halts y) (suc n) (suc n)).0 (m, le_refl (suc n)) in
          let h = step_halts p f xs i K y (limited i.level) a refl (reach_going p limited f xs n i K a (ap (λ r. r.0) e))
          (sym (ap (λ r. r.0) more) ∙ ap (λ r. r.0) q) in
          subst (λ (o : Option Why). Says o i.level) h (limited_says i.level)),
      (λ o. let h = ap (λ w. landing (begins_under p.functions w i) K (λ u. return p.functions K u)) (limited_over y i.level o) in
          ((ends_law p limited f xs (halts y) (suc n) (suc n)).1 (more ∙ ap {B = State × ℕ} (λ s. (s, suc n)) h)).0),
    )
