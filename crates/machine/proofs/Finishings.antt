-- How a run that is done ends: the result stays, and the run's other cells are given back.
use Rattle.std.proofs.Common.{◌≡◌, ℕ, ◌+◌, ◌<◌, ◌≤◌, List, length, get_or, sym, refl, ap, ◌∙◌, subst, ⊎_elim, zero-add, arith}
use Rattle.std.proofs.lemmas.Bool.{cases_lt}
use Rattle.lfpl.specs.Syntax.{Ty, width, Program}
use Rattle.lfpl.specs.Values.{Val, Typed, charge, ◌of◌}
use Rattle.meaning.specs.Machine.{done}
use Rattle.pool.specs.Pools.{Meaning, held}
use Rattle.store.specs.Layout.{Shows, footprint, occ, used}
use Rattle.store.specs.Releasing.{Released}
use Rattle.store.proofs.Moves.{moved, same_window}
use Rattle.store.proofs.Uniques.{holds_charge}
use Rattle.code.specs.declared.Code.{Code}
use Rattle.acts.proofs.Lying.{window_of}
use Rattle.machine.specs.Calling.{without}
use Rattle.machine.specs.Enacting.{own, Owned, Shape, Enacts}
use Rattle.machine.specs.Running.{Ended}
use Rattle.machine.specs.declared.Machine.{Machine}
use Rattle.machine.specs.declared.Mode.TheVariants.{Done}
use Rattle.machine.proofs.Givings.{parted, parted_long}

-- cells that are taken and each held once, by counting
pub all_used : (m : Meaning) (mine : List ℕ) → ((c : ℕ) → occ c mine ≤ 1) → ((c : ℕ) → 1 ≤ occ c mine → used m c ≡ 1) → (c : ℕ) → occ c mine ≤ used m c
all_used m mine once taken c = ⊎_elim (λ h. omega (arith, taken c h, once c)) (λ h. omega arith) (cases_lt 0 (occ c mine))

-- the result v, of the type R, is in the words ws and in cells of the run
pub record Result (m : Meaning) (mine : List ℕ) (R : Ty) (v : Val) (ws : List ℕ) : Type 0 where
  pub shows : Shows m R v ws 0
  pub owned : Owned mine (footprint m R v ws 0)
  pub once : (c : ℕ) → occ c mine ≤ 1
  pub taken : (c : ℕ) → 1 ≤ occ c mine → used m c ≡ 1

-- the value that is there is the one that the run is done with
same_value : (m : Meaning) (mine : List ℕ) (ws : List ℕ) (u v : Typed) → done v ≡ done u → Shows m u.type u.value ws 0 × Owned mine (footprint m u.type u.value ws 0)
    → Shows m v.type v.value ws 0 × Owned mine (footprint m v.type v.value ws 0)
same_value m mine ws u v e s =
    let q : u ≡ v = cc in
    subst (λ z. Shows m z.type z.value ws 0 × Owned mine (footprint m z.type z.value ws 0)) q s

pub result_of : (p : Program) (code : Code) (m : Meaning) (x : Machine) (R : Ty) (v : Val) (ws : List ℕ) → width R ≤ 16 → x.mode ≡ Done → Enacts p R code m x (done (v of R))
    → ((k : ℕ) → k < 16 → get_or ws k 0 ≡ get_or x.words k 0) → Result m (own x) R v ws
result_of p code m x R v ws n e E w =
    let s : Shape p R code m x Done (done (v of R)) = subst (λ d. Shape p R code m x d (done (v of R))) e E.shape in
    let h = same_value m (own x) x.words s.0 (v of R) s.1 (s.3, s.4) in
    let t = moved m m R v x.words ws 0 0 h.0 (window_of x.words ws 0 0 (width R) (λ k q. rw (zero-add k) (w k (omega arith)))) (λ c q. refl) in
    record { shows = t.0; owned = λ c. omega (arith, ap (occ c) t.1, h.1 c); once = E.founded.once; taken = E.founded.taken }

pub few : (m : Meaning) (mine : List ℕ) (R : Ty) (v : Val) (ws : List ℕ) → Result m mine R v ws → length mine ≤ 512 → charge v ≤ 512
few m mine R v ws r l = omega (arith, parted_long (footprint m R v ws 0) mine r.owned r.once, holds_charge m R v ws 0)

pub ended : (m m' : Meaning) (mine ks : List ℕ) (R : Ty) (v : Val) (ws : List ℕ) → Result m mine R v ws → ks ≡ footprint m R v ws 0
    → (((c : ℕ) → occ c (without ks mine) ≤ used m c) → Released m (without ks mine) m') → Ended m mine R v ws m' × (ks ≡ footprint m' R v ws 0)
ended m m' mine ks R v ws r k g =
    let fp = footprint m R v ws 0 in
    let others = without fp mine in
    let part : (c : ℕ) → occ c fp + occ c others ≡ occ c mine = parted fp mine r.owned r.once in
    let rest : (c : ℕ) → occ c others ≤ used m c = λ c. omega (arith, part c, all_used m mine r.once r.taken c) in
    let f : Released m others m' = subst (λ z. ((c : ℕ) → occ c (without z mine) ≤ used m c) → Released m (without z mine) m') k g rest in
    let still : (c : ℕ) → 0 < occ c fp → held m' c ≡ held m c = λ c h.
    f.keeps c (omega (arith, f.cells c, part c, r.once c, r.taken c (omega (arith, part c)))) in
    let t = moved m m' R v ws ws 0 0 r.shows (same_window ws ws 0 (width R) refl) still in (
      record {
        shows = t.0;
        cells = λ c. omega (arith, f.cells c, part c, ap (occ c) t.1);
        keeps = f.keeps;
        count = omega (arith, f.count, holds_charge m R v ws 0, parted_long fp mine r.owned r.once);
        bound = f.bound;
      },
      k ∙ sym t.1,
    )
