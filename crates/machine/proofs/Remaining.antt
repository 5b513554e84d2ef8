-- A machine enacts its state whatever becomes of cells that are not the run's.
use Rattle.std.proofs.Common.{◌≡◌, ℕ, ◌<◌, ◌≤◌, List, refl, ap, ◌∙◌, arith}
use Rattle.lfpl.specs.Syntax.{Ty, width, names, Fun, Program}
use Rattle.lfpl.specs.Values.{Typed}
use Rattle.meaning.specs.Machine.{Frame, Item, State}
use Rattle.pool.specs.Pools.{Meaning, held}
use Rattle.store.specs.Layout.{Shows, footprint, occ}
use Rattle.store.proofs.Moves.{moved, occ_append, used_same, same_window}
use Rattle.code.specs.declared.Code.{Code}
use Rattle.acts.specs.Places.{cells_of, from}
use Rattle.acts.proofs.Lying.{lies_same}
use Rattle.machine.specs.Enacting.{own, stack_cells, Going, Back, Shape, Enacts}
use Rattle.machine.specs.declared.Machine.{Machine}
use Rattle.machine.specs.declared.Mode.{Mode}
use Rattle.machine.specs.declared.Mode.TheVariants.{Begin, Return, Done, Halted}
use Rattle.machine.specs.declared.Progress.TheVariants as Progress
use Rattle.machine.specs.declared.Waiting.{Waiting}
use Rattle.machine.specs.Stepping.{progress_of}
use Rattle.machine.proofs.Framing.{stack_same}

module _ (m m' : Meaning) (mine : List ℕ) (same : (c : ℕ) → 0 < occ c mine → held m' c ≡ held m c) where
  going_kept : (fs : List Fun) (code : Code) (R : Ty) (ws : List ℕ) (recs : List Waiting) (base dest : ℕ) (i : Item) (K : List Frame)
      → Going fs code R m ws recs mine base dest i K → Going fs code R m' ws recs mine base dest i K
  going_kept fs code R ws recs base dest i K g =
      let ats = from base g.ps in
      let xs = cells_of m ws (λ j. names j i.term) i.env ats in
      let zs = stack_cells fs code m ws recs K g.pss in
      let a = lies_same m m' ws ws i.level.words (λ j. names j i.term) i.env ats (λ j p. refl) (λ c h. same c (omega (arith, g.owned c, occ_append c xs zs, h))) g.variables in
      let b = stack_same fs code m m' ws ws recs recs K g.pss dest i.level.height g.type R (λ j p. refl) (λ c h. same c (omega (arith, g.owned c, occ_append c xs zs, h))) (λ j p. refl) g.stack in
      let xs' = cells_of m' ws (λ j. names j i.term) i.env ats in
      let zs' = stack_cells fs code m' ws recs K g.pss in
      record {
        ps = g.ps;
        pss = g.pss;
        over = g.over;
        type = g.type;
        stands = g.stands;
        based = g.based;
        near = g.near;
        high = g.high;
        down = g.down;
        long = g.long;
        variables = a.0;
        stack = b.0;
        owned = λ c. omega (arith, g.owned c, occ_append c xs zs, occ_append c xs' zs', ap (occ c) a.1, ap (occ c) b.1);
      }

  -- a value shown from cells of the run's is still shown
  pub value_kept : (x : Typed) (ws : List ℕ) (o : ℕ) → ((c : ℕ) → occ c (footprint m x.type x.value ws o) ≤ occ c mine) → Shows m x.type x.value ws o
      → Shows m' x.type x.value ws o × (footprint m' x.type x.value ws o ≡ footprint m x.type x.value ws o)
  value_kept x ws o le s = moved m m' x.type x.value ws ws o o s (same_window ws ws o (width x.type) refl) (λ c h. same c (omega (arith, le c, h)))

  back_kept : (fs : List Fun) (code : Code) (R : Ty) (ws : List ℕ) (recs : List Waiting) (v : Typed) (K : List Frame) → Back fs code R m ws recs mine v K → Back fs code R m' ws recs mine v K
  back_kept fs code R ws recs v K g =
      let u = footprint m v.type v.value ws g.top in
      let u' = footprint m' v.type v.value ws g.top in
      let zs = stack_cells fs code m ws recs K g.pss in
      let zs' = stack_cells fs code m' ws recs K g.pss in
      let a = value_kept v ws g.top (λ c. omega (arith, g.owned c, occ_append c u zs)) g.shows in
      let b = stack_same fs code m m' ws ws recs recs K g.pss g.top g.up v.type R (λ j p. refl) (λ c h. same c (omega (arith, g.owned c, occ_append c u zs, h))) (λ j p. refl) g.stack in
      record {
        pss = g.pss;
        top = g.top;
        up = g.up;
        shows = a.0;
        stack = b.0;
        owned = λ c. omega (arith, g.owned c, occ_append c u zs, occ_append c u' zs', ap (occ c) a.1, ap (occ c) b.1);
      }

module _ (p : Program) (R : Ty) (code : Code) (m m' : Meaning) (x : Machine) (same : (c : ℕ) → 0 < occ c (own x) → held m' c ≡ held m c) where
  shape_kept : (d : Mode) (s : State) → Shape p R code m x d s → Shape p R code m' x d s
  shape_kept (Begin n b d h) s t = (t.0, t.1, t.2, t.3, t.4, t.5, going_kept m m' (own x) same p.functions code R x.words x.waiting b d t.0 t.1 t.6)
  shape_kept Return s t = (t.0, t.1, t.2, t.3, back_kept m m' (own x) same p.functions code R x.words x.waiting t.0 t.1 t.4)
  shape_kept Done s t =
      let a = value_kept m m' (own x) same t.0 x.words 0 t.4 t.3 in
      (t.0, t.1, t.2, a.0, λ c. omega (arith, t.4 c, ap (occ c) a.1))
  shape_kept (Halted y) s t = t

  -- Where the run's own cells are as they were, the machine enacts the state that it did.
  pub enacts_kept : (s : State) → Enacts p R code m x s → Enacts p R code m' x s
  enacts_kept s g = record {
    founded = record {
      encodes = g.founded.encodes;
      words_long = g.founded.words_long;
      waiting_long = g.founded.waiting_long;
      once = g.founded.once;
      taken = λ c h. used_same m m' c c refl (same c (omega (arith, h))) ∙ g.founded.taken c h;
    };
    shape = shape_kept x.mode s g.shape;
  }

-- a run that is said to be done is about nothing more
pub done_mode : (d : Mode) → progress_of d ≡ Progress.Done → d ≡ Done
done_mode (Begin n b e h) q = let z : ◌≡◌ {A = ℕ} 0 1 = cc in absurd (omega arith)
done_mode Return q = let z : ◌≡◌ {A = ℕ} 0 1 = cc in absurd (omega arith)
done_mode Done q = refl
done_mode (Halted y) q = let z : ◌≡◌ {A = ℕ} 0 1 = cc in absurd (omega arith)
