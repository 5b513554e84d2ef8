-- What waits stays as it is where its words and its cells stay.
use Rattle.std.proofs.Common.{◌≡◌, ℕ, ◌+◌, ◌<◌, ◌≤◌, List, [], ◌∷◌, length, get_or, refl, arith}
use Rattle.lfpl.specs.Syntax.{Ty, Fun}
use Rattle.meaning.specs.Machine.{Frame}
use Rattle.meaning.specs.Mean.{widths}
use Rattle.pool.specs.Pools.{Meaning, held}
use Rattle.store.specs.Layout.{occ}
use Rattle.store.proofs.Moves.{occ_append}
use Rattle.code.specs.declared.Code.{Code}
use Rattle.acts.specs.Places.{cells_of, places, from, all}
use Rattle.acts.proofs.Lying.{Below, lies_same}
use Rattle.machine.specs.Enacting.{nobody, named, Stage, stage_cells, Stack, stack_cells}
use Rattle.machine.specs.declared.Waiting.{Waiting}

pub below_less : (ws ys : List ℕ) (n top : ℕ) → n ≤ top → Below ws ys top → Below ws ys n
below_less ws ys n top l e i h = e i (omega arith)

module _ (fs : List Fun) (code : Code) (m m' : Meaning) (ws ys : List ℕ) where
  pub stage_same : (r : Waiting) (k : Frame) (ps : List ℕ) (gap : List Ty) (W : Ty) → Below ws ys (k.level.words + widths k.values)
      → ((c : ℕ) → 0 < occ c (stage_cells fs code m ws r k ps) → held m' c ≡ held m c) → Stage fs code m ws r k ps gap W
      → Stage fs code m' ys r k ps gap W × (stage_cells fs code m' ys r k ps ≡ stage_cells fs code m ws r k ps)
  stage_same r k ps gap W e same s =
      let l = k.level.words in
      let xs = cells_of m ws (named k) k.env (from r.base ps) in
      let vs = cells_of m ws all k.values (places l k.values) in
      let a = lies_same m m' ws ys l (named k) k.env (from r.base ps) (below_less ws ys l (l + widths k.values) (omega arith) e) (λ c q. same c (omega (arith, occ_append c xs vs))) s.variables in
      let b = lies_same m m' ws ys (l + widths k.values) all k.values (places l k.values) e (λ c q. same c (omega (arith, occ_append c xs vs))) s.values in
      (record { fixed = s.fixed; variables = a.0; values = b.0 }, rw (a.1, b.1) refl)

  pub stack_same : (recs recs' : List Waiting) (K : List Frame) (pss : List (List ℕ)) (top up : ℕ) (T R : Ty) → Below ws ys top
      → ((c : ℕ) → 0 < occ c (stack_cells fs code m ws recs K pss) → held m' c ≡ held m c)
      → ((i : ℕ) → i < length K → get_or recs' i nobody ≡ get_or recs i nobody)
      → Stack fs code m ws recs K pss top up T R
      → Stack fs code m' ys recs' K pss top up T R × (stack_cells fs code m' ys recs' K pss ≡ stack_cells fs code m ws recs K pss)
  stack_same recs recs' [] pss top up T R e same f s = (s, refl)
  stack_same recs recs' (k ∷ K) [] top up T R e same f s = absurd s
  stack_same recs recs' (k ∷ K) (ps ∷ pss) top up T R e same f s =
      let r = get_or recs (length K) nobody in
      let xs = stage_cells fs code m ws r k ps in
      let zs = stack_cells fs code m ws recs K pss in
      let l = s.2 in
      let d = s.1.fixed.down in
      let a = stage_same r k ps (T ∷ []) s.0 (below_less ws ys (k.level.words + widths k.values) top (omega arith) e) (λ c q. same c (omega (arith, occ_append c xs zs))) s.1 in
      let b = stack_same recs recs' K pss r.dest k.level.height s.0 R (below_less ws ys r.dest top (omega arith) e) (λ c q. same c (omega (arith, occ_append c xs zs))) (λ i q. f i (omega arith)) s.4 in
      let n : get_or recs' (length K) nobody ≡ r = f (length K) (omega arith) in
      ((s.0, rw n a.0, s.2, s.3, rw n b.0), rw (n, a.1, b.1) refl)
