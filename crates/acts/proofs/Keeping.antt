-- Heads that build a value in the cells of diamonds: no cell that the parts hold is one of these.
use Rattle.std.proofs.Common.{◌≡◌, ℕ, ◌+◌, List, [], ◌∷◌, ◌++◌, get_or, unwrap_or, sym, refl, ap, ◌∙◌, subst, ap₂, inl, inr, arith, get_or-set_same}
use Rattle.std.proofs.lemmas.Bool.{cases_eq, leb-true}
use Rattle.lfpl.specs.Reading.{roomy}
use Rattle.lfpl.specs.Syntax.{Ty, diamond, list_of, tree_of, width, first, mk_cons, mk_node, Exprs, Fun}
use Rattle.lfpl.specs.Typing.{type_at}
use Rattle.lfpl.specs.Values.{Val, cons, node, Typed}
use Rattle.lfpl.proofs.SameTypes.{same_eq}
use Rattle.pool.specs.Pools.{Meaning, held}
use Rattle.store.specs.Layout.{used, words_of, Shows, footprint, occ}
use Rattle.store.proofs.Moves.{moved, occ_append, occ_here, used_same}
use Rattle.store.proofs.Shown.{shown_dia}
use Rattle.acts.specs.Effects.{Kept}
use Rattle.acts.specs.Places.{Lying, cells_at, Above}
use Rattle.acts.specs.Settling.{variable_cells, value_cells}
use Rattle.acts.proofs.Lying.{window_of, window_part}
use Rattle.acts.proofs.Settled.{part, above_set, Right, known, roomed}

-- ---- a cell that is written

kept_other : (m : Meaning) (c : ℕ) (ws : List ℕ) (i n : ℕ) (m' : Meaning) → Kept m c ws i n m' → (d : ℕ) → occ d (c ∷ []) ≡ 0 → held m' d ≡ held m d
kept_other m c ws i n m' k d e = k.others d (λ q. absurd (omega (arith, ap (λ y. occ y (c ∷ [])) q, occ_here c [])))

kept_used : (m : Meaning) (c : ℕ) (ws : List ℕ) (i n : ℕ) (m' : Meaning) → Kept m c ws i n m' → used m c ≡ 1 → (d : ℕ) → used m' d ≡ used m d
kept_used m c ws i n m' k u d = elim (cases_eq d c) [
  | inl e ↦ ap (used m') e ∙ k.taken ∙ sym u ∙ ap (used m) (sym e)
  | inr e ↦ used_same m m' d d refl (k.others d e)
]

-- a diamond's cell
diamond_cell : (m : Meaning) (ws : List ℕ) (x : Typed) (top p q : ℕ) → x.type ≡ diamond → p ≡ q → Lying m ws top x p
    → (used m (get_or ws q 0) ≡ 1) × (cells_at m ws x p ≡ get_or ws q 0 ∷ [])
unfolding footprint
diamond_cell m ws x top p q e f l =
    let s = part m ws x diamond top p q e f l in
    let d = shown_dia m ws q x.value s.0 in
    (d.1, s.1 ∙ ap (λ v. footprint m diamond v ws q) d.0)

cons_shown : (m : Meaning) (T : Ty) (v₁ v₂ : Val) (ys : List ℕ) (dest c : ℕ) → get_or ys dest 0 ≡ c → T ≡ list_of (first T) → used m c ≡ 1 → Shows m (first T) v₁ (words_of m c) 0
    → Shows m T v₂ (words_of m c) (width (first T))
    → Shows m T (cons v₁ v₂) ys dest × (footprint m T (cons v₁ v₂) ys dest ≡ c ∷ (footprint m (first T) v₁ (words_of m c) 0 ++ footprint m T v₂ (words_of m c) (width (first T))))
unfolding Shows footprint
cons_shown m T v₁ v₂ ys dest c g x u s₁ s₂ = (
  (
    x,
    ap (used m) g ∙ u,
    subst (λ z. Shows m (first T) v₁ (words_of m z) 0) (sym g) s₁,
    subst (λ z. Shows m T v₂ (words_of m z) (width (first T))) (sym g) s₂,
  ),
  ap (λ z. z ∷ (footprint m (first T) v₁ (words_of m z) 0 ++ footprint m T v₂ (words_of m z) (width (first T)))) g,
)

node_shown : (m : Meaning) (T : Ty) (v₁ v₂ v₃ : Val) (ys : List ℕ) (dest cl cr : ℕ) → get_or ys dest 0 ≡ 1 → get_or ys (dest + 1 + width (first T)) 0 ≡ cl
    → get_or ys (dest + 2 + width (first T)) 0 ≡ cr → T ≡ tree_of (first T) → Shows m (first T) v₁ ys (dest + 1) → used m cl ≡ 1 → Shows m T v₂ (words_of m cl) 0 → used m cr ≡ 1
    → Shows m T v₃ (words_of m cr) 0
    → Shows m T (node v₁ v₂ v₃) ys dest
    × (footprint m T (node v₁ v₂ v₃) ys dest ≡ footprint m (first T) v₁ ys (dest + 1) ++ ((cl ∷ footprint m T v₂ (words_of m cl) 0) ++ (cr ∷ footprint m T v₃ (words_of m cr) 0)))
unfolding Shows footprint
node_shown m T v₁ v₂ v₃ ys dest cl cr g gl gr x s₁ ul s₂ ur s₃ = (
  (
    x,
    g,
    s₁,
    ap (used m) gl ∙ ul,
    subst (λ z. Shows m T v₂ (words_of m z) 0) (sym gl) s₂,
    ap (used m) gr ∙ ur,
    subst (λ z. Shows m T v₃ (words_of m z) 0) (sym gr) s₃,
  ),
  ap₂ (λ y z. footprint m (first T) v₁ ys (dest + 1) ++ ((y ∷ footprint m T v₂ (words_of m y) 0) ++ (z ∷ footprint m T v₃ (words_of m z) 0))) gl gr,
)

module _ (fs : List Fun) (m : Meaning) (ws : List ℕ) (base at dest : ℕ) (qs : Exprs) (env : List Typed) (ps : List ℕ) (B W : Ty) where
  pub cons_right : (d a b : Typed) → Right fs m ws base at dest qs env ps B W mk_cons (d ∷ a ∷ b ∷ [])
  cons_right d a b s =
      let vs = d ∷ a ∷ b ∷ [] in
      let T = b.type in
      let k = width (first T) in
      let c = get_or ws at 0 in
      let t = known fs m ws base at dest qs env ps B W mk_cons vs s in
      let x = same_eq T (list_of (first T)) t.0 in
      let td = ap (λ l. type_at l 0) t.1 in
      let ta = ap (λ l. type_at l 1) t.1 in
      let wd = ap width td in
      let wa = ap width ta in
      let pd = diamond_cell m ws d _ at at td refl (s.values.0 refl) in
      let pa = part m ws a (first T) _ (at + width d.type) (at + 1) ta (omega arith) (s.values.1.0 refl) in
      let pb = part m ws b T _ (at + width d.type + width a.type) (at + 1 + k) refl (omega arith) (s.values.1.1.0 refl) in
      let yd = cells_at m ws d at in
      let ya = cells_at m ws a (at + width d.type) in
      let yb = cells_at m ws b (at + width d.type + width a.type) in
      let fa = footprint m (first T) a.value ws (at + 1) in
      let fb = footprint m T b.value ws (at + 1 + k) in
      let xc = variable_cells fs m ws base at dest mk_cons qs env vs ps in
      let yc = value_cells fs m ws base at dest mk_cons qs env vs ps in
      let total : (i : ℕ) → occ i (xc ++ yc) ≡ occ i xc + (occ i (c ∷ []) + (occ i fa + occ i fb)) =
      λ i. omega (
        arith,
        occ_append i xc yc,
        occ_append i yd (ya ++ (yb ++ [])),
        occ_append i ya (yb ++ []),
        occ_append i yb [],
        ap (λ l. occ i l) pd.1,
        ap (λ l. occ i l) pa.1,
        ap (λ l. occ i l) pb.1,
      ) in (
        roomed fs m ws base at dest qs env ps B W mk_cons vs s (leb-true k 15 (sym (ap roomy x) ∙ ap roomy s.whole ∙ s.narrow.element), pd.0),
        λ r m' ys e.
            let kept = e.1 in
            let cs = words_of m' c in
            let other = kept_other m c ws (at + 1) (k + 1) m' kept in
            let w = ap width x in
            let la = moved m m' (first T) a.value ws cs (at + 1) 0 pa.0 (window_part ws cs (at + 1) 0 (k + 1) (at + 1) 0 k kept.there (omega arith) (omega arith) (omega arith))
            (λ i h. other i (omega (arith, total i, s.once i))) in
            let lb = moved m m' T b.value ws cs (at + 1 + k) k pb.0 (window_part ws cs (at + 1) 0 (k + 1) (at + 1 + k) k (width T) kept.there (omega arith) (omega arith) (omega arith))
            (λ i h. other i (omega (arith, total i, s.once i))) in
            let g : get_or ys dest 0 ≡ c = ap (λ l. get_or l dest 0) e.2 ∙ get_or-set_same ws dest c 0 (omega (arith, s.high, s.down)) in
            let v = cons_shown m' T a.value b.value ys dest c g x kept.taken la.0 lb.0 in
            record {
              next = e.0;
              type = s.whole;
              shows = v.0;
              above = subst (λ l. Above ws l dest) (sym e.2) (above_set ws dest c);
              cells = λ i. omega (
                arith,
                total i,
                ap (λ l. occ i l) v.1,
                occ_append i (footprint m' (first T) a.value cs 0) (footprint m' T b.value cs k),
                ap (λ l. occ i l) la.1,
                ap (λ l. occ i l) lb.1,
              );
              still = λ i p. other i (omega (arith, total i));
              taken = kept_used m c ws (at + 1) (k + 1) m' kept pd.0;
              count = kept.count;
              bound = kept.bound;
            },
      )

  pub node_right : (d e a l r : Typed) → Right fs m ws base at dest qs env ps B W mk_node (d ∷ e ∷ a ∷ l ∷ r ∷ [])
  node_right d e a l r s =
      let vs = d ∷ e ∷ a ∷ l ∷ r ∷ [] in
      let T = l.type in
      let k = width (first T) in
      let cl = get_or ws at 0 in
      let cr = get_or ws (at + 1) 0 in
      let t = known fs m ws base at dest qs env ps B W mk_node vs s in
      let x = same_eq T (tree_of (first T)) t.0 in
      let w = ap width x in
      let td = ap (λ l. type_at l 0) t.1 in
      let te = ap (λ l. type_at l 1) t.1 in
      let ta = ap (λ l. type_at l 2) t.1 in
      let tr = ap (λ l. type_at l 4) t.1 in
      let wd = ap width td in
      let we = ap width te in
      let wa = ap width ta in
      let qe = at + width d.type in
      let qa = qe + width e.type in
      let ql = qa + width a.type in
      let qr = ql + width l.type in
      let pd = diamond_cell m ws d _ at at td refl (s.values.0 refl) in
      let pe = diamond_cell m ws e _ qe (at + 1) te (omega arith) (s.values.1.0 refl) in
      let pa = part m ws a (first T) _ qa (at + 2) ta (omega arith) (s.values.1.1.0 refl) in
      let pl = part m ws l T _ ql (at + 2 + k) refl (omega arith) (s.values.1.1.1.0 refl) in
      let pr = part m ws r T _ qr (at + 2 + k + (k + 3)) tr (omega arith) (s.values.1.1.1.1.0 refl) in
      let yd = cells_at m ws d at in
      let ye = cells_at m ws e qe in
      let ya = cells_at m ws a qa in
      let yl = cells_at m ws l ql in
      let yr = cells_at m ws r qr in
      let fa = footprint m (first T) a.value ws (at + 2) in
      let fl = footprint m T l.value ws (at + 2 + k) in
      let fr = footprint m T r.value ws (at + 2 + k + (k + 3)) in
      let xc = variable_cells fs m ws base at dest mk_node qs env vs ps in
      let yc = value_cells fs m ws base at dest mk_node qs env vs ps in
      let total : (i : ℕ) → occ i (xc ++ yc) ≡ occ i xc + (occ i (cl ∷ []) + (occ i (cr ∷ []) + (occ i fa + (occ i fl + occ i fr)))) =
      λ i. omega (
        arith,
        occ_append i xc yc,
        occ_append i yd (ye ++ (ya ++ (yl ++ (yr ++ [])))),
        occ_append i ye (ya ++ (yl ++ (yr ++ []))),
        occ_append i ya (yl ++ (yr ++ [])),
        occ_append i yl (yr ++ []),
        occ_append i yr [],
        ap (λ l. occ i l) pd.1,
        ap (λ l. occ i l) pe.1,
        ap (λ l. occ i l) pa.1,
        ap (λ l. occ i l) pl.1,
        ap (λ l. occ i l) pr.1,
      ) in (
        roomed fs m ws base at dest qs env ps B W mk_node vs s (omega (arith, s.narrow.low, ap width s.whole), pd.0, pe.0),
        λ n m' ys h.
            let f = h.1 in
            let mid = f.between in
            let otherl = kept_other m cl ws (at + 2 + k) (k + 3) mid f.left in
            let otherr = kept_other mid cr ws (at + 2 + k + (k + 3)) (k + 3) m' f.right in
            let usedl = kept_used m cl ws (at + 2 + k) (k + 3) mid f.left pd.0 in
            let usedr = kept_used mid cr ws (at + 2 + k + (k + 3)) (k + 3) m' f.right (usedl cr ∙ pe.0) in
            let other : (i : ℕ) → occ i (cl ∷ []) + occ i (cr ∷ []) ≡ 0 → held m' i ≡ held m i = λ i q. otherr i (omega arith) ∙ otherl i (omega arith) in
            let hl : held m' cl ≡ held mid cl = otherr cl (omega (arith, total cl, s.once cl, occ_here cl [])) in
            let zl = words_of m' cl in
            let zr = words_of m' cr in
            let el : zl ≡ words_of mid cl = ap (λ u. unwrap_or u []) hl in
            let la = moved m m' (first T) a.value ws ys (at + 2) (dest + 1) pa.0 (window_of ws ys (at + 2) (dest + 1) k f.tagged.there) (λ i p. other i (omega (arith, total i, s.once i))) in
            let ll = moved m m' T l.value ws zl (at + 2 + k) 0 pl.0
            (window_part ws zl (at + 2 + k) 0 (k + 3) (at + 2 + k) 0 (width T) (λ j p. ap (λ u. get_or u (0 + j) 0) el ∙ f.left.there j p) (omega arith) (omega arith) (omega arith))
            (λ i p. other i (omega (arith, total i, s.once i))) in
            let lr = moved m m' T r.value ws zr (at + 2 + k + (k + 3)) 0 pr.0
            (window_part ws zr (at + 2 + k + (k + 3)) 0 (k + 3) (at + 2 + k + (k + 3)) 0 (width T) f.right.there (omega arith) (omega arith) (omega arith))
            (λ i p. other i (omega (arith, total i, s.once i))) in
            let v = node_shown m' T a.value l.value r.value ys dest cl cr f.tagged.mark_is f.left_is f.right_is x la.0 (usedr cl ∙ usedl cl ∙ pd.0) ll.0 f.right.taken lr.0 in
            let ga = footprint m' (first T) a.value ys (dest + 1) in
            let gl = footprint m' T l.value zl 0 in
            let gr = footprint m' T r.value zr 0 in
            record {
              next = h.0;
              type = s.whole;
              shows = v.0;
              above = f.tagged.above;
              cells = λ i. omega (
                arith,
                total i,
                ap (λ l. occ i l) v.1,
                occ_append i ga ((cl ∷ gl) ++ (cr ∷ gr)),
                occ_append i (cl ∷ gl) (cr ∷ gr),
                ap (λ l. occ i l) la.1,
                ap (λ l. occ i l) ll.1,
                ap (λ l. occ i l) lr.1,
              );
              still = λ i p. other i (omega (arith, total i));
              taken = λ i. usedr i ∙ usedl i;
              count = f.right.count ∙ f.left.count;
              bound = f.right.bound ∙ f.left.bound;
            },
      )
