use Rattle.std.proofs.Common.{◌+◌, cond, eqb, get_or, sym, refl, ap, ◌∙◌, subst, arith, w32, to_z, of_z, rules}
use Rattle.std.proofs.lemmas.Int.{of_z-to_z}
use Rattle.codec.specs.Integer.{zigzag}
use Rattle.store.specs.Walking.{Walks}
use Rattle.store.proofs.Handed.{hand_num, hand_dia, hand_nil, hand_none, hand_cons, hand_leaf, hand_node, hand_sum, hand_pair, hand_cell}
use Rattle.store.proofs.Shapes.{narrow, side_is, wide_is, wide_pos}
use Rattle.store.proofs.walk.+walking.Goals as goal

pub walk-bounds-words-o : goal.walk-bounds-words-o
walk-bounds-words-o g t c = omega (arith, wide_pos c.args.kind, c.requires.narrow)

pub walk-returns-in-Number : goal.walk-returns-in-Number
walk-returns-in-Number g t c A x =
    hand_num g.row.S.Denot g.S.Sink.takes g.S.Sink.none g.S.Sink.joins (g.P.Pool.means c.args.pool.now) A c.args.words.now c.args.o c.args.left _ _ _ (c.in-Number.ensures.1 A x)
    (c.zigzag.ensures.code ∙ ap (λ z. zigzag (to_z w32 (of_z w32 z))) c.cast_signed.ensures ∙ ap (λ n. zigzag (to_z w32 n)) (of_z-to_z w32 (get_or c.args.words.now c.args.o 0) (c.fits-words c.args.o)))
    c.number.ensures

pub walk-returns-in-Diamond : goal.walk-returns-in-Diamond
walk-returns-in-Diamond g t c A x =
    hand_dia g.row.S.Denot g.S.Sink.takes g.S.Sink.none g.S.Sink.joins (g.P.Pool.means c.args.pool.now) A c.args.words.now c.args.o c.args.left _ _ (c.in-Diamond.ensures.1 A x) c.cell.ensures

pub walk-returns-then-word-eq0 : goal.walk-returns-then-word-eq0
walk-returns-then-word-eq0 g t c A x =
    let m = c.in-List.ensures.3 A x in
    hand_nil g.row.S.Denot g.S.Sink.takes g.S.Sink.none g.S.Sink.joins (g.P.Pool.means c.args.pool.now) A c.args.words.now c.args.o c.args.left m.0 _ _ m.2
    c.if-word-eq0.true c.number-then-word-eq0.ensures

pub walk-returns-then-left-eq0 : goal.walk-returns-then-left-eq0
walk-returns-then-left-eq0 g t c A x =
    let m = c.in-List.ensures.3 A x in
    hand_none g.row.S.Denot g.S.Sink.takes g.S.Sink.none g.S.Sink.joins (g.P.Pool.means c.args.pool.now) A c.args.words.now c.args.o c.args.left m.0 _ _ m.2
    (omega (arith, c.if-word-eq0.false)) c.if-left-eq0.true

pub walk-returns-else-left-eq0 : goal.walk-returns-else-left-eq0
walk-returns-else-left-eq0 g t c A x =
    let m = c.in-List.ensures.3 A x in
    hand_cons g.row.S.Denot g.S.Sink.takes g.S.Sink.none g.S.Sink.joins (g.P.Pool.means c.args.pool.now) A c.args.words.now c.args.o c.args.left m.0 _ _ _ _ _ m.2
    (omega (arith, c.if-word-eq0.false)) c.number-in-List.ensures c.cell-in-List.ensures c.load-cell.ensures (c.walk_pair.ensures m.0 A m.1 x)

pub walk-returns-then-word-eq0-2 : goal.walk-returns-then-word-eq0-2
walk-returns-then-word-eq0-2 g t c A x =
    let m = c.in-Tree.ensures.2 A x in
    hand_leaf g.row.S.Denot g.S.Sink.takes g.S.Sink.none g.S.Sink.joins (g.P.Pool.means c.args.pool.now) A c.args.words.now c.args.o c.args.left m.0 _ _ _ m.2
    c.if-word-eq0-2.true c.number-in-Tree.ensures (c.walk.ensures m.0 m.1)

pub walk-returns-else-word-eq0-2 : goal.walk-returns-else-word-eq0-2
walk-returns-else-word-eq0-2 g t c A x =
    let m = c.in-Tree.ensures.2 A x in
    let w = wide_is c.in-Tree.label m.0 m.1 in
    hand_node g.row.S.Denot g.S.Sink.takes g.S.Sink.none g.S.Sink.joins (g.P.Pool.means c.args.pool.now) A c.args.words.now c.args.o c.args.left m.0 _ _ _ _ _ _ _ m.2
    (omega (arith, c.if-word-eq0-2.false)) (omega (arith, c.width.ensures, w)) (omega (arith, c.width.ensures, w))
    c.number-in-Tree.ensures (c.walk.ensures m.0 m.1) (c.walk_cell.ensures A x) (c.walk_cell-in-Tree.ensures A x)

pub walk-returns-in-Pair : goal.walk-returns-in-Pair
walk-returns-in-Pair g t c A x =
    let m = c.in-Pair.ensures.3 A x in
    subst (λ A. Walks (g.P.Pool.means c.args.pool.now) A c.args.words.now c.args.o c.args.left (λ xs cs. g.S.Sink.takes c.args.sink.now xs cs c.walk_pair-in-Pair.new.sink)) (sym m.4)
    (c.walk_pair-in-Pair.ensures m.0 m.1 m.2 m.3)

pub walk-returns-in-Sum : goal.walk-returns-in-Sum
walk-returns-in-Sum g t c A x =
    let m = c.in-Sum.ensures.3 A x in
    let first = eqb (get_or c.args.words.now c.args.o 0) 0 in
    let D = cond first m.0 m.1 in
    hand_sum g.row.S.Denot g.S.Sink.takes g.S.Sink.none g.S.Sink.joins (g.P.Pool.means c.args.pool.now) A c.args.words.now c.args.o c.args.left m.0 m.1 D _ _ _ m.4 refl
    c.number-in-Sum.ensures (c.walk-in-Sum.ensures D (side_is c.in-Sum.first c.in-Sum.second c.side-part.result first m.0 m.1 m.2 m.3 c.side-part.ensures))

pub walk_cell-walk-requires : goal.walk_cell-walk-requires
walk_cell-walk-requires g t c κs within = let n = narrow c.args.kind in search rules

pub walk_cell-returns : goal.walk_cell-returns
walk_cell-returns g t c A x =
    hand_cell g.row.S.Denot g.S.Sink.takes g.S.Sink.none g.S.Sink.joins (g.P.Pool.means c.args.pool.now) A c.args.cell c.args.left _ _ _ _ c.cell.ensures c.load-words.ensures (c.walk.ensures A x)

pub walk_pair-returns : goal.walk_pair-returns
walk_pair-returns g t c A B x y =
    hand_pair g.row.S.Denot g.S.Sink.takes g.S.Sink.none g.S.Sink.joins (g.P.Pool.means c.args.pool.now) A B c.args.words.now c.args.o c.args.left
    (c.args.o + c.width.result) _ _ _ (omega (arith, c.width.ensures, wide_is c.args.first A x)) (c.walk.ensures A x) (c.walk-2.ensures B y)
