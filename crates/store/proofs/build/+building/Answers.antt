use Rattle.std.proofs.Common.{◌≡◌, ◌+◌, cond, eqb, length, slice_set, sym, refl, ap, ◌∙◌, subst, arith, w32, to_z, of_z, rules}
use Rattle.store.specs.Building.{Builds}
use Rattle.store.proofs.Shapes.{first_word, narrow, side_is, wide_is}
use Rattle.store.proofs.Steps.{step_num, step_dia, step_nil, step_cons, step_leaf, step_node, step_sum, step_pair, step_box}
use Rattle.store.proofs.build.+building.Goals as goal

pub build-returns-in-Number : goal.build-returns-in-Number
build-returns-in-Number g t c = record {
  on = c.number_from-number.ensures.on;
  builds = λ A x.
      step_num c.args.bytes.now c.args.at _ _ c.number_from-number.ensures.is A _ c.args.words.now c.args.o _ (c.in-Number.ensures.1 A x)
      (first_word c.args.kind c.args.o _ c.told-words c.requires.narrow) (search rules)
      (c.cast_unsigned.ensures ∙ ap (λ z. of_z w32 (to_z w32 (of_z w32 z))) c.unzigzag.ensures.integer);
}

pub build-returns-in-Diamond : goal.build-returns-in-Diamond
build-returns-in-Diamond g t c = record {
  on = omega arith;
  builds = λ A x.
      step_dia c.args.bytes.now A c.args.at _ _ c.args.words.now _ c.args.o _ (c.in-Diamond.ensures.1 A x)
      (first_word c.args.kind c.args.o _ c.told-words c.requires.narrow) c.fresh.ensures;
}

pub build-returns-then-number-eq0 : goal.build-returns-then-number-eq0
build-returns-then-number-eq0 g t c = record {
  on = c.number_from-number.ensures.on;
  builds = λ A x.
      let m = c.in-List.ensures.3 A x in
      step_nil c.args.bytes.now c.args.at _ _ c.number_from-number.ensures.is A m.0 _ c.args.words.now c.args.o m.2
      (first_word c.args.kind c.args.o _ c.told-words c.requires.narrow) c.if-number-eq0.true;
}

pub build-returns-else-number-eq0 : goal.build-returns-else-number-eq0
build-returns-else-number-eq0 g t c = record {
  on = omega (arith, c.number_from-number.ensures.on, c.build_pair-last.ensures.on);
  builds = λ A x.
      let m = c.in-List.ensures.3 A x in
      step_cons c.args.bytes.now c.args.at _ _ c.number_from-number.ensures.is A m.0 _ _ _ _ _ _ c.args.words.now c.args.o _ m.2
      (first_word c.args.kind c.args.o _ c.told-words c.requires.narrow) (omega (arith, c.if-number-eq0.false))
      (c.build_pair-last.ensures.builds m.0 A m.1 x) c.fresh-in-List.ensures;
}

pub build-returns-then-number-eq0-2 : goal.build-returns-then-number-eq0-2
build-returns-then-number-eq0-2 g t c = record {
  on = omega (arith, c.number_from-number.ensures.on, c.build-mid.ensures.on);
  builds = λ A x.
      let m = c.in-Tree.ensures.2 A x in
      step_leaf c.args.bytes.now c.args.at _ _ c.number_from-number.ensures.is A m.0 _ _ _ c.args.words.now _ c.args.o m.2
      (first_word c.args.kind c.args.o _ c.told-words c.requires.narrow) c.if-number-eq0-2.true (c.build-mid.ensures.builds m.0 m.1);
}

pub build-returns-else-number-eq0-2 : goal.build-returns-else-number-eq0-2
build-returns-else-number-eq0-2 g t c = record {
  on = omega (arith, c.number_from-number.ensures.on, c.build-mid.ensures.on, c.build_cell-left.ensures.on, c.build_cell-right.ensures.on);
  builds = λ A x.
      let m = c.in-Tree.ensures.2 A x in
      let w = wide_is c.in-Tree.label m.0 m.1 in
      let l : length c.build-mid.new.words ≡ 16 = c.build-mid.array_long in
      let place = c.args.o + 1 + c.width.result in
      subst (λ ws. Builds c.args.bytes.now A c.args.at c.build_cell-right.result.1 (g.P.Pool.means c.args.pool.now) c.args.words.now c.args.o (g.P.Pool.means c.build_cell-right.new.pool) ws)
      {x = slice_set (slice_set c.build-mid.new.words place c.build_cell-left.result.0) (place + 1) c.build_cell-right.result.0} (sym c.set_two.ensures)
      (step_node c.args.bytes.now c.args.at _ _ c.number_from-number.ensures.is A m.0 _ c.build_cell-left.result c.build_cell-right.result _ _ _ _ c.args.words.now _ c.args.o place (place + 1) m.2
      (omega (arith, c.width.ensures, w)) (omega (arith, c.width.ensures, w))
      (first_word c.args.kind c.args.o _ c.told-words c.requires.narrow) (omega (arith, l, c.width.ensures, c.in-Tree.ensures.1, c.requires.narrow)) (omega (arith, c.if-number-eq0-2.false))
      (c.build-mid.ensures.builds m.0 m.1) (c.build_cell-left.ensures.boxes A x) (c.build_cell-right.ensures.boxes A x));
}

pub build-returns-in-Pair : goal.build-returns-in-Pair
build-returns-in-Pair g t c = record {
  on = c.build_pair.ensures.on;
  builds = λ A x.
      let m = c.in-Pair.ensures.3 A x in
      subst (λ A. Builds c.args.bytes.now A c.args.at c.build_pair.result (g.P.Pool.means c.args.pool.now) c.args.words.now c.args.o (g.P.Pool.means c.build_pair.new.pool) c.build_pair.new.words)
      (sym m.4) (c.build_pair.ensures.builds m.0 m.1 m.2 m.3);
}

pub build-returns-in-Sum : goal.build-returns-in-Sum
build-returns-in-Sum g t c = record {
  on = omega (arith, c.number_from-number.ensures.on, c.build.ensures.on);
  builds = λ A x.
      let m = c.in-Sum.ensures.3 A x in
      let D = cond (eqb c.number_from-number.result.0 0) m.0 m.1 in
      step_sum c.args.bytes.now c.args.at _ _ c.number_from-number.ensures.is A m.0 m.1 D _ _ _ c.args.words.now _ c.args.o m.4
      (first_word c.args.kind c.args.o _ c.told-words c.requires.narrow) refl
      (c.build.ensures.builds D (side_is c.in-Sum.first c.in-Sum.second c.side-part.result (eqb c.number_from-number.result.0 0) m.0 m.1 m.2 m.3 c.side-part.ensures));
}

pub build_cell-build-end-requires : goal.build_cell-build-end-requires
build_cell-build-end-requires g t c κs within = let n = narrow c.args.kind in search rules

pub build_cell-returns : goal.build_cell-returns
build_cell-returns g t c = record {
  on = c.build-end.ensures.on;
  boxes = λ A x. step_box c.args.bytes.now A c.args.at _ _ _ _ _ _ _ (c.build-end.ensures.builds A x) c.fresh.ensures;
}

pub build_pair-returns : goal.build_pair-returns
build_pair-returns g t c = record {
  on = omega (arith, c.build-mid.ensures.on, c.build.ensures.on);
  builds = λ A B x y.
      step_pair c.args.bytes.now A B c.args.at _ _ _ _ _ c.args.words.now _ _ c.args.o _ (omega (arith, c.width.ensures, wide_is c.args.first A x))
      (c.build-mid.ensures.builds A x) (c.build.ensures.builds B y);
}
