use Rattle.std.proofs.Common.{◌≡◌, ◌^◌, ◌<◌, ◌≤◌, length, sym, refl, ◌∙◌, arith, rules}
use Rattle.std.proofs.lemmas.Bool.{ltb-false, ltb-true}
use Rattle.lfpl.specs.Typing.{type_at}
use Rattle.lfpl.specs.Values.{write}
use Rattle.store.proofs.Gives.{sets_first}
use Rattle.store.proofs.Rounds.{reads_back}
use Rattle.store.proofs.Shapes.{is_listed}
use Rattle.store.proofs.Tops.{never}
use Rattle.store.proofs.Uniques.{one_value}
use Rattle.store.proofs.show.show.Goals as goal

pub returns-then-too_short : goal.returns-then-too_short
returns-then-too_short g c = record {
  written = λ ts T v s k.
      let a = c.walk.ensures (type_at ts c.args.t) (is_listed c.new-kind.result c.args.entries.now c.args.t ts c.new-kind.ensures.entries c.new-kind.ensures.number T) v s k in
      let few : length c.args.area.now < 2 ^ 63 = omega arith in
      (omega (arith, a, few, ltb-true (length c.args.area.now) c.walk.new.sink.count (sym c.too_short.ensures ∙ c.if-too_short.true)), refl);
  left = λ _. refl;
  again = reads_back;
  one = one_value;
}

pub returns : goal.returns
returns g c = record {
  written = λ ts T v s k.
      let xs = write v in
      let i = is_listed c.new-kind.result c.args.entries.now c.args.t ts c.new-kind.ensures.entries c.new-kind.ensures.number T in
      let a = c.walk.ensures (type_at ts c.args.t) i v s k in
      let b = c.walk-2.ensures (type_at ts c.args.t) i v s k in
      let few : length c.args.area.now < 2 ^ 63 = omega arith in
      let n : c.walk.new.sink.count ≡ length xs = omega (arith, a, few, ltb-false (length c.args.area.now) c.walk.new.sink.count (sym c.too_short.ensures ∙ c.if-too_short.false)) in
      let l : length xs ≤ length c.args.area.now = omega (arith, n, ltb-false (length c.args.area.now) c.walk.new.sink.count (sym c.too_short.ensures ∙ c.if-too_short.false)) in
      let b₀ = sym b.0 in
      let b₁ = (b.1 (omega (arith, l))).0 ∙ sets_first xs c.args.area.now l in
      (n, l, search (rules, b₀, b₁));
  left = λ e. never (cc);
  again = reads_back;
  one = one_value;
}
