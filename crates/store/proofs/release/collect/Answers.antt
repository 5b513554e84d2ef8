use Rattle.std.proofs.Common.{sym, rules}
use Rattle.lfpl.specs.Typing.{type_at}
use Rattle.store.proofs.Shapes.{is_listed}
use Rattle.store.proofs.Uniques.{holds_charge}
use Rattle.store.proofs.release.collect.Goals as goal

pub returns : goal.returns
returns g c = record {
  cells = λ ts T v s k l.
      let a = c.walk.ensures (type_at ts c.args.t) (is_listed c.new-kind.result c.args.entries.now c.args.t ts c.new-kind.ensures.entries c.new-kind.ensures.number T) v s k in
      let n = sym a.0 in
      let b = a.1 l in
      (search (rules, n, b), b.1);
  charge = holds_charge;
}
