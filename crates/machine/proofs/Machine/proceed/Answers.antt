use Rattle.std.proofs.Common.{◌≡◌, ◌<◌, sym, ap, subst, arith}
use Rattle.acts.proofs.InPlace.{in_place_law}
use Rattle.acts.specs.Effects.{Room}
use Rattle.code.specs.Nodes.{node_at}
use Rattle.machine.specs.Stepping.{Performed}
use Rattle.machine.proofs.Turning.{small, part_enacts, settle_room, settle_enacts}
use Rattle.machine.proofs.Machine.proceed.Goals as goal

pub returns-then-r-node : goal.returns-then-r-node
returns-then-r-node g c = record {
  level = λ q. absurd (c.pass.ensures.begins q);
  enacts = λ p R k K h.
      let m = g.P.Pool.means c.args.pool.now in
      let code = c.args.code.now in
      let r = c.args.r in
      part_enacts p R code m c.args.self.now c.pass.new.self r K k h
      (subst (λ n. r.coming < n.arms) c.node-node.ensures c.if-r-node.true) c.pass.ensures.passed;
}

pub returns-else-r-node : goal.returns-else-r-node
returns-else-r-node g c = record {
  level = λ q. omega (arith, c.settle.ensures.level);
  enacts = λ p R k K h.
      let m = g.P.Pool.means c.args.pool.now in
      let m' = g.P.Pool.means c.settle.new.pool in
      let code = c.args.code.now in
      let r = c.args.r in
      let x = c.args.self.now in
      let x' = c.settle.new.self in
      let e : c.node-node.result ≡ node_at code r.number = c.node-node.ensures in
      let t : r.coming < (node_at code r.number).arms → ⊥ = λ q. omega (arith, q, ap (λ n. n.arms) e, c.if-r-node.false) in
      let s = small p R code m x x r K k h in
      let room = subst (λ n. Room m x.words r.base (Prim.Native.Nat.◌+◌ r.base n.over) r.dest n.op) (sym e) (settle_room in_place_law p R code m m x x r K k h t) in
      settle_enacts in_place_law p R code m m' x x' r K k h t
      (subst (λ n. Performed code n r m x m' x') e (c.settle.ensures.performed (omega (arith, s.low, ap (λ n. n.over) e)) (omega (arith, s.short)) room));
}
