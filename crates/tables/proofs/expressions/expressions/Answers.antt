use Rattle.std.proofs.Common.{◌≡◌, ◌+◌, ◌∷◌, length, set, sym, ap, ◌∙◌, subst, arith, length-set}
use Rattle.std.proofs.lemmas.Result.{err_from_is_err_and}
use Rattle.codec.specs.Stack.{held, room}
use Rattle.tables.specs.Inner.{inner, waiting}
use Rattle.tables.specs.Listed.{head_of}
use Rattle.tables.proofs.Expressed.{pushed_one, comes_next, nothing_comes, opened_waits, waiting_none}
use Rattle.tables.proofs.Grouped.{Underway, underway_begins, underway_breaks, underway_opens, underway_ends}
use Rattle.tables.proofs.expressions.expressions.Goals as goal

pub loop-o-init : goal.loop-o-init
loop-o-init c =
    let e = c.pile_bodies.ensures in
    let b = c.args.cursor.now in
    let xs = c.args.nodes.now in
    (c.requires.nodes, omega arith, e.deep, e.room, λ ns k. subst (λ w. Underway ns b 0 xs w b) (k.arities ∙ sym e.waiting) (underway_begins ns b xs))

pub returns-in_err-x : goal.returns-in_err-x
returns-in_err-x c =
    let p = err_from_is_err_and c.from_residual.result c.from_residual.ensures.1 in
    let os = held c.pop.new.self in
    let rest = c.in-Some-next.rest in
    let n = c.in-Some-next.scope in
    let w = comes_next (held c.loop-o.pile) c.in-Some.o rest os n c.in-Some.ensures.held c.in-Some-next.ensures in
    rw (p.1, p.2)
    record {
      gives = λ ns k.
          underway_breaks ns c.args.cursor.now c.loop-o.count c.loop-o.nodes n (waiting (rest ∷ os)) c.loop-o.cursor
          (subst (λ w. Underway ns c.args.cursor.now c.loop-o.count c.loop-o.nodes w c.loop-o.cursor) w (c.loop-o.invariant.4 ns k))
          c.in_err-x.field-0.0 c.begin.new.cursor (c.in_err-x.ensures.gives ns k);
      bound = tt;
    }

pub loop-o-preserved-in-Some-next : goal.loop-o-preserved-in-Some-next
loop-o-preserved-in-Some-next c =
    let s = c.loop-o.invariant in
    let x = c.in_ok-x.x in
    let count = c.loop-o.count in
    let nodes = c.loop-o.nodes in
    let b = c.in_ok-x.ensures.bound in
    let os = held c.pop.new.self in
    let rest = c.in-Some-next.rest in
    let n = c.in-Some-next.scope in
    let h = ap length c.in-Some.ensures.held in
    let r : room c.pop.new.self ≡ 544 = c.pop.ensures.room ∙ s.3 in
    let p = c.push.ensures in
    let q = c.push-in-Some-next.ensures in
    let one = pushed_one os (held c.push.new.self) rest (room c.pop.new.self) c.push.result p.fits p.held (omega (arith, r, h, s.2, b)) in
    let two = pushed_one (held c.push.new.self) (held c.push-in-Some-next.new.self) c.opened.result (room c.push.new.self) c.push-in-Some-next.result q.fits q.held
    (omega (arith, ap length one, p.room, r, h, s.2, b)) ∙ ap (λ l. c.opened.result ∷ l) one in
    let w = comes_next (held c.loop-o.pile) c.in-Some.o rest os n c.in-Some.ensures.held c.in-Some-next.ensures in (
      length-set nodes count x ∙ s.0,
      omega (arith, b),
      omega (arith, ap length two, h, s.2),
      q.room ∙ p.room ∙ r,
      λ ns k.
          subst (λ w. Underway ns c.args.cursor.now (count + 1) (set nodes count x) w c.begin.new.cursor)
          (opened_waits ns.arities (head_of ns.types x) n (held c.push-in-Some-next.new.self) c.opened.result rest os two
          (c.opened.ensures ns.types ∙ ap (λ l. inner l (head_of ns.types x) n) (sym k.arities)))
          (underway_opens ns c.args.cursor.now count nodes n (waiting (rest ∷ os)) c.loop-o.cursor
          (subst (λ w. Underway ns c.args.cursor.now count nodes w c.loop-o.cursor) w (s.4 ns k))
          x c.begin.new.cursor (c.in_ok-x.ensures.gives ns k) s.0 b.1 b.0),
    )

pub loop-o-preserved : goal.loop-o-preserved
loop-o-preserved c =
    let s = c.loop-o.invariant in
    let e = c.in-Some.ensures.held in (
      s.0,
      s.1,
      omega (arith, ap length e, s.2),
      c.pop.ensures.room ∙ s.3,
      λ ns k. subst (λ w. Underway ns c.args.cursor.now c.loop-o.count c.loop-o.nodes w c.loop-o.cursor)
          (nothing_comes (held c.loop-o.pile) c.in-Some.o (held c.pop.new.self) e c.in_default-next.ensures) (s.4 ns k),
    )

pub returns : goal.returns
returns c =
    let s = c.loop-o.invariant in
    record {
      gives = λ ns k. underway_ends ns c.args.cursor.now c.loop-o.count c.loop-o.nodes c.loop-o.cursor
          (subst (λ w. Underway ns c.args.cursor.now c.loop-o.count c.loop-o.nodes w c.loop-o.cursor) (waiting_none (held c.loop-o.pile) c.in_default.ensures.held.0) (s.4 ns k))
          s.0 s.1;
      bound = s.1;
    }
