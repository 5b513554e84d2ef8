use Rattle.std.proofs.Common.{◌<◌, map, reverse, length, ◌∷◌, [], refl, ap, ◌∙◌, arith, length-append}
use Rattle.std.proofs.lemmas.Iterator.Adapters.{YieldsList-from_rev_slice}
use Rattle.std.proofs.lemmas.Iterator.Consumers.{YieldsList-turn, YieldsList-end}
use Rattle.std.proofs.lemmas.List.{length-reverse, reverse-reverse}
use Rattle.codec.specs.Stack.{held, room}
use Rattle.tables.specs.declared.listing.Signature.{Signature}
use Rattle.tables.proofs.Expressed.{waiting_none, few_met, pushed_one, body_before}
use Rattle.tables.proofs.expressions.pile_bodies.Goals as goal

pub loop-f-init : goal.loop-f-init
loop-f-init c = record {
  waiting = waiting_none (held c.args.pile.now) c.requires.empty;
  deep = ap length c.requires.empty;
  room = c.requires.room;
  same = refl;
}

pub body-requires : goal.body-requires
body-requires c =
    few_met c.args.functions.now (length c.loop-f.yielded) c.in-Some.f.now c.requires.few
    (YieldsList-turn (YieldsList-from_rev_slice c.args.functions.now cc) c.loop-f.yielded _ c.loop-f.yielded_by _ _ c.in-Some.f c.in-Some.is c.next.ensures.steps)

pub loop-f-preserved : goal.loop-f-preserved
loop-f-preserved c =
    let s = c.loop-f.invariant in
    let os = held c.loop-f.pile in
    let p = c.push.ensures in
    let t = YieldsList-turn (YieldsList-from_rev_slice c.args.functions.now cc) c.loop-f.yielded _ c.loop-f.yielded_by _ _ c.in-Some.f c.in-Some.is c.next.ensures.steps in
    let h : length os < room c.loop-f.pile = omega (arith, s.deep, s.room, t.0, length-reverse c.args.functions.now, c.requires.functions) in
    let e = pushed_one os (held c.push.new.self) c.body.result (room c.loop-f.pile) c.push.result p.fits p.held h in
    record {
      waiting = body_before c.loop-f.yielded c.in-Some.f c.body.result os (held c.push.new.self) e c.body.ensures s.waiting;
      deep = omega (arith, ap length e, s.deep, length-append c.loop-f.yielded (c.in-Some.f ∷ []));
      room = p.room ∙ s.room;
      same = p.same ∙ s.same;
    }

pub returns-clause-waiting : goal.returns-clause-waiting
returns-clause-waiting c =
    let t = YieldsList-end (YieldsList-from_rev_slice c.args.functions.now cc) c.loop-f.yielded _ c.loop-f.yielded_by _ _ c.in-None.is c.next.ensures.steps in
    c.loop-f.invariant.waiting ∙ ap (λ fs. map (λ (f : Signature). f.arity) (reverse fs)) t.0 ∙ ap (map (λ (f : Signature). f.arity)) (reverse-reverse c.args.functions.now)
