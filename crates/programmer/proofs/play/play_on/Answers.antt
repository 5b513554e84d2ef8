use Rattle.std.proofs.Common.{◌≡◌, ℕ, List, MatchResult, refl, sym, ◌∙◌, subst₂, rules, take_all}
use Rattle.programmer.specs.Course.{History, shown_by}
use Rattle.programmer.specs.Ledger.{opened}
use Rattle.programmer.specs.declared.play.Call as code
use Rattle.programmer.proofs.Courses.{at_first, one_more, hears_first, hears, tells_front, acts_as}
use Rattle.programmer.proofs.play.play_on.Goals as goal

pub hear-requires : goal.hear-requires
hear-requires g c = let h = c.requires.agrees in hears_first g.P.Pool.means h.0 _ _ _ _ h.1 refl h.2

pub hear-requires-in-loop-i : goal.hear-requires-in-loop-i
hear-requires-in-loop-i g c =
    let h = c.requires.agrees in
    let n : MatchResult c.perform-answer.result (λ a. c.map_or.result ≡ shown_by a) (λ _. c.map_or.result ≡ 0) = search rules in
    let k = acts_as g.P.Pool.means _ _ _ _ _ _ _ _ c.loop-i.invariant.0 refl (tells_front c.perform-answer.result c.perform-answer.new.area c.map_or.result c.min-count.result n c.min-count.ensures) c.perform-answer.ensures.acts in
    hears g.P.Pool.means h.0 _ c.args.calls.now c.loop-i.i _ _ _ _ _ h.1 c.loop-i-test.true (c.loop-i.invariant.1 h.0 h.1 h.2) k

pub loop-i-init : goal.loop-i-init
loop-i-init g c = (sym c.requires.room, λ made e a. at_first g.P.Pool.means made _ _ _ a)

pub loop-i-preserved : goal.loop-i-preserved
loop-i-preserved g c =
    let k = acts_as g.P.Pool.means _ _ _ _ _ _ _ _ c.loop-i.invariant.0 refl refl c.perform-answer.ensures.acts in (
      c.perform-answer.ensures.long ∙ c.loop-i.invariant.0,
      λ made e a. one_more g.P.Pool.means made _ _ c.args.calls.now c.loop-i.i _ _ _ _ c.loop-i-test.true (c.loop-i.invariant.1 made e a) k,
    )

pub returns : goal.returns
returns g c =
    let m = c.args.making in
    λ made e a. subst₂ (λ (n : ℕ) (cs : List code.Call). History g.P.Pool.means made (opened m.cells m.box_number) n cs c.loop-i.programmer)
    c.requires.room (take_all c.loop-i.i c.args.calls.now c.loop-i-test.false) (c.loop-i.invariant.1 made e a).history
