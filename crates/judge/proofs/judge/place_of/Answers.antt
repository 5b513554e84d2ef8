use Rattle.std.proofs.Common.{◌≡◌, ℕ, get_or, sym, ap, ◌∙◌}
use Rattle.lfpl.specs.Syntax.{Head, var}
use Rattle.tables.specs.Listed.{head_by}
use Rattle.tables.specs.declared.listing.Kind.{Kind}
use Rattle.judge.proofs.judge.place_of.Goals as goal

pub returns-in-Variable : goal.returns-in-Variable
returns-in-Variable c ts Γ fs ps i s r e =
    let f : ◌≡◌ {A = Head} (var c.args.node.number) (var i) = sym (ap (λ (x : Kind). head_by x ts c.args.node.number) c.in-Variable.is) ∙ e in
    let g : c.args.node.number ≡ i = cc f in
    c.variable_place.ensures ts Γ ps s ∙ ap (λ (v : ℕ). get_or ps v 0) g
