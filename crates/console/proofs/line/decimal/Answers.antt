use Rattle.std.proofs.Common.{sym, ◌∙◌}
use Rattle.std.proofs.lemmas.List.{at_drop_all}
use Rattle.console.specs.Decimal.{with_figures}
use Rattle.console.proofs.Figures.{one_figure}
use Rattle.console.proofs.line.decimal.Goals as goal

pub returns-in_err-n : goal.returns-in_err-n
returns-in_err-n c =
    c.from_residual.ensures ∙ sym (c.loop-figure.invariant ∙ one_figure _ _ _ _ c.loop-figure-test.true (sym c.appended.ensures ∙ c.in_err-n.was))

pub loop-figure-preserved : goal.loop-figure-preserved
loop-figure-preserved c = c.loop-figure.invariant ∙ one_figure _ _ _ _ c.loop-figure-test.true (sym c.appended.ensures ∙ c.in_ok-n.was)

pub returns : goal.returns
returns c = sym (c.loop-figure.invariant ∙ at_drop_all (with_figures c.loop-figure.n) _ _ c.loop-figure-test.false)
