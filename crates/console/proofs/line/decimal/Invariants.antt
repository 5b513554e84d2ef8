use Rattle.std.proofs.Common.{◌≡◌, drop}
use Rattle.console.specs.Decimal.{number_of, with_figures}
use Rattle.console.proofs.line.decimal.Given as goal

-- the figures left, behind the number so far, give the whole
abbrev pub invariant-loop-figure : goal.invariant-loop-figure
invariant-loop-figure l = number_of l.figures ≡ with_figures l.n (drop l.figure-index l.figures)
