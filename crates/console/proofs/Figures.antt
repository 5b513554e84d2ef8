-- One figure more is read.
use Rattle.std.proofs.Common.{◌≡◌, ℕ, ◌+◌, ◌<◌, List, length, get_or, drop, Option, ap, ◌∙◌}
use Rattle.std.proofs.lemmas.List.{at_drop_more}
use Rattle.console.specs.Decimal.{with_figure, with_figures, go_on}

-- the figures from i on behind n, where the figure at i makes of n what o says
pub one_figure : (n i : ℕ) (cs : List ℕ) (o : Option ℕ) → i < length cs → with_figure n (get_or cs i 0) ≡ o → with_figures n (drop i cs) ≡ go_on o (λ m. with_figures m (drop (i + 1) cs))
one_figure n i cs o h e = at_drop_more (with_figures n) cs i 0 h ∙ ap (λ w. go_on w (λ m. with_figures m (drop (i + 1) cs))) e
