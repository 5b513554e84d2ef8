-- The worked examples, by computation.
use Rattle.std.proofs.Common.{[], ◌∷◌, refl, arith}
use Rattle.std.specs.Int.{int_wrap}
use Rattle.codec.specs.Number.{numeral, spelling}
use Rattle.codec.specs.Reading.{number_at, within_at, many_at}
use Rattle.lfpl.specs.Reading.{entry_at, types_at, signature_at, signatures_at, head_at, each_at, expr_at, finished, table_at}
use Rattle.lfpl.specs.Examples.{reverse}
use Rattle.meaning.specs.Examples.{ExamplesLaw, Holds, apt, two}

pub examples_law : ExamplesLaw
unfolding int_wrap numeral spelling number_at within_at many_at entry_at types_at signature_at signatures_at head_at each_at expr_at finished table_at
examples_law = (refl, (refl, (refl, (refl, (refl, (refl, (refl, (refl, (refl, (refl, (refl, (refl, (refl, (refl, (refl, (refl, (refl, (reverse_fits, (refl, (refl, (refl, (refl, (refl, (refl, (refl, (refl, (refl, (refl, (refl, tt)))))))))))))))))))))))))))))
  where
    reverse_fits : Holds (apt reverse 1 (two ∷ []))
    reverse_fits = (refl, omega arith, ((refl, (refl, (refl, record { sfits = omega arith }), (refl, (refl, record { sfits = omega arith }), refl))), tt))
