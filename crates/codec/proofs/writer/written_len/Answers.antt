use Rattle.std.proofs.Common.{◌≡◌, true, length, sym, refl, ◌∙◌, arith, rules}
use Rattle.codec.specs.Laws.{all_agree, examples}
use Rattle.codec.specs.Number.{numeral, spelling, written}
use Rattle.codec.proofs.Spellings.{length_by_zeros, written_shortest}
use Rattle.codec.proofs.writer.written_len.Goals as goal

agree : all_agree examples ≡ true
unfolding numeral spelling
agree = refl

pub returns : goal.returns
returns c =
    let e : c.groups_of.result ≡ length (written c.args.n) = c.groups_of.ensures ∙ sym (length_by_zeros c.args.n (search rules)) in
    record { length = e; shortest = λ bs used r. omega (arith, e, written_shortest bs c.args.n used r); examples = agree }
