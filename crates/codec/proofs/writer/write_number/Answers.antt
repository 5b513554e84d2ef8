use Rattle.std.proofs.Common.{◌≡◌, ◌+◌, ◌-◌, length, take, drop, ◌++◌, sym, ap, ◌∙◌, arith, rules}
use Rattle.std.proofs.lemmas.List.Edits.{sets}
use Rattle.codec.specs.Number.{written}
use Rattle.codec.specs.Reading.{done, number_at}
use Rattle.codec.proofs.Spellings.{put_there, read_area}
use Rattle.codec.proofs.writer.write_number.Goals as goal

pub returns : goal.returns
returns c =
    let area = c.args.area.now in
    let start = c.args.start in
    let bs = written c.args.n in
    let place : c.in_ok-end.end ≡ start + length bs = omega (arith, c.in_ok-end.ensures.1, c.written_len.ensures.length) in
    let rest = drop (c.in_ok-end.end - start) (drop start area) in
    let put : take start area ++ (c.write_groups.new.slots ++ rest) ≡ sets area start bs =
    ap (λ xs. take start area ++ (xs ++ rest)) c.write_groups.ensures ∙ put_there area bs start (c.in_ok-end.end - start) (omega arith) (omega arith) in
    record {
      writes = (place, omega arith, put);
      reads = ap (λ a. number_at a start) put ∙ read_area area start c.args.n (search rules) (omega arith) ∙ ap (done c.args.n) (sym place);
    }
