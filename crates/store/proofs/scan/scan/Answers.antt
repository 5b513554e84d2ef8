use Rattle.std.proofs.Common.{◌≡◌, ℕ, Bool, true, cond, ltb, List, [], ◌∷◌, length, sym, refl, ap, ◌∙◌, arith, rules}
use Rattle.std.proofs.lemmas.Result.{err_from_is_err_and}
use Rattle.std.proofs.lemmas.Bool.{lt-ltb, ltb-false, ltb-true}
use Rattle.codec.specs.Number.{numeral, spelling}
use Rattle.codec.specs.Reading.{mark_at, number_at, within_at}
use Rattle.codec.specs.Stack.{held, room}
use Rattle.codec.specs.declared.fault.Refusal.TheVariants.{BytesOver}
use Rattle.lfpl.specs.Typing.{type_at}
use Rattle.store.specs.Decoding.{decode, list_at, tree_at, value_at}
use Rattle.store.specs.Laws.{all_agree, examples}
use Rattle.store.specs.Scanning.{checked}
use Rattle.store.proofs.Decodes.{is_decoded}
use Rattle.store.proofs.Fronts.{sofar_none, sofar_more, sofar_refused, sofar_over, sofar_end, whole_refused}
use Rattle.store.proofs.scan.scan.Goals as goal

agree : all_agree examples ≡ true
unfolding numeral spelling number_at within_at mark_at list_at tree_at value_at
agree = refl

-- a pile with room takes one entry
pushed : (l l' : List ℕ) (x n : ℕ) (r : Bool) → r ≡ ltb (length l) n → l' ≡ cond r (x ∷ l) l → l ≡ [] → n ≡ 7696 → l' ≡ x ∷ []
pushed l l' x n r f e z k =
    e ∙ ap (λ b. cond b (x ∷ l) l) (f ∙ lt-ltb (length l) n (omega (arith, ap length z))) ∙ ap (λ l. x ∷ l) z

pub loop-next-init : goal.loop-next-init
loop-next-init c =
    let n : room c.new-pile.result ≡ 7696 = search rules in
    let e = pushed (held c.new-pile.result) (held c.push.new.self) c.args.t (room c.new-pile.result) c.push.result c.push.ensures.fits c.push.ensures.held c.new-pile.ensures.held n in (
      sofar_none c.args.entries.now c.args.bytes.now c.args.t c.min-most.result (held c.push.new.self) c.new.result c.requires.listed c.requires.known
          (omega (arith, c.min-most.ensures)) e c.new.ensures.bytes c.new.ensures.place c.new.ensures.part,
      c.push.ensures.room ∙ n,
    )

pub loop-next-smaller : goal.loop-next-smaller
loop-next-smaller c =
    (sofar_more c.args.entries.now c.args.bytes.now c.args.t c.min-most.result (held c.loop-next.pile) c.loop-next.reader.left c.loop-next.reader.cursor c.requires.listed c.loop-next.invariant.0
    c.in-Some.next (held c.pop.new.self) c.in-Some.ensures.held c.entry_at-entry.result c.entry_at-entry.ensures
    c.in_ok-more.more c.front.new.self.left c.front.new.self.cursor (held c.stack.new.pile) c.in_ok-more.ensures
    (λ l. c.stack.ensures.held (omega (arith, l, c.in-Some.ensures.room, c.loop-next.invariant.1)))).1

pub loop-next-preserved : goal.loop-next-preserved
loop-next-preserved c = (
  (sofar_more c.args.entries.now c.args.bytes.now c.args.t c.min-most.result (held c.loop-next.pile) c.loop-next.reader.left c.loop-next.reader.cursor c.requires.listed c.loop-next.invariant.0
      c.in-Some.next (held c.pop.new.self) c.in-Some.ensures.held c.entry_at-entry.result c.entry_at-entry.ensures
      c.in_ok-more.more c.front.new.self.left c.front.new.self.cursor (held c.stack.new.pile) c.in_ok-more.ensures
      (λ l. c.stack.ensures.held (omega (arith, l, c.in-Some.ensures.room, c.loop-next.invariant.1)))).0,
  c.stack.ensures.room ∙ c.in-Some.ensures.room ∙ c.loop-next.invariant.1,
)

pub returns-in_err-more : goal.returns-in_err-more
returns-in_err-more c = record {
  checked = λ ts T.
      let p = err_from_is_err_and c.from_residual.result c.from_residual.ensures.1 in
      let f = c.in_err-more.field-0.0 in
      let h = sofar_refused c.args.entries.now c.args.bytes.now c.args.t c.min-most.result (held c.loop-next.pile) c.loop-next.reader.left c.loop-next.reader.cursor c.requires.listed c.loop-next.invariant.0
      c.in-Some.next (held c.pop.new.self) c.in-Some.ensures.held c.entry_at-entry.result c.entry_at-entry.ensures
      f c.front.new.self.left c.front.new.self.cursor c.in_err-more.ensures ts T in
      let e = whole_refused c.args.bytes.now (type_at ts c.args.t) c.min-most.result f h.0 h.1 in
      rw (p.1, p.2) (e ∙ ap (λ s. checked s (decode c.args.bytes.now (type_at ts c.args.t) s)) c.min-most.ensures);
  decoded = λ A s. is_decoded c.args.bytes.now A s;
  examples = agree;
}

pub returns-then-over : goal.returns-then-over
returns-then-over c = record {
  checked = λ ts T.
      let e = sofar_over c.args.entries.now c.args.bytes.now c.args.t c.min-most.result (held c.loop-next.pile) c.loop-next.reader.left c.loop-next.reader.cursor c.loop-next.invariant.0
      c.in_default.ensures.held.0 ts T c.fault.result
      (c.fault.ensures ∙ ap (λ q. record { refusal = BytesOver; place = q; part = c.loop-next.reader.cursor.part }) c.place-place.ensures)
      (omega (arith, c.place-place.ensures, ltb-true c.place-place.result (length c.args.bytes.now) (sym c.over.ensures ∙ c.if-over.true))) in
      e ∙ ap (λ s. checked s (decode c.args.bytes.now (type_at ts c.args.t) s)) c.min-most.ensures;
  decoded = λ A s. is_decoded c.args.bytes.now A s;
  examples = agree;
}

pub returns : goal.returns
returns c = record {
  checked = λ ts T.
      let e = sofar_end c.args.entries.now c.args.bytes.now c.args.t c.min-most.result (held c.loop-next.pile) c.loop-next.reader.left c.loop-next.reader.cursor c.loop-next.invariant.0
      c.in_default.ensures.held.0 ts T (omega (arith, c.place-place.ensures, ltb-false c.place-place.result (length c.args.bytes.now) (sym c.over.ensures ∙ c.if-over.false))) in
      e ∙ ap (λ s. checked s (decode c.args.bytes.now (type_at ts c.args.t) s)) c.min-most.ensures;
  decoded = λ A s. is_decoded c.args.bytes.now A s;
  examples = agree;
}
