-- Lists of calls.
use Rattle.std.proofs.Common.{◌≡◌, ℕ, ◌+◌, ◌<◌, ◌≤◌, min, ◌⊎◌, List, [], ◌∷◌, ◌++◌, length, get_or, take, drop, Some, None, Ok, Err, Option, Result, sym, refl, ap, ◌∙◌, subst, subst₂, inl, inr, arith, length-append, length-take, take_all, take-take, MatchResult}
use Rattle.std.proofs.lemmas.List.{take_more}
use Rattle.std.proofs.lemmas.Bool.{cases_lt}
use Rattle.codec.specs.declared.fault.Fault.{Fault}
use Rattle.pool.specs.Pools.{Meaning}
use Rattle.store.proofs.Moves.{used_le}
use Rattle.programmer.specs.Ledger.{Run, Ledger, opened, types_of, cost_of_run, Call, show, Answer, shown, turn}
use Rattle.programmer.specs.Agreement.{View, view, Runs, cells_on_all, cells_of_run, Agrees, Follows, Keeps, Still, Plainly, Shown}
use Rattle.programmer.specs.Course.{Upheld, asked, tells, shown_by, answer_of_result, ledger_after, Acts, History, begun, called, After}
use Rattle.programmer.specs.declared.Programmer.{Programmer}
use Rattle.programmer.specs.declared.play.Answer as listed
use Rattle.programmer.specs.declared.play.Answer.TheVariants as answer
use Rattle.programmer.specs.declared.play.Call as code
use Rattle.programmer.specs.declared.play.Making.{Making}
use Rattle.programmer.specs.declared.run.Run as running
use Rattle.programmer.proofs.Rows.{all_charge}

run_charge : (r : Option Run) (s : Option running.Run) → Runs r s → length (cells_of_run s) ≡ cost_of_run r
run_charge None None h = refl
run_charge None (Some s) h = absurd h
run_charge (Some r) None h = absurd h
run_charge (Some r) (Some s) h = h

-- what agreement upholds
pub upheld : (made m : Meaning) (l : Ledger) (p : View) → Agrees made l m p → Upheld made l m p
upheld made m l p a =
    record {
      conserved = omega (arith, a.count, a.within, a.least);
      charged = omega (arith, length-append (cells_on_all m (types_of l) l.shelves p.shelves) (cells_of_run p.run), all_charge m (types_of l) l.shelves p.shelves a.shelves, run_charge l.run p.run a.run);
      once = λ c. omega (arith, a.cells c, used_le m c);
      since = λ c h. omega (arith, a.cells c);
      before = λ c h. (omega (arith, a.cells c, used_le m c), a.earlier c h);
      shelves = a.shelves;
      sixteen = a.sixteen;
      box = a.box;
      table = a.table;
      run = a.run;
    }

-- what comes first is the front
first_of : (xs ys zs : List ℕ) → take (length xs) ((xs ++ ys) ++ zs) ≡ xs
first_of [] ys zs = refl
first_of (x ∷ xs) ys zs = ap (λ (r : List ℕ). x ∷ r) (first_of xs ys zs)

-- the bytes that are shown, n of them, are told by the front of the area
pub tells_front : (a : Result listed.Answer Fault) (area : List ℕ) (n k : ℕ) → MatchResult a (λ x. n ≡ shown_by x) (λ _. n ≡ 0) → k ≡ min n (length area) → tells a area ≡ tells a (take k area)
tells_front (Ok answer.Granted) area n k s e = refl
tells_front (Ok (answer.Spare m)) area n k s e = refl
tells_front (Err f) area n k s e = refl
tells_front (Ok (answer.Shown m)) area n k s e = ap shown (go (cases_lt m (length area)))
  where
    go : (m < length area) ⊎ (length area ≤ m) → take m area ≡ take m (take k area)
    go (inl h) = sym (ap (λ (x : ℕ). take m (take x area)) (omega (arith, s, e)) ∙ take-take m m area (omega arith))
    go (inr h) = ap (λ (xs : List ℕ). take m xs) (sym (ap (λ (x : ℕ). take x area) (omega (arith, s, e)) ∙ take_all (length area) area (omega arith)))

ledger_more : (room : ℕ) (cs : List code.Call) (c : code.Call) (l : Ledger) → ledger_after room (cs ++ (c ∷ [])) l ≡ (turn (asked room c) (ledger_after room cs l)).1
ledger_more room [] c l = refl
ledger_more room (x ∷ cs) c l = ledger_more room cs c (turn (asked room x) l).1

module _ {P : Type 0} (means : P → Meaning) where
  -- the history up to a programmer, which agrees with the ledger of the calls so far
  pub record SoFar (made : Meaning) (start : Ledger) (room : ℕ) (cs : List code.Call) (p : Programmer P) : Type 0 where
    pub history : History means made start room cs p
    pub agrees : Agrees made (ledger_after room cs start) (means p.pool) (view p)

  pub at_first : (made : Meaning) (start : Ledger) (room : ℕ) (p : Programmer P) → Agrees made start (means p.pool) (view p) → SoFar made start room [] p
  at_first made start room p a = record { history = begun p a (upheld made (means p.pool) start (view p) a); agrees = a }

  pub one_more : (made : Meaning) (start : Ledger) (room : ℕ) (calls : List code.Call) (i : ℕ) (z : code.Call) (p : Programmer P) (a : Answer) (q : Programmer P) → i < length calls
      → SoFar made start room (take i calls) p → Acts means (asked room (get_or calls i z)) a p q → SoFar made start room (take (i + 1) calls) q
  one_more made start room calls i z p a q h d k =
      let c = get_or calls i z in
      let cs = take i calls in
      let f = k.keeps made (ledger_after room cs start) d.agrees in
      let next : Agrees made (ledger_after room (cs ++ (c ∷ [])) start) (means q.pool) (view q)
      = subst (λ (l : Ledger). Agrees made l (means q.pool) (view q)) (sym (ledger_more room cs c start)) f.agrees in
      let step : SoFar made start room (cs ++ (c ∷ [])) q
      = record { history = called cs p c a q d.history k f (upheld made (means q.pool) (ledger_after room (cs ++ (c ∷ [])) start) (view q) next); agrees = next } in
      subst (λ (xs : List code.Call). SoFar made start room xs q) (sym (take_more calls i z h)) step

  -- what is heard before the first call and after each
  pub hears_first : (made : Meaning) (m : Making) (calls : List code.Call) (bytes : List ℕ) (p : Programmer P) → made.free ≡ m.cells → calls ≡ []
      → Agrees made (opened m.cells m.box_number) (means p.pool) (view p) → After means m calls None bytes p
  hears_first made m calls bytes p e n a =
      record {
        made = made;
        counted = e;
        upheld = subst (λ (xs : List code.Call). Upheld made (ledger_after m.room xs (opened m.cells m.box_number)) (means p.pool) (view p)) (sym n)
            (upheld made (means p.pool) (opened m.cells m.box_number) (view p) a);
        heard = n;
      }

  pub hears : (made : Meaning) (m : Making) (calls : List code.Call) (i : ℕ) (z : code.Call) (p : Programmer P) (a : Result listed.Answer Fault) (bytes : List ℕ) (q : Programmer P)
      → made.free ≡ m.cells → i < length calls → SoFar made (opened m.cells m.box_number) m.room (take i calls) p → Acts means (asked m.room (get_or calls i z)) (tells a bytes) p q
      → After means m (take (i + 1) calls) (Some a) bytes q
  hears made m calls i z p a bytes q e h d k =
      let start = opened m.cells m.box_number in
      record {
        made = made;
        counted = e;
        upheld = upheld made (means q.pool) _ (view q) (one_more made start m.room calls i z p (tells a bytes) q h d k).agrees;
        heard = (take i calls, get_or calls i z, take_more calls i z h, sym (k.keeps made (ledger_after m.room (take i calls) start) d.agrees).told);
      }

  -- one call of a list, by its own contract
  pub acts_plainly : (c : Call) (r : Result (Unit {0}) Fault) (a : Result listed.Answer Fault) (area : List ℕ) (p q : Programmer P) → a ≡ answer_of_result r
      → Keeps means c (Plainly r) p q → Still means r p q → Acts means c (tells a area) p q
  acts_plainly c r a area p q e k s = subst (λ (x : Result listed.Answer Fault). Acts means c (tells x area) p q) (sym e) (go r k s)
    where
      go : (r : Result (Unit {0}) Fault) → Keeps means c (Plainly r) p q → Still means r p q → Acts means c (tells (answer_of_result r) area) p q
      go (Ok u) k s = record { keeps = λ made l h. let f = k made l h in record { told = f.told; agrees = f.agrees; pooled = f.pooled }; quiet = tt }
      go (Err f) k s = record { keeps = λ made l h. let f = k made l h in record { told = f.told; agrees = f.agrees; pooled = f.pooled }; quiet = s }

  -- the same of a call of the list by another name
  pub acts_called : (room : ℕ) (c d : code.Call) (r : Result (Unit {0}) Fault) (a : Result listed.Answer Fault) (area : List ℕ) (p q : Programmer P) → c ≡ d → a ≡ answer_of_result r
      → Keeps means (asked room d) (Plainly r) p q → Still means r p q → Acts means (asked room c) (tells a area) p q
  acts_called room c d r a area p q n e k s = subst (λ (x : code.Call). Acts means (asked room x) (tells a area) p q) (sym n) (acts_plainly (asked room d) r a area p q e k s)

  -- a value that is shown in the front of an area
  pub acts_shown : (i n r k : ℕ) (area front : List ℕ) (p : Programmer P) → k ≡ min r (length area)
      → Keeps means (show i (length (take k area))) (Shown (Ok n) (take k area) front) p p → Acts means (show i (min r (length area))) (shown (take n (front ++ drop k area))) p p
  acts_shown i n r k area front p e h =
      let long : length (take k area) ≡ min r (length area) = length-take k area ∙ omega (arith, e) in
      record {
        keeps = λ made l a.
            let f = subst (λ (m : ℕ). Follows (show i m) (Shown (Ok n) (take k area) front) made l (means p.pool) (view p) (means p.pool) (view p)) long (h made l a) in
            let s = f.told in
            let same : take n (front ++ drop k area) ≡ s.0 = ap (λ (m : ℕ). take m (front ++ drop k area)) s.2 ∙ ap (λ (xs : List ℕ). take (length s.0) (xs ++ drop k area)) s.3 ∙ first_of s.0 _ _ in
            record { told = s.1 ∙ ap shown (sym same); agrees = f.agrees; pooled = f.pooled };
        quiet = (refl, refl);
      }

  -- the same call, room and answer by other names
  pub acts_as : (room room' : ℕ) (c d : code.Call) (a b : Answer) (p q : Programmer P) → room ≡ room' → c ≡ d → a ≡ b → Acts means (asked room d) a p q → Acts means (asked room' c) b p q
  acts_as room room' c d a b p q e f h k =
      subst (λ (x : Answer). Acts means (asked room' c) x p q) h (subst₂ (λ (n : ℕ) (x : code.Call). Acts means (asked n x) a p q) e (sym f) k)
