-- How an argument is loaded.
use Rattle.std.proofs.Common.{◌≡◌, ℕ, ◌+◌, ◌<◌, ◌≤◌, List, [], ◌∷◌, ◌++◌, length, get_or, take, drop, sym, refl, ap, ◌∙◌, subst, append-nil, zero-add, arith, length-append}
use Rattle.std.proofs.lemmas.List.{take_at, get_or_default}
use lib.Seq.{sets, sets-eq, length-sets}
use Rattle.lfpl.specs.Syntax.{Ty, width}
use Rattle.lfpl.specs.Typing.{type_at}
use Rattle.lfpl.specs.Values.{Val, Typed, charge, ◌of◌}
use Rattle.meaning.specs.Mean.{widths}
use Rattle.pool.specs.Pools.{Meaning}
use Rattle.store.specs.Layout.{Shows, footprint}
use Rattle.store.specs.Walking.{Placed}
use Rattle.store.proofs.Moves.{moved}
use Rattle.store.proofs.Refers.{width_is}
use Rattle.store.proofs.Uniques.{holds_charge}
use Rattle.tables.specs.Listed.{Types, no_entry}
use Rattle.tables.specs.declared.listing.Entry.{Entry}
use Rattle.acts.specs.Places.{Lying, Lies, cells_of, cells_at, places, all}
use Rattle.acts.proofs.Lying.{window_of, lies_same, lies_higher, lies_append, cells_append, widths_append, places_append, length_places}
use Rattle.machine.specs.Calling.{Put}
use Rattle.machine.specs.Enacting.{own}
use Rattle.machine.specs.Running.{Loading}
use Rattle.machine.specs.declared.Machine.{Machine}

-- what is placed after the first n of a list
placed_after : (xs out out' : List ℕ) (n r : ℕ) → n + length xs ≤ length out → out' ≡ sets out n xs → r ≡ n + length xs → length (take n out) ≡ n → take r out' ≡ take n out ++ xs
placed_after xs out out' n r l e k h =
    let a : out' ≡ (take n out ++ xs) ++ drop (n + length xs) out = e ∙ sets-eq xs out n l in
    ap (take r) a ∙ take_at (take n out ++ xs) (drop (n + length xs) out) r (omega (arith, length-append (take n out) xs))

-- a value that was put is shown there
put_shown : (m : Meaning) (A : Ty) (v : Val) (xs ws ys : List ℕ) (at : ℕ) → Shows m A v ws 0 → width A ≤ 16 → at + 16 ≤ length xs → Put xs at ws ys
    → Shows m A v ys at × (footprint m A v ys at ≡ footprint m A v ws 0)
put_shown m A v xs ws ys at s n l p = moved m m A v ws ys 0 at s (window_of ws ys 0 at (width A) (λ k h. p.stand l k (omega arith))) (λ c h. refl)

-- arguments and one more
lie_more : (m : Meaning) (ws ys : List ℕ) (xs : List Typed) (x : Typed) → Lies m ws (widths xs) all xs (places 0 xs) → ((i : ℕ) → i < widths xs → get_or ys i 0 ≡ get_or ws i 0)
    → Shows m x.type x.value ys (widths xs)
    → Lies m ys (widths (xs ++ (x ∷ []))) all (xs ++ (x ∷ [])) (places 0 (xs ++ (x ∷ [])))
    × (cells_of m ys all (xs ++ (x ∷ [])) (places 0 (xs ++ (x ∷ []))) ≡ cells_of m ws all xs (places 0 xs) ++ cells_at m ys x (widths xs))
lie_more m ws ys xs x l e s =
    let w : widths (xs ++ (x ∷ [])) ≡ widths xs + width x.type = omega (arith, widths_append xs (x ∷ [])) in
    let o = lies_same m m ws ys (widths xs) all xs (places 0 xs) e (λ c h. refl) l in
    let p : places 0 (xs ++ (x ∷ [])) ≡ places 0 xs ++ (widths xs ∷ []) = places_append 0 xs (x ∷ []) ∙ rw (zero-add (widths xs)) refl in
    let a = lies_higher m ys (widths xs) (widths (xs ++ (x ∷ []))) all xs (places 0 xs) (omega arith) o.0 in
    let b : Lying m ys (widths (xs ++ (x ∷ []))) x (widths xs) = record { shows = s; below = omega arith } in
    let c = cells_append m ys all xs (x ∷ []) (places 0 xs) (widths xs ∷ []) (length_places 0 xs) in (
      subst (λ q. Lies m ys (widths (xs ++ (x ∷ []))) all (xs ++ (x ∷ [])) q) (sym p) (lies_append m ys _ all xs (x ∷ []) (places 0 xs) (widths xs ∷ []) (length_places 0 xs) a (λ q. b, tt)),
      ap (cells_of m ys all (xs ++ (x ∷ []))) p ∙ c ∙ ap (λ q. q ++ (cells_at m ys x (widths xs) ++ [])) o.1 ∙ ap (λ q. cells_of m ws all xs (places 0 xs) ++ q) (append-nil (cells_at m ys x (widths xs))),
    )

-- an entry that is read has its type's width
pub read_width : (es : List Entry) (ts : List Ty) (t a b : ℕ) (d : Entry) → Types es ts → t < length es → a ≡ b → a + (get_or es t d).width ≡ b + width (type_at ts t)
read_width es ts t a b d T h e = omega (arith, e, width_is es ts T t h, ap (λ e. e.width) (get_or_default es t d no_entry h))

-- the machine with other words and cells
abbrev pub filled : Machine → List ℕ → List ℕ → ℕ → ℕ → Machine
filled x ws cs count loaded = record { mode = x.mode; depth = x.depth; count = count; loaded = loaded; words = ws; waiting = x.waiting; cells = cs }

pub load_more : (m : Meaning) (x : Machine) (xs : List Typed) (A : Ty) (v : Val) (ws ys cs : List ℕ) (count loaded : ℕ) → Loading m x xs → Shows m A v ws 0 → width A ≤ 16
    → widths xs + width A ≤ 96 → length (own x) + charge v ≤ 512 → Put x.words (widths xs) ws ys → Placed x.cells x.count (footprint m A v ws 0) cs count
    → loaded ≡ widths xs + width A → Loading m (filled x ys cs count loaded) (xs ++ (v of A ∷ []))
load_more m x xs A v ws ys cs count loaded l s n near few p pl k =
    let y = v of A in
    let fp = footprint m A v ws 0 in
    let room : x.count + length fp ≤ length x.cells = omega (arith, holds_charge m A v ws 0, l.count, l.cells_long) in
    let q = pl room in
    let o : take count cs ≡ own x ++ fp = placed_after fp x.cells cs x.count count room q.0 q.1 l.count in
    let t = put_shown m A v x.words ws ys (widths xs) s n (omega (arith, l.words_long)) p in
    let r = lie_more m x.words ys xs y l.lie p.above.below t.0 in
    record {
      words_long = p.above.long ∙ l.words_long;
      waiting_long = l.waiting_long;
      cells_long = ap length q.0 ∙ length-sets x.cells x.count fp ∙ l.cells_long;
      count = omega (arith, ap length o, length-append (own x) fp, l.count, q.1);
      lie = r.0;
      cells = o ∙ ap (λ z. z ++ fp) l.cells ∙ ap (λ z. cells_of m x.words all xs (places 0 xs) ++ z) (sym t.1) ∙ sym r.1;
      loaded_is = omega (arith, k, widths_append xs (y ∷ []));
    }
