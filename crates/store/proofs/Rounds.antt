-- A value that is written is read back, and what is decoded is in the set of its type.
use Rattle.std.proofs.Common.{◌≡◌, ℕ, ◌+◌, ◌-◌, ◌*◌, ◌/◌, ◌%◌, ◌^◌, ◌<◌, ◌≤◌, cond, List, [], ◌∷◌, ◌++◌, length, drop, ℤ, pos, negsuc, sym, refl, ap, ◌∙◌, subst, append_assoc, arith, length-append, w32, SFits}
use Rattle.std.proofs.lemmas.List.{drop-drop, drop_at, append-nil}
use Rattle.std.proofs.lemmas.Bool.{le-ltb}
use Rattle.codec.proofs.Spellings.{read_written}
use Rattle.codec.specs.Integer.{zigzag, unzigzag}
use Rattle.codec.specs.Number.{got, numeral, number, written}
use Rattle.codec.specs.Reading.{done, refused}
use Rattle.codec.specs.declared.fault.Refusal.TheVariants.{BytesOver}
use Rattle.lfpl.specs.Syntax.{Ty, first, second}
use Rattle.lfpl.specs.Values.{Val, num, dia, nil, cons, leaf, node, pair, left, right, charge, In, write}
use Rattle.store.specs.Decoding.{decode, whole}
use Rattle.store.specs.Spelling.{Number, Spells}
use Rattle.store.proofs.Decodes.{reads}

code_round : (z : ℤ) → z ≡ unzigzag (zigzag z)
code_round (pos n) =
    let h : 2 * n % 2 ≡ 0 = omega arith in
    let k : 2 * n / 2 ≡ n = omega arith in
    rw (h, k) refl
code_round (negsuc n) =
    let h : (2 * n + 1) % 2 ≡ 1 = omega arith in
    let k : (2 * n + 1) / 2 ≡ n = omega arith in
    rw (h, k) refl

code_small : (z : ℤ) → SFits w32 z → zigzag z < 2 ^ 32
code_small (pos n) f = let h = f.sfits in omega (arith, h)
code_small (negsuc n) f = let h = f.sfits in omega (arith, h)

zero_number : (xs : List ℕ) → number (0 ∷ xs) ≡ got 0 1
unfolding numeral
zero_number xs = refl

one_number : (xs : List ℕ) → number (1 ∷ xs) ≡ got 1 1
unfolding numeral
one_number xs = refl

after : (bs xs ys : List ℕ) (p q : ℕ) → drop p bs ≡ xs ++ ys → q ≡ p + length xs → drop q bs ≡ ys
after bs xs ys p q e h = ap (λ i. drop i bs) h ∙ sym (drop-drop (length xs) p bs) ∙ ap (drop (length xs)) e ∙ drop_at xs ys (length xs) refl

-- a mark of 0 or 1 before other bytes
zero_mark : (bs ys : List ℕ) (p : ℕ) → drop p bs ≡ 0 ∷ ys → Number bs p 0 (p + 1) × (drop (p + 1) bs ≡ ys)
zero_mark bs ys p e = ((1, ap number e ∙ zero_number ys, refl), after bs (0 ∷ []) ys p (p + 1) e refl)

one_mark : (bs ys : List ℕ) (p : ℕ) → drop p bs ≡ 1 ∷ ys → Number bs p 1 (p + 1) × (drop (p + 1) bs ≡ ys)
one_mark bs ys p e = ((1, ap number e ∙ one_number ys, refl), after bs (1 ∷ []) ys p (p + 1) e refl)

-- the bytes of a value, wherever they stand, spell it
spelled : (bs : List ℕ) (A : Ty) (v : Val) (p q : ℕ) (rest : List ℕ) → In A v → drop p bs ≡ write v ++ rest → q ≡ p + length (write v) → Spells bs A v p q
unfolding Spells
spelled bs A (num z) p q rest h e k =
    (h.0, (zigzag z, (length (written (zigzag z)), ap number e ∙ read_written (zigzag z) rest (code_small z h.1), k), code_round z))
spelled bs A dia p q rest h e k = (h, omega (arith, k))
spelled bs A nil p q rest h e k = (h, subst (Number bs p 0) (sym k) (zero_mark bs rest p e).0)
spelled bs A (cons a b) p q rest h e k =
    let n = length-append (write a) (write b) in
    let m = one_mark bs ((write a ++ write b) ++ rest) p e in
    let ea = m.1 ∙ append_assoc (write a) (write b) rest in
    let j = p + 1 + length (write a) in
    let eb = after bs (write a) (write b ++ rest) (p + 1) j ea refl in
    (h.0, (p + 1, j, m.0, spelled bs (first A) a (p + 1) j (write b ++ rest) h.1 ea refl, spelled bs A b j q rest h.2 eb (omega (arith, k, n))))
spelled bs A (leaf a) p q rest h e k =
    let m = zero_mark bs (write a ++ rest) p e in
    (h.0, (p + 1, m.0, spelled bs (first A) a (p + 1) q rest h.1 m.1 (omega (arith, k))))
spelled bs A (node a l r) p q rest h e k =
    let n = length-append (write a) (write l ++ write r) in
    let n₂ = length-append (write l) (write r) in
    let m = one_mark bs ((write a ++ (write l ++ write r)) ++ rest) p e in
    let ea = m.1 ∙ append_assoc (write a) (write l ++ write r) rest in
    let j = p + 1 + length (write a) in
    let el = after bs (write a) ((write l ++ write r) ++ rest) (p + 1) j ea refl ∙ append_assoc (write l) (write r) rest in
    let i = j + length (write l) in
    let er = after bs (write l) (write r ++ rest) j i el refl in
    (h.0, (p + 1, j, i, m.0, spelled bs (first A) a (p + 1) j ((write l ++ write r) ++ rest) h.1 ea refl, spelled bs A l j i (write r ++ rest) h.2 el refl, spelled bs A r i q rest h.3 er (omega (arith, k, n, n₂))))
spelled bs A (pair a b) p q rest h e k =
    let n = length-append (write a) (write b) in
    let ea = e ∙ append_assoc (write a) (write b) rest in
    let j = p + length (write a) in
    let eb = after bs (write a) (write b ++ rest) p j ea refl in
    (h.0, (j, spelled bs (first A) a p j (write b ++ rest) h.1 ea refl, spelled bs (second A) b j q rest h.2 eb (omega (arith, k, n))))
spelled bs A (left a) p q rest h e k =
    let m = zero_mark bs (write a ++ rest) p e in
    (h.0, (p + 1, m.0, spelled bs (first A) a (p + 1) q rest h.1 m.1 (omega (arith, k))))
spelled bs A (right a) p q rest h e k =
    let m = one_mark bs (write a ++ rest) p e in
    (h.0, (p + 1, m.0, spelled bs (second A) a (p + 1) q rest h.1 m.1 (omega (arith, k))))

-- a value of the set of A, written, is read back whole, where its cells are spare
pub reads_back : (A : Ty) (v : Val) (s : ℕ) → In A v → charge v ≤ s → decode (write v) A s ≡ done (v, s - charge v) (length (write v))
reads_back A v s h k =
    let bs = write v in
    let n = length bs in
    let z : n ≡ 0 + n = omega arith in
    let w = spelled bs A v 0 n [] h (sym (append-nil bs)) z in
    ap (whole bs) (reads bs A v 0 n s (s - charge v) w (omega (arith, k)))
    ∙ ap (λ b. cond b (refused BytesOver n) (done (v, s - charge v) n)) (le-ltb n n (omega arith))
