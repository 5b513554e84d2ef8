-- The judgement, step by step.
use Rattle.std.proofs.Common.{◌≡◌, ℕ, suc, ◌+◌, true, false, not, ◌&&◌, ◌||◌, List, [], ◌∷◌, ◌++◌, refl, ap, ◌∙◌, arith}
use Rattle.codec.specs.declared.fault.Refusal.{Refusal}
use Rattle.codec.specs.declared.fault.Refusal.TheVariants.{TypeFault, Sharing}
use Rattle.lfpl.specs.Judge.{fine, faulty, ◌>>=◌, demand, shares, judge, exprs_verdict, arms_verdict}
use Rattle.lfpl.specs.Syntax.{Ty, Head, Expr, Exprs, expr, end, ◌then◌, size, sizes, Fun}
use Rattle.lfpl.specs.Typing.{rule, fits, early, alike, type_at}

-- an expression that has its parts from k on and its arms from m on
module _ (fs : List Fun) (Γ : List Ty) (n k m : ℕ) (e : Expr) (h : Head) (ps qs : Exprs) (is : e ≡ expr h ps qs) (at_parts : k ≡ n + 1) (at_arms : m ≡ k + sizes ps) where
  first : k ≡ suc n
  first = omega arith

  pub parts_fault : (w : Refusal) (i : ℕ) → exprs_verdict fs ps k Γ ≡ faulty w i → judge fs e n Γ ≡ faulty w i
  parts_fault w i p = ap (λ (x : Expr). judge fs x n Γ) is ∙ rw (← first, p) refl

  module _ (As : List Ty) (p : exprs_verdict fs ps k Γ ≡ fine As) where
    pub early_fault : early h ≡ true → fits (rule fs Γ h As) As ≡ false → judge fs e n Γ ≡ faulty TypeFault n
    early_fault a b = ap (λ (x : Expr). judge fs x n Γ) is ∙ rw (← first, p, a, b) refl

    module _ (bs : List (List Ty)) (agree : (rule fs Γ h As).arms ≡ bs) (go : (not (early h) || fits (rule fs Γ h As) As) ≡ true) where
      so_far : judge fs e n Γ ≡ (arms_verdict fs qs bs n m Γ >>= λ Bs. demand (fits (rule fs Γ h As) As && alike (type_at Bs 0) Bs) TypeFault n tt >>= λ (u : Unit {0}).
          demand (not (shares 0 Γ ps qs)) Sharing n ((rule fs Γ h As).whole (type_at Bs 0)))
      so_far = ap (λ (x : Expr). judge fs x n Γ) is ∙ rw (← first, p, go, agree, ← at_arms) refl

      pub arms_fault : (w : Refusal) (i : ℕ) → arms_verdict fs qs bs n m Γ ≡ faulty w i → judge fs e n Γ ≡ faulty w i
      arms_fault w i q = so_far ∙ rw q refl

      module _ (Bs : List Ty) (q : arms_verdict fs qs bs n m Γ ≡ fine Bs) where
        pub types_fault : (fits (rule fs Γ h As) As && alike (type_at Bs 0) Bs) ≡ false → judge fs e n Γ ≡ faulty TypeFault n
        types_fault t = so_far ∙ rw (q, t) refl

        pub sharing_fault : (fits (rule fs Γ h As) As && alike (type_at Bs 0) Bs) ≡ true → shares 0 Γ ps qs ≡ true → judge fs e n Γ ≡ faulty Sharing n
        sharing_fault t s = so_far ∙ rw (q, t, s) refl

        pub judged : (fits (rule fs Γ h As) As && alike (type_at Bs 0) Bs) ≡ true → shares 0 Γ ps qs ≡ false → judge fs e n Γ ≡ fine ((rule fs Γ h As).whole (type_at Bs 0))
        judged t s = so_far ∙ rw (q, t, s) refl

-- several parts, the first e and then, from k on, the rest
module _ (fs : List Fun) (Γ : List Ty) (n k : ℕ) (e : Expr) (rest es : Exprs) (is : es ≡ e then rest) (next : k ≡ n + size e) where
  pub first_fault : (w : Refusal) (i : ℕ) → judge fs e n Γ ≡ faulty w i → exprs_verdict fs es n Γ ≡ faulty w i
  first_fault w i p = ap (λ (x : Exprs). exprs_verdict fs x n Γ) is ∙ rw p refl

  pub rest_fault : (A : Ty) (w : Refusal) (i : ℕ) → judge fs e n Γ ≡ fine A → exprs_verdict fs rest k Γ ≡ faulty w i → exprs_verdict fs es n Γ ≡ faulty w i
  rest_fault A w i p q = ap (λ (x : Exprs). exprs_verdict fs x n Γ) is ∙ rw (p, ← next, q) refl

  pub all_judged : (A : Ty) (As : List Ty) → judge fs e n Γ ≡ fine A → exprs_verdict fs rest k Γ ≡ fine As → exprs_verdict fs es n Γ ≡ fine (A ∷ As)
  all_judged A As p q = ap (λ (x : Exprs). exprs_verdict fs x n Γ) is ∙ rw (p, ← next, q) refl

-- several arms, the first of which binds variables of the types b
module _ (fs : List Fun) (Γ : List Ty) (w n k : ℕ) (e : Expr) (rest es : Exprs) (b : List Ty) (bs l : List (List Ty)) (is : es ≡ e then rest) (binds : l ≡ b ∷ bs) (next : k ≡ n + size e) where
  pub first_arm_fault : (v : Refusal) (i : ℕ) → judge fs e n (Γ ++ b) ≡ faulty v i → arms_verdict fs es l w n Γ ≡ faulty v i
  first_arm_fault v i p = ap (λ (x : Exprs). arms_verdict fs x l w n Γ) is ∙ ap (λ (x : List (List Ty)). arms_verdict fs (e then rest) x w n Γ) binds ∙ rw p refl

  pub other_arm_fault : (A : Ty) (v : Refusal) (i : ℕ) → judge fs e n (Γ ++ b) ≡ fine A → arms_verdict fs rest bs w k Γ ≡ faulty v i → arms_verdict fs es l w n Γ ≡ faulty v i
  other_arm_fault A v i p q = ap (λ (x : Exprs). arms_verdict fs x l w n Γ) is ∙ ap (λ (x : List (List Ty)). arms_verdict fs (e then rest) x w n Γ) binds ∙ rw (p, ← next, q) refl

  pub arms_judged : (A : Ty) (As : List Ty) → judge fs e n (Γ ++ b) ≡ fine A → arms_verdict fs rest bs w k Γ ≡ fine As → arms_verdict fs es l w n Γ ≡ fine (A ∷ As)
  arms_judged A As p q = ap (λ (x : Exprs). arms_verdict fs x l w n Γ) is ∙ ap (λ (x : List (List Ty)). arms_verdict fs (e then rest) x w n Γ) binds ∙ rw (p, ← next, q) refl

pub no_arms_judged : (fs : List Fun) (Γ : List Ty) (w n : ℕ) (es : Exprs) (l : List (List Ty)) → es ≡ end → l ≡ [] → arms_verdict fs es l w n Γ ≡ fine []
no_arms_judged fs Γ w n es l p q = ap (λ (x : Exprs). arms_verdict fs x l w n Γ) p ∙ ap (λ (x : List (List Ty)). arms_verdict fs end x w n Γ) q
