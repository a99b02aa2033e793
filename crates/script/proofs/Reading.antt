-- What digits say.
use Rattle.std.proofs.Common.{◌≡◌, ℕ, ◌^◌, ◌<◌, ◌≤◌, true, ◌&&◌, ltb, leb, List, [], ◌∷◌, length, get_or, Some, None, Ok, Err, Result, Bool, false, cond, sym, refl, ap, ◌∙◌, subst, inl, inr, arith, ltb-true, lt-ltb, le-leb, leb-true, ◌+◌, Option}
use Rattle.std.proofs.lemmas.Bool.{and_parts, and_from, cases_Bool, cond-true, cond-false, lt-leb}
use Rattle.std.proofs.lemmas.Str.Parse.{without_leading_plus_none}
use Rattle.std.specs.Str.Parse.{digits_value, AllDigits, IsNumeral}
use Rattle.std.specs.Char.{digit_value}
use Rattle.std.specs.Str.Parse.{ParsesUnsigned}
use Rattle.std.specs.Bool.{then_some}
use Rattle.std.specs.Result.{result_ok, MatchResult, IsErrAnd, OkIff}
use Rattle.script.specs.Figures.{figures, number}
use Rattle.script.specs.Takes.{after}

figures_from : (radix : ℕ) (w : List ℕ) → AllDigits radix w → figures radix w ≡ true
unfolding figures
figures_from radix [] h = refl
figures_from radix (c ∷ cs) h = and_from _ _ (lt-ltb _ _ h.0) (figures_from radix cs h.1)

figures_to : (radix : ℕ) (w : List ℕ) → figures radix w ≡ true → AllDigits radix w
unfolding figures
figures_to radix [] h = tt
figures_to radix (c ∷ cs) h = let p = and_parts _ _ h in (ltb-true _ _ p.0, figures_to radix cs p.1)

pub number_is : (radix most : ℕ) (w : List ℕ) → IsNumeral radix w → digits_value radix w ≤ most → number radix most w ≡ Some (digits_value radix w)
unfolding number
number_is radix most w h small =
    cond-true _ _ _ (and_from _ _ (lt-ltb _ _ h.0) (and_from _ _ (figures_from radix w h.1) (le-leb _ _ small)))

pub number_not : (radix most : ℕ) (w : List ℕ) → (IsNumeral radix w → digits_value radix w ≤ most → ⊥) → number radix most w ≡ None
unfolding number
number_not radix most w h =
    elim (cases_Bool (ltb 0 (length w) && (figures radix w && leb (digits_value radix w) most))) [
      | inl t ↦ (let p = and_parts _ _ t in let q = and_parts _ _ p.1 in absurd (h (ltb-true _ _ p.0, figures_to radix w q.0) (leb-true _ _ q.1)))
      | inr f ↦ cond-false _ _ _ f
    ]

pub number_plus : (radix most : ℕ) (w : List ℕ) → radix ≤ 36 → get_or w 0 0 ≡ 43 → number radix most w ≡ None
number_plus radix most [] small e = number_not radix most [] (λ h l. omega (arith, h.0))
number_plus radix most (c ∷ cs) small e = number_not radix most (c ∷ cs) (λ h l. let d : 36 < radix = subst (λ (x : ℕ). digit_value x < radix) e h.1.0 in omega arith)

-- what a reading of 32 bits says of a text that is a number: it and its value, after a plus
abbrev Good : ℕ → List ℕ → Type 0
Good radix w = IsNumeral radix w × (digits_value radix w < 2 ^ 32)

abbrev Unsigned : List ℕ → Type 0
Unsigned w = get_or w 0 0 ≡ 43 → ⊥

pub reads_plain : {E : Type 0} (radix : ℕ) (w : List ℕ) (r : Result ℕ E) → Unsigned w → ParsesUnsigned 32 radix w r → result_ok r ≡ number radix 0xFFFFFFFF w
reads_plain radix w (Ok n) plain h =
    let p : Good radix w × (n ≡ digits_value radix w) = subst (λ (v : List ℕ). Good radix v × (n ≡ digits_value radix v)) (without_leading_plus_none w plain) h in
    ap (λ (x : ℕ). Some x) p.1 ∙ sym (number_is radix 0xFFFFFFFF w p.0.0 (omega arith))
reads_plain radix w (Err e) plain h =
    let p : Good radix w → ⊥ = subst (λ (v : List ℕ). Good radix v → ⊥) (without_leading_plus_none w plain) h in
    sym (number_not radix 0xFFFFFFFF w (λ q l. p (q, omega arith)))

-- an error in place of another
pub kept : {X E F : Type 0} (r : Result X E) (s : Result X F) (P : E → F → Type 0) → MatchResult r (λ x. s ≡ Ok x) (λ e. IsErrAnd s (P e)) → result_ok s ≡ result_ok r
kept (Ok x) s P h = ap result_ok h
kept (Err e) (Ok x) P h = absurd h
kept (Err e) (Err f) P h = refl

-- a number in a narrower range
narrow : (most n : ℕ) (a b c d : Bool) → leb n most ≡ c → (c ≡ true → d ≡ true) → cond (a && (b && c)) (Some n) None ≡ after (cond (a && (b && d)) (Some n) None) (λ v. cond (leb v most) (Some v) None)
narrow most n false b c d e h = refl
narrow most n true false c d e h = refl
narrow most n true true true true e h = sym (ap (λ (t : Bool). cond t (Some n) None) e)
narrow most n true true false true e h = sym (ap (λ (t : Bool). cond t (Some n) None) e)
narrow most n true true false false e h = refl
narrow most n true true true false e h = let z = h refl in cc

pub number_narrow : (radix most : ℕ) (w : List ℕ) → most ≤ 0xFFFFFFFF → number radix most w ≡ after (number radix 0xFFFFFFFF w) (λ v. cond (leb v most) (Some v) None)
unfolding number
number_narrow radix most w small = narrow most (digits_value radix w) _ _ _ _ refl (λ e. le-leb _ _ (omega (arith, leb-true _ _ e)))

read_on : (radix most n : ℕ) (w : List ℕ) → Some n ≡ number radix 0xFFFFFFFF w → most ≤ 0xFFFFFFFF → cond (leb n most) (Some n) None ≡ number radix most w
read_on radix most n w e small = sym (number_narrow radix most w small ∙ ap (λ (o : Option ℕ). after o (λ v. cond (leb v most) (Some v) None)) (sym e))

-- a number, where it passed the test of its range
pub ranged : (radix most n : ℕ) (w : List ℕ) (b : Bool) → Some n ≡ number radix 0xFFFFFFFF w → most ≤ 0xFFFFFFFF → b ≡ leb n most → then_some b n ≡ number radix most w
ranged radix most n w true e small t = ap (λ (b : Bool). cond b (Some n) None) t ∙ read_on radix most n w e small
ranged radix most n w false e small t = ap (λ (b : Bool). cond b (Some n) None) t ∙ read_on radix most n w e small

in_range : (radix most n : ℕ) (w : List ℕ) → Some n ≡ number radix 0xFFFFFFFF w → n ≤ most → most ≤ 0xFFFFFFFF → Some n ≡ number radix most w
in_range radix most n w e fits small = sym (cond-true _ _ _ (le-leb _ _ fits)) ∙ read_on radix most n w e small

out_of_range : (radix most n : ℕ) (w : List ℕ) → Some n ≡ number radix 0xFFFFFFFF w → most < n → most ≤ 0xFFFFFFFF → None ≡ number radix most w
out_of_range radix most n w e large small = sym (cond-false _ _ _ (lt-leb _ _ large)) ∙ read_on radix most n w e small

pub no_number : (radix most : ℕ) (w : List ℕ) → None ≡ number radix 0xFFFFFFFF w → most ≤ 0xFFFFFFFF → None ≡ number radix most w
no_number radix most w e small = sym (number_narrow radix most w small ∙ ap (λ (o : Option ℕ). after o (λ v. cond (leb v most) (Some v) None)) (sym e))

-- a number made narrower
pub narrowed : {E F : Type 0} (radix most n : ℕ) (w : List ℕ) (r : Result ℕ E) (s : Result ℕ F) (P : E → F → Type 0) → Some n ≡ number radix 0xFFFFFFFF w → OkIff r (n < most + 1) n
    → MatchResult r (λ x. s ≡ Ok x) (λ e. IsErrAnd s (P e)) → most ≤ 0xFFFFFFFF → result_ok s ≡ number radix most w
narrowed radix most n w (Ok x) s P e h m small = kept (Ok x) s P m ∙ ap (λ (x : ℕ). Some x) h.1 ∙ in_range radix most n w e (omega (arith, h.0)) small
narrowed radix most n w (Err x) s P e h m small = kept (Err x) s P m ∙ out_of_range radix most n w e (ne-lt most n h) small
  where
    ne-lt : (a b : ℕ) → (b < a + 1 → ⊥) → a < b
    ne-lt a b f = omega arith
