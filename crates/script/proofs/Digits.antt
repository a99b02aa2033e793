-- What std writes of a number in hexadecimal with a width.
use Rattle.std.proofs.Common.{◌≡◌, ℕ, zero, suc, ◌+◌, ◌-◌, ◌/◌, ◌%◌, ◌*◌, ◌^◌, ◌<◌, ◌≤◌, true, false, ltb, eqb, List, [], ◌∷◌, ◌++◌, length, replicate, Some, Option, Result, refl, sym, ap, ◌∙◌, subst, inl, inr, arith, pow-suc, le-ltb, lt-ltb, append-nil, append_assoc, ne_eqb, eq-eqb}
use borrow.Author.Tests.{eqb-true, eqb-false}
use Rattle.std.specs.Option.{option_map}
use Rattle.std.specs.Fmt.{digit_glyph, digits_onto, digits, padded_integral, char_count, format_spec, DisplaysOnOk, WritesOnOk}
use Rattle.std.specs.declared.fmt.Error.{Error}
use Rattle.std.specs.declared.fmt.Formatter.{Formatter}
use Rattle.std.proofs.lemmas.Bool.{cond-true, cond-false, cases_Bool}
use Rattle.std.proofs.lemmas.List.{replicate_more}
use Rattle.script.specs.Figures.{hex, hex_address}

zeros : (k : ℕ) → hex k 0 ≡ replicate k 48
unfolding hex
zeros zero = refl
zeros (suc k) = ap (λ (l : List ℕ). l ++ (48 ∷ [])) (zeros k) ∙ replicate_more k 48 ∙ ap (λ (j : ℕ). replicate j 48) {x = k + 1} {y = suc k} (omega arith)

module _ (m n : ℕ) (acc : List ℕ) where
  onto_last : n / 16 ≡ 0 → digits_onto (suc m) 16 true n acc ≡ digit_glyph true (n % 16) ∷ acc
  onto_last e = cond-true (eqb (n / 16) 0) (digit_glyph true (n % 16) ∷ acc) (digits_onto m 16 true (n / 16) (digit_glyph true (n % 16) ∷ acc)) (eq-eqb (n / 16) 0 e)

  onto_more : (n / 16 ≡ 0 → ⊥) → digits_onto (suc m) 16 true n acc ≡ digits_onto m 16 true (n / 16) (digit_glyph true (n % 16) ∷ acc)
  onto_more e = cond-false (eqb (n / 16) 0) (digit_glyph true (n % 16) ∷ acc) (digits_onto m 16 true (n / 16) (digit_glyph true (n % 16) ∷ acc)) (ne_eqb (n / 16) 0 e)

-- the digits ds, which end in acc, with zeros in front
abbrev filled_up : ℕ → List ℕ → List ℕ → List ℕ
filled_up k acc ds = replicate (k + length acc - length ds) 48 ++ ds

last : (k m n : ℕ) (acc : List ℕ) → n / 16 ≡ 0 → hex (suc k) n ++ acc ≡ filled_up (suc k) acc (digits_onto (suc m) 16 true n acc)
unfolding hex
last k m n acc e =
    let front : hex k (n / 16) ≡ replicate (suc k + length acc - suc (length acc)) 48 = ap (hex k) e ∙ zeros k ∙ ap (λ (j : ℕ). replicate j 48) (omega arith) in
    append_assoc (hex k (n / 16)) (digit_glyph true (n % 16) ∷ []) acc ∙ (λ i. front i ++ (digit_glyph true (n % 16) ∷ acc))
    ∙ sym (ap (filled_up (suc k) acc) (onto_last m n acc e))

hex_onto : (k m n : ℕ) (acc : List ℕ) → k ≤ m → n < 16 ^ (suc k) → hex (suc k) n ++ acc ≡ filled_up (suc k) acc (digits_onto (suc m) 16 true n acc)
unfolding hex
hex_onto zero m n acc enough small = last zero m n acc (let h : n < 16 = small in omega arith)
hex_onto (suc k) zero n acc enough small = absurd (omega arith)
hex_onto (suc k) (suc m) n acc enough small = elim (cases_Bool (eqb (n / 16) 0)) [
  | inl t ↦ last (suc k) (suc m) n acc (eqb-true (n / 16) 0 t)
  | inr f ↦ (
      let h : n < 16 ^ suc k * 16 = subst (λ (p : ℕ). n < p) (pow-suc 16 (suc k)) small in
      let more = onto_more (suc m) n acc (eqb-false (n / 16) 0 f) in
      append_assoc (hex (suc k) (n / 16)) (digit_glyph true (n % 16) ∷ []) acc
      ∙ hex_onto k m (n / 16) (digit_glyph true (n % 16) ∷ acc) (omega arith) (omega arith)
      ∙ ap (λ (j : ℕ). replicate (j - length (digits_onto (suc m) 16 true (n / 16) (digit_glyph true (n % 16) ∷ acc))) 48 ++ digits_onto (suc m) 16 true (n / 16) (digit_glyph true (n % 16) ∷ acc)) {x = suc k + suc (length acc)} {y = suc (suc k) + length acc} (omega arith)
      ∙ sym (ap (filled_up (suc (suc k)) acc) more))
]

spelled : (n : ℕ) → digits 16 true n ≡ digits_onto 64 16 true n []
unfolding digits
spelled n = refl

padded_hex : (k m n : ℕ) (ds : List ℕ) → ds ≡ digits_onto (suc m) 16 true n [] → 0 < k → k ≤ suc m → n < 16 ^ k → replicate (k - length ds) 48 ++ ds ≡ hex k n
padded_hex zero m n ds e some enough small = absurd (omega arith)
padded_hex (suc k) m n ds e some enough small =
    ap (λ (l : List ℕ). replicate (suc k - length l) 48 ++ l) e
    ∙ ap (λ (j : ℕ). replicate (j - length (digits_onto (suc m) 16 true n [])) 48 ++ digits_onto (suc m) 16 true n []) {x = suc k} {y = suc k + 0} (omega arith)
    ∙ sym (hex_onto k m n [] (omega arith) small) ∙ append-nil (hex (suc k) n)

padded_zeros : (k : ℕ) (ds : List ℕ) → padded_integral (format_spec 32 0 4 k (2 ^ 64 - 1)) false [] ds ≡ replicate (k - length ds) 48 ++ ds
unfolding padded_integral char_count
padded_zeros k ds = (λ i. replicate (less i) 48 ++ append-nil ds i)
  where
    less : k - length ds - 0 - 0 ≡ k - length ds
    less = omega arith

pub padded_digits : (k n : ℕ) → 0 < k → k ≤ 64 → n < 16 ^ k → padded_integral (format_spec 32 0 4 k (2 ^ 64 - 1)) false [] (digits 16 true n) ≡ hex k n
padded_digits k n some enough small = padded_zeros k (digits 16 true n) ∙ padded_hex k 63 n (digits 16 true n) (spelled n) some enough small

-- a hole for a number, laid out as k digits, wrote `hex k`
pub wrote_hex : {W S : Type 0} (took : W → List ℕ → W → Type 0) (f : Formatter W) (r : Result (Unit {0}) Error) (g : Formatter W) (k n : ℕ) (o : Option (List ℕ)) (text : S → Option (List ℕ)) (s t : S)
    → s ≡ t → text t ≡ option_map (padded_integral (format_spec 32 0 4 k (2 ^ 64 - 1)) false []) o → o ≡ Some (digits 16 true n) → 0 < k → k ≤ 64 → n < 16 ^ k
    → DisplaysOnOk took f r (text s) g → WritesOnOk took f r (hex k n) g
wrote_hex took f r g k n o text s t e laid d some enough small h =
    subst (λ (u : Option (List ℕ)). DisplaysOnOk took f r u g)
    (ap text e ∙ laid ∙ ap (option_map (padded_integral (format_spec 32 0 4 k (2 ^ 64 - 1)) false [])) d ∙ ap (λ (l : List ℕ). Some l) (padded_digits k n some enough small)) h

pub address_short : (n : ℕ) → n < 0x100000 → hex 5 n ≡ hex_address n
unfolding hex_address
address_short n h = sym (cond-true (ltb n 0x100000) (hex 5 n) (hex 8 n) (lt-ltb n 0x100000 h))

pub address_long : (n : ℕ) → 0x100000 ≤ n → hex 8 n ≡ hex_address n
unfolding hex_address
address_long n h = sym (cond-false (ltb n 0x100000) (hex 5 n) (hex 8 n) (le-ltb n 0x100000 h))
