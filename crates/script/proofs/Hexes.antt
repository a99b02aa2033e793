-- Hexadecimal digits, read back.
use Rattle.std.proofs.Common.{◌≡◌, ℕ, zero, suc, ◌*◌, ◌/◌, ◌%◌, ◌^◌, ◌<◌, ◌≤◌, true, [], ◌∷◌, length, Some, sym, refl, ap, ◌∙◌, subst, pow-suc, arith, length-append}
use Rattle.std.proofs.lemmas.Int.Digits.{digits_push, digits_value_push}
use Rattle.std.proofs.lemmas.Bool.Decides.{nat_tests}
use Rattle.std.specs.Str.Parse.{digits_value, AllDigits}
use Rattle.std.specs.Char.{digit_value}
use Rattle.std.specs.Fmt.{digit_glyph}
use Rattle.script.specs.Figures.{hex, number}
use Rattle.script.proofs.Reading.{number_is}

glyph_value : (d : ℕ) → d < 16 → digit_value (digit_glyph true d) ≡ d
glyph_value d h = grind (arith, nat_tests)

glyph_small : (d : ℕ) → d < 16 → digit_value (digit_glyph true d) < 16
glyph_small d h = omega (arith, glyph_value d h)

pub hex_digits : (k n : ℕ) → AllDigits 16 (hex k n)
unfolding hex
hex_digits zero n = tt
hex_digits (suc k) n = digits_push 16 (hex k (n / 16)) (digit_glyph true (n % 16)) (hex_digits k (n / 16)) (glyph_small (n % 16) (omega arith))

pub hex-length : (k n : ℕ) → length (hex k n) ≡ k
unfolding hex
hex-length zero n = refl
hex-length (suc k) n = length-append (hex k (n / 16)) (digit_glyph true (n % 16) ∷ []) ∙ omega (arith, hex-length k (n / 16))

hex_value : (k n : ℕ) → n < 16 ^ k → digits_value 16 (hex k n) ≡ n
unfolding hex
hex_value zero n h = let e : n < 1 = h in omega arith
hex_value (suc k) n h =
    let small : n < 16 ^ k * 16 = subst (λ (p : ℕ). n < p) (pow-suc 16 k) h in
    let front : digits_value 16 (hex k (n / 16)) ≡ n / 16 = hex_value k (n / 16) (omega arith) in
    digits_value_push 16 (hex k (n / 16)) (digit_glyph true (n % 16)) ∙ omega (arith, front, glyph_value (n % 16) (omega arith))

-- k digits, one or more, say their number, if it is in range
pub hex_says : (k n most : ℕ) → 0 < k → n < 16 ^ k → n ≤ most → number 16 most (hex k n) ≡ Some n
hex_says k n most some small bound =
    let v = hex_value k n small in
    number_is 16 most (hex k n) (subst (λ (l : ℕ). 0 < l) (sym (hex-length k n)) some, hex_digits k n) (subst (λ (x : ℕ). x ≤ most) (sym v) bound)
    ∙ ap (λ (x : ℕ). Some x) v

pub hex_some : (k n : ℕ) → 0 < k → 0 < length (hex k n)
hex_some k n some = subst (λ (l : ℕ). 0 < l) (sym (hex-length k n)) some
