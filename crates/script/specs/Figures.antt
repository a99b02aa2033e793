-- Numbers as they are written in scripts.
--   figures       whether every byte is a digit of the radix, in either case
--   number        what a word says as a number: digits only, and no more than `most`
--   word, byte, address, decimal   numbers in the ranges of scripts
--   hex           n in k hexadecimal digits, capital letters
--   hex_address   an address: five digits, or eight if it needs more than five
use Rattle.std.specs.Prelude.{ℕ, zero, suc, ◌/◌, ◌%◌, Bool, true, cond, ◌&&◌, List, [], ◌∷◌, ◌++◌, length, Some, None, Option, nat_le, nat_lt}
use Rattle.std.specs.Str.Parse.{digits_value}
use Rattle.std.specs.Char.{digit_value}
use Rattle.std.specs.Fmt.{digit_glyph}

unfoldable pub figures : ℕ → List ℕ → Bool
figures radix [] = true
figures radix (c ∷ cs) = nat_lt (digit_value c) radix && figures radix cs

unfoldable pub number : ℕ → ℕ → List ℕ → Option ℕ
number radix most w = cond (nat_lt 0 (length w) && (figures radix w && nat_le (digits_value radix w) most)) (Some (digits_value radix w)) None

abbrev pub word : List ℕ → Option ℕ
word w = number 16 0xFFFF w

abbrev pub byte : List ℕ → Option ℕ
byte w = number 16 0xFF w

abbrev pub address : List ℕ → Option ℕ
address w = number 16 0xFFFFF w

abbrev pub decimal : List ℕ → Option ℕ
decimal w = number 10 4294967295 w

unfoldable pub hex : ℕ → ℕ → List ℕ
hex zero n = []
hex (suc k) n = hex k (n / 16) ++ (digit_glyph true (n % 16) ∷ [])

unfoldable pub hex_address : ℕ → List ℕ
hex_address n = cond (nat_lt n 0x100000) (hex 5 n) (hex 8 n)
