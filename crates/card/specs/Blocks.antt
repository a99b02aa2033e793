-- The device control block, by its words, and what makes it lawful.
--   word_of            one of its eight words
--   chaining, input, key, modifier   the control word: bits 0, 2, 5 to 7, 8 to 15
--   downward, difference   the seek control word: bit 4, bits 7 to 15
--   flag, cylinder, head, sector   the search argument: words 2 low, 3, 4 high, 4 low
--   chain, count, data_address   words 5, 6, 7
--   control_clear, seek_clear   the bits of these words that have to be zero
--   operation_of       the operation by the modifier
--   input_fits, fits   the input flag goes with the operation; what the operation itself asks of its block
--   lawful             whether a block of Start passes the check, the head of a seek aside
--   lawful_status      whether a block of Start Cycle Steal Status passes it
--   sector_now, argument   what is searched for when some sectors are done
--   left               how many bytes are left when some sectors are done
use Rattle.std.specs.Prelude.{ℕ, ◌+◌, ◌-◌, ◌*◌, ◌/◌, ◌%◌, Bool, true, cond, not, ◌&&◌, ◌||◌, Some, None, Option, ◌==◌, bit_and, nat_le, slice_index}
use Rattle.drive.specs.declared.sector.SectorId.{SectorId}
use Rattle.card.specs.declared.control_block.Block.{Block}
use Rattle.card.specs.declared.control_block.Operation.{Operation}
use Rattle.card.specs.declared.control_block.Operation.TheVariants.{Seek, Recalibrate, ReadData, WriteData, ReadVerify}

abbrev pub word_of : Block → ℕ → ℕ
word_of b i = slice_index b.words i

abbrev pub even : ℕ → Bool
even n = n % 2 == 0

-- word 0
abbrev pub chaining : Block → Bool
chaining b = word_of b 0 / 32768 % 2 == 1

abbrev pub input : Block → Bool
input b = word_of b 0 / 8192 % 2 == 1

abbrev pub key : Block → ℕ
key b = word_of b 0 / 256 % 8

abbrev pub modifier : Block → ℕ
modifier b = word_of b 0 % 256

-- bits 1, 3 and 4 of the control word are not in use
abbrev pub control_clear : Block → Bool
control_clear b = bit_and (word_of b 0) 0x5800 == 0

-- word 1
abbrev pub downward : Block → Bool
downward b = word_of b 1 / 2048 % 2 == 1

abbrev pub difference : Block → ℕ
difference b = word_of b 1 % 512

-- all bits of the seek control word but those two fields
abbrev pub seek_clear : Block → Bool
seek_clear b = bit_and (word_of b 1) 0xF600 == 0

-- words 2 to 7
abbrev pub flag : Block → ℕ
flag b = word_of b 2 % 256

abbrev pub cylinder : Block → ℕ
cylinder b = word_of b 3

abbrev pub head : Block → ℕ
head b = word_of b 4 / 256

abbrev pub sector : Block → ℕ
sector b = word_of b 4 % 256

abbrev pub chain : Block → ℕ
chain b = word_of b 5

abbrev pub count : Block → ℕ
count b = word_of b 6

abbrev pub data_address : Block → ℕ
data_address b = word_of b 7

abbrev pub operation_of : ℕ → Option Operation
operation_of m =
    cond (m == 1) (Some WriteData)
    (cond (m == 5) (Some Seek)
    (cond (m == 7) (Some Recalibrate)
    (cond (m == 9) (Some ReadData)
    (cond (m == 12) (Some ReadVerify) None))))

-- the input flag goes with the operation
abbrev pub input_fits : Operation → Bool → Bool
input_fits ReadData i = i
input_fits WriteData i = not i
input_fits ReadVerify i = not i
input_fits Seek i = not i
input_fits Recalibrate i = not i

-- what the operation itself asks of its block
abbrev pub fits : Operation → Block → Bool
fits Seek b = seek_clear b
fits Recalibrate b = true
fits ReadData b = nat_le (sector b) 59 && even (count b) && even (data_address b)
fits WriteData b = nat_le (sector b) 59 && even (count b) && even (data_address b)
fits ReadVerify b = nat_le (sector b) 59 && not (count b == 0)

abbrev pub lawful : Operation → Block → Bool
lawful o b = control_clear b && input_fits o (input b) && (not (chaining b) || even (chain b)) && fits o b

-- word 0 is clear but for the input flag, which is one, and the key
abbrev pub lawful_status : Block → Bool
lawful_status b = bit_and (word_of b 0) 0xF8FF == 0x2000 && even (count b) && nat_le 2 (count b) && nat_le (count b) 8 && even (data_address b)

-- each sector done raises the argument's sector by one; it is a byte, and no run takes it past 59
abbrev pub sector_now : Block → ℕ → ℕ
sector_now b done = (sector b + done) % 256

abbrev pub argument : Block → ℕ → SectorId
argument b done = record { flag = flag b; cylinder = cylinder b; head = head b; sector = sector_now b done }

abbrev pub left : Block → ℕ → ℕ
left b done = count b - done * 256
