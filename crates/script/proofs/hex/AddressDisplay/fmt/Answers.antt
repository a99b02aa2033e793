use Rattle.std.proofs.Common.{◌-◌, ◌^◌, ◌<◌, refl, subst, arith, lit<, lit≤}
use Rattle.std.specs.Fmt.{digits_output, format_spec, styled_digits_output, WritesOnOk}
use Rattle.script.proofs.Digits.{wrote_hex, address_short, address_long}
use Rattle.script.proofs.hex.AddressDisplay.fmt.Goals as goal

pub returns-then-address-lt1048576-clause-writes : goal.returns-then-address-lt1048576-clause-writes
returns-then-address-lt1048576-clause-writes g c =
    subst (λ t. WritesOnOk g.W.Write.write_str_gives c.args.f.now c.write.result t c.write.new.self) (address_short c.args.self.now.0 c.if-address-lt1048576.true)
    (wrote_hex _ _ _ _ 5 _ (digits_output c.in_radix.result) (styled_digits_output c.in_radix.result) c.laid_out.result (format_spec 32 0 4 5 (2 ^ 64 - 1)) c.laid_out.ensures refl c.in_radix.ensures (lit< tt) (lit≤ tt) c.if-address-lt1048576.true c.write.ensures.writes)

pub returns-else-address-lt1048576-clause-writes : goal.returns-else-address-lt1048576-clause-writes
returns-else-address-lt1048576-clause-writes g c =
    let radix = c.in_radix-else-address-lt1048576 in
    let write = c.write-else-address-lt1048576 in
    let small : c.args.self.now.0 < 4294967296 = omega arith in
    subst (λ t. WritesOnOk g.W.Write.write_str_gives c.args.f.now write.result t write.new.self) (address_long c.args.self.now.0 c.if-address-lt1048576.false)
    (wrote_hex _ _ _ _ 8 _ (digits_output radix.result) (styled_digits_output radix.result) c.laid_out-else-address-lt1048576.result (format_spec 32 0 4 8 (2 ^ 64 - 1)) c.laid_out-else-address-lt1048576.ensures refl radix.ensures (lit< tt) (lit≤ tt) small write.ensures.writes)
