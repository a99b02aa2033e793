use Rattle.std.proofs.Common.{◌-◌, ◌^◌, ◌<◌, refl, arith, lit<, lit≤}
use Rattle.std.specs.Fmt.{digits_output, format_spec, styled_digits_output}
use Rattle.script.proofs.Digits.{wrote_hex}
use Rattle.script.proofs.hex.WordDisplay.fmt.Goals as goal

pub returns-clause-writes : goal.returns-clause-writes
returns-clause-writes g c =
    let small : c.args.self.now.0 < 65536 = omega arith in
    wrote_hex _ _ _ _ 4 _ (digits_output c.in_radix.result) (styled_digits_output c.in_radix.result) c.laid_out.result (format_spec 32 0 4 4 (2 ^ 64 - 1)) c.laid_out.ensures refl c.in_radix.ensures (lit< tt) (lit≤ tt) small c.write.ensures.writes
