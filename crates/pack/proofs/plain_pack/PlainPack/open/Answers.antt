use Rattle.std.proofs.Common.{sym, ◌∙◌, rules}
use Rattle.pack.proofs.PlainDisk.{plain_lawful}
use Rattle.pack.proofs.plain_pack.PlainPack.open.Goals as goal

pub invariant_of-result-clause-drive : goal.invariant_of-result-clause-drive
invariant_of-result-clause-drive c =
    plain_lawful c.in-Ok.heads c.args.bytes.items (search rules) (search rules) (sym c.args.bytes.ok.0 ∙ search rules)
