use Rattle.std.proofs.lemmas.List.{take_rest}
use Rattle.pack.proofs.id_record.take_id.Goals as goal

pub returns : goal.returns
returns c = (rw c.from_be_bytes.ensures, take_rest c.args.bytes.now 5)
