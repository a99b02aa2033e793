use Rattle.std.proofs.Common.{refl}
use Rattle.drive.specs.Disk.{no_bytes}
use Rattle.drive.specs.Search.{ids}
use Rattle.card.specs.Acts.{bytes_of, padded}
use Rattle.runs.specs.Examples.{marked_runs, further_runs}
use Rattle.runs.specs.Runs.{run}
use Rattle.card.specs.Words.{fetch_words, store_words, words_of}
use Rattle.runs.proofs.examples.marked_runs.Goals as goal

pub returns : goal.returns
unfolding marked_runs further_runs run fetch_words store_words words_of bytes_of padded ids no_bytes
returns c = record { count = refl; ends = refl; further = refl }
