use mathlib.Core.Path.{refl}
use Rattle.cdtext.specs.Packs.{size_record}
use Rattle.cdtext.proofs.packs.size_record.Goals as goal

pub returns : goal.returns
unfolding size_record
returns c = refl
